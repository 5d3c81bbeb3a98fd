-- The terms of a dictionary, by what a method sees of its bytes.
use Rattle.std.proofs.Common.{◌≡◌, ◌≢◌, ℕ, ◌<◌, List, length, get_or, sym, ap, subst, ◌∙◌, arith, Option, Some, None, [], unwrap_or, MatchOption, Contains, IsSomeAnd, slice_get}
use Rattle.std.proofs.lemmas.List.FromFn.{length-map-range_with_len, get_or-map-range_with_len}
use Rattle.std.proofs.lemmas.Option.{slice_get-get_or}
use Rattle.seg_common.specs.declared.term_info.TermInfo.{TermInfo}
use Rattle.seg_termdict.specs.Dictionary.{Term, count_of, ends_of, keys_of, infos_of, key_of, info_of, term_of, terms_in, terms_of}
use Rattle.seg_termdict.specs.DictionaryBuilders.{Building, complete}
use Rattle.seg_termdict.specs.LookUps.{Lacks, HasKeyAt}

length-terms_of : (bytes : List ℕ) → length (terms_of bytes) ≡ count_of bytes
unfolding terms_of terms_in
length-terms_of bytes = length-map-range_with_len (term_of (ends_of bytes) (keys_of bytes) (infos_of bytes)) 0 (count_of bytes)

-- bytes of a dictionary without a term count none
pub none_counted : (bytes : List ℕ) → Some (complete (terms_of bytes)) ≡ Some (complete []) → 0 ≡ count_of bytes
none_counted bytes e =
    let none : terms_of bytes ≡ [] = ap (λ (o : Option Building). (unwrap_or o (complete [])).terms) e in
    sym (ap length none) ∙ length-terms_of bytes

term_at : (bytes : List ℕ) (i : ℕ) (d : Term) → i < count_of bytes → get_or (terms_of bytes) i d ≡ term_of (ends_of bytes) (keys_of bytes) (infos_of bytes) i
unfolding terms_of terms_in
term_at bytes i d h = get_or-map-range_with_len (term_of (ends_of bytes) (keys_of bytes) (infos_of bytes)) 0 (count_of bytes) i i d h (omega arith)

-- the bytes, and the count kept beside them, of a dictionary that is seen as some terms
module _ (bytes : List ℕ) (count : ℕ) (terms : List Term) (counted : count ≡ count_of bytes) (view : terms_of bytes ≡ terms) where
  pub seen_length : length terms ≡ count
  seen_length = ap length (sym view) ∙ length-terms_of bytes ∙ sym counted

  pub seen_term : (i : ℕ) (d : Term) → i < count → get_or terms i d ≡ (key_of (ends_of bytes) (keys_of bytes) i, info_of (infos_of bytes) i)
  seen_term i d h = ap (λ (ts : List Term). get_or ts i d) (sym view) ∙ term_at bytes i d (omega (arith, counted))

  seen_get : (i : ℕ) → i < count → slice_get terms i ≡ Some (key_of (ends_of bytes) (keys_of bytes) i, info_of (infos_of bytes) i)
  seen_get i h =
      let d : Term = (key_of (ends_of bytes) (keys_of bytes) i, info_of (infos_of bytes) i) in
      slice_get-get_or terms i d (omega (arith, seen_length)) ∙ ap Some (seen_term i d h)

  pub seen_key : (i : ℕ) (key : List ℕ) → i < count → key_of (ends_of bytes) (keys_of bytes) i ≡ key → HasKeyAt terms i key
  seen_key i key h e = subst (λ (o : Option Term). IsSomeAnd o (λ t. t.0 ≡ key)) (sym (seen_get i h)) e

  pub seen_info : (i : ℕ) (info : TermInfo) → i < count → info ≡ info_of (infos_of bytes) i → IsSomeAnd (slice_get terms i) (λ t. t.1 ≡ info)
  seen_info i info h e = subst (λ (o : Option Term). IsSomeAnd o (λ t. t.1 ≡ info)) (sym (seen_get i h)) (sym e)

  pub seen_none : (key : List ℕ) → ((i : ℕ) → i < count → key_of (ends_of bytes) (keys_of bytes) i ≢ key) → Lacks terms key
  seen_none key none i d h e =
      let lt : i < count = omega (arith, seen_length, h) in
      none i lt (sym (ap (λ (t : Term). t.0) (seen_term i d lt)) ∙ e)

-- a place with a key and an info has them both
pub pair_at : (terms : List Term) (i : ℕ) (key : List ℕ) (info : TermInfo) → i < length terms → HasKeyAt terms i key → IsSomeAnd (slice_get terms i) (λ t. t.1 ≡ info) → Contains terms (key, info)
pair_at terms i key info h k v =
    let d : Term = (key, info) in
    let e : slice_get terms i ≡ Some (get_or terms i d) = slice_get-get_or terms i d h in
    let at_key : (get_or terms i d).0 ≡ key = subst (λ (o : Option Term). IsSomeAnd o (λ t. t.0 ≡ key)) e k in
    let at_info : (get_or terms i d).1 ≡ info = subst (λ (o : Option Term). IsSomeAnd o (λ t. t.1 ≡ info)) e v in
    (i, h, λ j. (at_key j, at_info j))

-- an answer that says more
pub weaker : {X : Type 0} {P P' : Type 0} {Q Q' : X → Type 0} (o : Option X) → MatchOption o P Q → (P → P') → ((x : X) → Q x → Q' x) → MatchOption o P' Q'
weaker None m p q = p m
weaker (Some x) m p q = q x m
