-- What the builder of a dictionary keeps, after one more key or info.
use Rattle.std.proofs.Common.{◌≡◌, ℕ, zero, suc, ◌+◌, ◌-◌, ◌^◌, ◌<◌, ◌≤◌, true, false, List, [], ◌∷◌, ◌++◌, length, drop, refl, sym, ap, subst, ◌∙◌, arith, inl, inr, Option, Some, None, IfSome, IsSome, is_some, unwrap_or, add-one}
use Rattle.std.specs.Int.{w64, to_le_bytes}
use Rattle.std.specs.Ordering.{nat_cmp}
use Rattle.std.specs.Cmp.Lexicographic.{slice_cmp}
use Rattle.std.specs.declared.cmp.Ordering.TheVariants.{Less}
use Rattle.std.proofs.lemmas.Bool.{cases_lt, lt-ltb, le-ltb}
use Rattle.std.proofs.lemmas.List.{length-append}
use Rattle.seg_common.specs.declared.term_info.TermInfo.{TermInfo}
use Rattle.seg_common.proofs.Bytes.{u64_at-written, u64_at-end}
use Rattle.seg_termdict.specs.Dictionary.{Term, key_of, term_of, terms_in, postings_start, positions_start, info_of}
use Rattle.seg_termdict.specs.DictionaryBuilders.{Building, complete, with_key, with_info, last_term, MayFollow, postings_end, positions_end, Continues}
use Rattle.seg_termdict.specs.BuilderTables.{AreWritten, waiting_in, written, info_bytes, HasWidths}
use Rattle.seg_termdict.proofs.LastTerm.{last_term-terms_in, terms_in-more, terms_in-same}
use Rattle.seg_termdict.proofs.DictionaryKeys.{key_start-first, last_key, key_of-front, start_before, key_after, keys_after}
use Rattle.seg_termdict.proofs.DictionaryInfos.{IsNext, info_of-front, info_after, infos_after, postings_from_after, positions_from_after}

-- ---- whether a key waits

pub waits : (ends keys : List ℕ) (n m : ℕ) → m < n → waiting_in ends keys n m ≡ Some (key_of ends keys m)
waits ends keys n m h = rw (lt-ltb m n h) refl

pub waits_not : (ends keys : List ℕ) (n m : ℕ) → n ≤ m → waiting_in ends keys n m ≡ None
waits_not ends keys n m h = rw (le-ltb m n h) refl

pub none_waits : (ends keys : List ℕ) (n m : ℕ) → waiting_in ends keys n m ≡ None → n ≤ m
none_waits ends keys n m h = elim (cases_lt m n) [
  | inl lt ↦ absurd (let e : Some (key_of ends keys m) ≡ None = sym (waits ends keys n m lt) ∙ h in cc)
  | inr le ↦ le
]

pub one_waits : (ends keys : List ℕ) (n m : ℕ) → IsSome (waiting_in ends keys n m) → m < n
one_waits ends keys n m h = elim (cases_lt m n) [
  | inl lt ↦ lt
  | inr le ↦ absurd (let e : false ≡ true = sym (ap is_some (waits_not ends keys n m le)) ∙ h in cc)
]

-- ---- the last term

pub follows : (ends keys infos key : List ℕ) (n : ℕ) → MayFollow (terms_in ends keys infos n) key → 0 < n → slice_cmp nat_cmp (key_of ends keys (n - 1)) key ≡ Less
follows ends keys infos key zero h lt = absurd (omega arith)
follows ends keys infos key (suc n) h lt =
    let e : suc n - 1 ≡ n = omega arith in
    rw e (subst (λ (o : Option Term). IfSome o (λ t. slice_cmp nat_cmp t.0 key ≡ Less)) (last_term-terms_in ends keys infos n) h)

pub may_follow : (ends keys infos key : List ℕ) (n : ℕ) → slice_cmp nat_cmp (key_of ends keys (n - 1)) key ≡ Less → MayFollow (terms_in ends keys infos n) key
unfolding terms_in
may_follow ends keys infos key zero h = tt
may_follow ends keys infos key (suc n) h =
    let e : suc n - 1 ≡ n = omega arith in
    rw (last_term-terms_in ends keys infos n) (subst (λ (i : ℕ). slice_cmp nat_cmp (key_of ends keys i) key ≡ Less) e h)

pub follows_none : (ends keys infos key : List ℕ) → MayFollow (terms_in ends keys infos 0) key
unfolding terms_in
follows_none ends keys infos key = tt

pub postings_end-is : (ends keys infos : List ℕ) (n : ℕ) → postings_start infos 0 ≡ 0 → postings_end (last_term None (terms_in ends keys infos n)) ≡ postings_start infos n
unfolding terms_in info_of
postings_end-is ends keys infos zero h = sym h
postings_end-is ends keys infos (suc n) h = ap postings_end (last_term-terms_in ends keys infos n) ∙ ap (postings_start infos) (add-one n)

pub positions_end-is : (ends keys infos : List ℕ) (n : ℕ) → positions_start infos 0 ≡ 0 → positions_end (last_term None (terms_in ends keys infos n)) ≡ positions_start infos n
unfolding terms_in info_of
positions_end-is ends keys infos zero h = sym h
positions_end-is ends keys infos (suc n) h = ap positions_end (last_term-terms_in ends keys infos n) ∙ ap (positions_start infos) (add-one n)

-- ---- no key yet

pub none_written : AreWritten [] [] (([] ++ to_le_bytes w64 0) ++ to_le_bytes w64 0) 0 0 0
unfolding postings_start positions_start
none_written = record {
  ends_length = refl;
  infos_length = refl;
  keys_are = record { rise = λ i h. absurd (omega arith); fill = key_start-first []; ascend = λ i h. absurd (omega arith) };
  infos_are = record { first_postings = λ h. absurd (omega arith); first_positions = λ h. absurd (omega arith); postings = λ i h. absurd (omega arith); positions = λ i h. absurd (omega arith) };
  postings_from = u64_at-written [] (to_le_bytes w64 0) 0 0 (omega arith) refl;
  positions_from = u64_at-end (to_le_bytes w64 0) 0 8 (omega arith) refl;
  fewer = omega arith;
  one_waits = omega arith;
  last = sym (key_start-first []);
}

pub none_view : (ends keys infos : List ℕ) → written ends keys infos 0 0 ≡ complete []
unfolding terms_in
none_view ends keys infos = refl

module _ (ends keys infos : List ℕ) (n m last : ℕ) (b : Building) (w : AreWritten ends keys infos n m last) (view : written ends keys infos n m ≡ b) where
  terms_are : terms_in ends keys infos m ≡ b.terms
  terms_are = ap (λ (x : Building). x.terms) view

  waiting_is : waiting_in ends keys n m ≡ b.waiting
  waiting_is = ap (λ (x : Building). x.waiting) view

  pub none_more : b.waiting ≡ None → n ≡ m
  none_more none = omega (arith, none_waits ends keys n m (waiting_is ∙ none), w.fewer)

  pub terms_seen : b.waiting ≡ None → terms_in ends keys infos n ≡ b.terms
  terms_seen none = ap (terms_in ends keys infos) (none_more none) ∙ terms_are

  -- the last key, as the code cuts it off
  pub last_from : 0 < n → drop last keys ≡ key_of ends keys (n - 1)
  last_from h = rw w.last (last_key ends keys n w.keys_are h)

  -- ---- one more key, and where it ends
  module _ (key : List ℕ) (start end : ℕ) (none : b.waiting ≡ None) (above : MayFollow b.terms key) (from : start ≡ length keys) (to : length (keys ++ key) ≡ end) (small : end < 2 ^ 64) where
    greater : 0 < n → slice_cmp nat_cmp (key_of ends keys (n - 1)) key ≡ Less
    greater = follows ends keys infos key n (subst (λ (ts : List Term). MayFollow ts key) (sym terms_are ∙ ap (terms_in ends keys infos) (sym (none_more none))) above)

    pub key_keeps : AreWritten (ends ++ to_le_bytes w64 end) (keys ++ key) infos (n + 1) m start
    key_keeps =
        let e : n + 1 - 1 ≡ n = omega arith in
        record {
          ends_length = omega (arith, length-append ends (to_le_bytes w64 end), w.ends_length);
          infos_length = w.infos_length;
          keys_are = keys_after ends keys key n end w.keys_are w.ends_length to small greater;
          infos_are = w.infos_are;
          postings_from = w.postings_from;
          positions_from = w.positions_from;
          fewer = omega (arith, w.fewer);
          one_waits = omega (arith, none_more none);
          last = rw e (from ∙ sym (start_before ends keys key n end w.keys_are w.ends_length to small));
        }

    pub key_view : written (ends ++ to_le_bytes w64 end) (keys ++ key) infos (n + 1) m ≡ with_key key b
    key_view =
        let more = to_le_bytes w64 end in
        let same : n ≡ m = none_more none in
        let terms : terms_in (ends ++ more) (keys ++ key) infos m ≡ b.terms = terms_in-same (ends ++ more) (keys ++ key) infos ends keys infos m (λ i h. ap (λ (k : List ℕ). (k, info_of infos i)) (key_of-front ends more keys key n i w.keys_are w.ends_length (omega arith))) ∙ terms_are in
        let waiting : waiting_in (ends ++ more) (keys ++ key) (n + 1) m ≡ Some key = waits (ends ++ more) (keys ++ key) (n + 1) m (omega arith) ∙ ap (λ (i : ℕ). Some (key_of (ends ++ more) (keys ++ key) i)) (sym same) ∙ ap Some (key_after ends keys key n end w.keys_are w.ends_length to small) in
        λ i. record { terms = terms i; waiting = waiting i }

  -- ---- the info of the key that waits
  module _ (info : TermInfo) (some : IsSome b.waiting) (more : Continues b.terms info) (fit : HasWidths info) where
    pub one_more : n ≡ m + 1
    one_more = omega (arith, one_waits ends keys n m (subst (λ (o : Option (List ℕ)). IsSome o) (sym waiting_is) some), w.one_waits)

    next : IsNext infos m info
    next = record {
      postings = more.postings ∙ ap (λ (ts : List Term). postings_end (last_term None ts)) (sym terms_are) ∙ postings_end-is ends keys infos m w.postings_from;
      positions = more.positions ∙ ap (λ (ts : List Term). positions_end (last_term None ts)) (sym terms_are) ∙ positions_end-is ends keys infos m w.positions_from;
      postings_rise = more.postings_rise;
      positions_rise = more.positions_rise;
    }

    pub info_keeps : AreWritten ends keys (infos ++ info_bytes info) n (m + 1) last
    info_keeps = record {
      ends_length = w.ends_length;
      infos_length = omega (arith, length-append infos (info_bytes info), w.infos_length);
      keys_are = w.keys_are;
      infos_are = infos_after infos m info w.infos_length fit w.infos_are next w.postings_from w.positions_from;
      postings_from = postings_from_after infos m info w.infos_length fit ∙ w.postings_from;
      positions_from = positions_from_after infos m info w.infos_length fit ∙ w.positions_from;
      fewer = omega (arith, one_more);
      one_waits = omega (arith, one_more);
      last = w.last;
    }

    pub info_view : written ends keys (infos ++ info_bytes info) n (m + 1) ≡ with_info info b
    info_view =
        let infos' = infos ++ info_bytes info in
        let waited : b.waiting ≡ Some (key_of ends keys m) = sym waiting_is ∙ waits ends keys n m (omega (arith, one_more)) in
        let front : terms_in ends keys infos' m ≡ b.terms = terms_in-same ends keys infos' ends keys infos m (λ i h. ap (λ (x : TermInfo). (key_of ends keys i, x)) (info_of-front infos (info_bytes info) m i w.infos_length h)) ∙ terms_are in
        let term : term_of ends keys infos' m ≡ (unwrap_or b.waiting [], info) = rw (waited, info_after infos m info w.infos_length fit next) refl in
        let terms : terms_in ends keys infos' (m + 1) ≡ b.terms ++ (unwrap_or b.waiting [], info) ∷ [] = terms_in-more ends keys infos' m ∙ ap (λ (ts : List Term). ts ++ term_of ends keys infos' m ∷ []) front ∙ ap (λ (t : Term). b.terms ++ t ∷ []) term in
        let waiting : waiting_in ends keys n (m + 1) ≡ None = waits_not ends keys n (m + 1) (omega (arith, one_more)) in
        λ i. record { terms = terms i; waiting = waiting i }
