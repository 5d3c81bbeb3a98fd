-- What the look-up of a term's bytes tells of the postings that a field has at them.
use Rattle.std.proofs.Common.{◌≡◌, ℕ, zero, suc, ◌<◌, Bool, true, false, T, List, [], ◌∷◌, map, length, get_or, refl, sym, ap, ◌∙◌, subst, arith, inl, inr}
use Rattle.std.specs.Prelude.{cond, Option, Some, None, unwrap_or, option_map, IfSome, MatchOption, ⊤}
use Rattle.std.specs.Cmp.Lexicographic.{slice_cmp}
use Rattle.std.specs.FinMap.{find, is_sorted, get, entries, entries_sorted, get-entries, get-empty, empty}
use Rattle.std.specs.FinMap.Entries.{below_all}
use Rattle.std.specs.List.{AllByRecursion, Contains, slice_get}
use Rattle.std.specs.Ordering.{nat_cmp, is_lt, is_eq, eq_by_cmp}
use Rattle.std.specs.declared.cmp.Ordering.{Ordering}
use Rattle.std.specs.declared.cmp.Ordering.TheVariants.{Less, Equal, Greater}
use Rattle.std.proofs.lemmas.Bool.{false≢true, and_parts}
use Rattle.std.proofs.lemmas.Option.{slice_get_cases, slice_get-map, get_or_from_slice_get, MatchOption-at_some}
use Rattle.std.proofs.lemmas.List.{get_or_past, length-map}
use Rattle.seg_segment.proofs.Exports.{pair_of, term_of}
use Rattle.seg_common.specs.declared.term_info.TermInfo.{TermInfo}
use Rattle.seg_common.proofs.Bools.{true_of}
use Rattle.seg_common.proofs.TabulatedMaps.{same_key, texts_apart}
use Rattle.seg_common.proofs.Bytes.{eq_by_cmp-itself}
use Rattle.seg_model.specs.DocumentTerms.{Posting}
use Rattle.seg_model.specs.Postings.{terms_of_field, documents_with}
use Rattle.seg_termdict.specs.Dictionary.{Term}
use Rattle.seg_termdict.specs.LookUps.{Lacks}
use Rattle.seg_postings.specs.OpenedFields.{ReadTerm, OpenField, dictionary_terms, written_terms}
use Rattle.seg_postings.specs.TermMaps.{terms_held}
use Rattle.seg_open.specs.OpenSegment.{terms_in}
use Rattle.seg_batches.proofs.DroppedNumbers.{documents_of}

-- the postings at some bytes, among terms
abbrev at_bytes : List ℕ → List ReadTerm → Option (List Posting)
at_bytes key ts = find (slice_cmp nat_cmp) key (map pair_of ts)

apart : (r : Ordering) → is_eq r ≡ true → is_lt r ≡ true → ⊥
apart Less e l = false≢true e
apart Equal e l = false≢true l
apart Greater e l = false≢true e

above : (key k : List ℕ) → is_lt (slice_cmp nat_cmp k key) ≡ true → eq_by_cmp (slice_cmp nat_cmp) key k ≡ false
above key k less = by (eq_by_cmp (slice_cmp nat_cmp) key k) refl
  where
    by : (b : Bool) → eq_by_cmp (slice_cmp nat_cmp) key k ≡ b → b ≡ false
    by false e = refl
    by true e =
        absurd (apart (slice_cmp nat_cmp k key) (ap (λ q. eq_by_cmp (slice_cmp nat_cmp) k q) (same_key texts_apart key k e) ∙ eq_by_cmp-itself k) less)

-- ---- among terms

lacking : (key : List ℕ) (ts : List ReadTerm) → Lacks (map term_of ts) key → at_bytes key ts ≡ None
lacking key [] none = refl
lacking key (t ∷ ts) none =
    by (lacking key ts (λ k d lt. none (suc k) d (omega arith))) (eq_by_cmp (slice_cmp nat_cmp) key t.bytes) refl
  where
    by : at_bytes key ts ≡ None → (b : Bool) → eq_by_cmp (slice_cmp nat_cmp) key t.bytes ≡ b
        → cond b (Some t.postings) (at_bytes key ts) ≡ None
    by rest true e = absurd (none 0 (term_of t) (omega arith) (sym (same_key texts_apart key t.bytes e)))
    by rest false e = rest

below_at : (x : List ℕ) (ts : List ReadTerm) (k : ℕ) (d : Term) → k < length (map term_of ts)
    → below_all (slice_cmp nat_cmp) x (map pair_of ts) ≡ true
    → is_lt (slice_cmp nat_cmp x (get_or (map term_of ts) k d).0) ≡ true
below_at x [] k d lt all = absurd (omega arith)
below_at x (t ∷ ts) zero d lt all = (and_parts _ _ all).0
below_at x (t ∷ ts) (suc k) d lt all = below_at x ts k d (omega arith) (and_parts _ _ all).1

held : (key : List ℕ) (info : TermInfo) (left : List Posting) (ts : List ReadTerm) (k : ℕ)
    → is_sorted (slice_cmp nat_cmp) (map pair_of ts) ≡ true → k < length (map term_of ts)
    → get_or (map term_of ts) k (key, info) ≡ (key, info)
    → AllByRecursion (λ (t : ReadTerm). t.info ≡ info → left ≡ t.postings) ts → at_bytes key ts ≡ Some left
held key info left [] k sorted lt is all = absurd (omega arith)
held key info left (t ∷ ts) zero sorted lt is all =
    let same : key ≡ t.bytes = ap (λ (x : Term). x.0) (sym is) in
    let tied : eq_by_cmp (slice_cmp nat_cmp) key t.bytes ≡ true = ap (λ q. eq_by_cmp (slice_cmp nat_cmp) key q) (sym same) ∙ eq_by_cmp-itself key in
    ap (λ b. cond b (Some t.postings) (at_bytes key ts)) tied ∙ ap (λ ps. Some ps) (sym (all.0 (ap (λ (x : Term). x.1) is)))
held key info left (t ∷ ts) (suc k) sorted lt is all =
    let low = below_at t.bytes ts k (key, info) (omega arith) (and_parts _ _ sorted).0 in
    let other = above key t.bytes (ap (λ (x : Term). is_lt (slice_cmp nat_cmp t.bytes x.0)) (sym is) ∙ low) in
    ap (λ b. cond b (Some t.postings) (at_bytes key ts)) other ∙ held key info left ts k (and_parts _ _ sorted).1 (omega arith) is all.1

-- ---- in a field

module _ (f : OpenField) (ascend : entries (terms_held (written_terms f)) ≡ map pair_of f.terms) (key : List ℕ) where
  got : get (terms_held (written_terms f)) key ≡ at_bytes key f.terms
  got = get-entries (terms_held (written_terms f)) key ∙ ap (find (slice_cmp nat_cmp) key) ascend

  none_in_field : Lacks (dictionary_terms f) key → documents_with (terms_in (Some f)) key ≡ []
  none_in_field none = ap (λ o. documents_of (unwrap_or o [])) (got ∙ lacking key f.terms none)

  some_in_field : (info : TermInfo) (left : List Posting) → Contains (dictionary_terms f) (key, info)
      → AllByRecursion (λ (t : ReadTerm). t.info ≡ info → left ≡ t.postings) f.terms
      → documents_with (terms_in (Some f)) key ≡ documents_of left
  some_in_field info left here all =
      let sorted = true_of _ (subst (λ es. T (is_sorted (slice_cmp nat_cmp) es)) ascend (entries_sorted (terms_held (written_terms f)))) in
      ap (λ o. documents_of (unwrap_or o [])) (got ∙ held key info left f.terms here.0 sorted here.1 here.2 all)

-- ---- in a segment

no_terms : (key : List ℕ) → documents_with empty key ≡ []
no_terms key = ap (λ o. documents_of (unwrap_or o [])) (get-empty (slice_cmp nat_cmp) key)

module _ (fields : List (Option OpenField)) (field : ℕ) where
  field_at : (o : Option OpenField) → slice_get fields field ≡ Some o
      → terms_of_field (map terms_in fields) field ≡ terms_in o
  field_at o is =
      get_or_from_slice_get (map terms_in fields) field (terms_in o) empty (slice_get-map terms_in fields field ∙ ap (λ x. option_map terms_in x) is)

  -- a field that isn't open has no terms
  pub none_where_closed : IfSome (slice_get fields field) (λ o. o ≡ None) → (key : List ℕ)
      → documents_with (terms_of_field (map terms_in fields) field) key ≡ []
  none_where_closed closed key = elim (slice_get_cases fields field).1 [
    | inl w ↦ let none : w.0 ≡ None = MatchOption-at_some ⊤ (λ o. o ≡ None) w.0 w.2 closed in
        ap (λ t. documents_with t key) (field_at w.0 w.2 ∙ ap terms_in none) ∙ no_terms key
    | inr w ↦ ap (λ t. documents_with t key) (get_or_past (map terms_in fields) field empty (omega (arith, w.0, length-map fields terms_in))) ∙ no_terms key
  ]

  module _ (f : OpenField) (is_open : slice_get fields field ≡ Some (Some f))
      (ascend : entries (terms_held (written_terms f)) ≡ map pair_of f.terms) (key : List ℕ) where
    of_field : documents_with (terms_of_field (map terms_in fields) field) key ≡ documents_with (terms_in (Some f)) key
    of_field = ap (λ t. documents_with t key) (field_at (Some f) is_open)

    -- bytes that are no term of the field's dictionary name no document
    pub none_where_lacking : Lacks (dictionary_terms f) key
        → documents_with (terms_of_field (map terms_in fields) field) key ≡ []
    none_where_lacking none = of_field ∙ none_in_field f ascend key none

    -- those of a term name the documents of its postings
    pub documents_where_found : (info : TermInfo) (left : List Posting) → Contains (dictionary_terms f) (key, info)
        → AllByRecursion (λ (t : ReadTerm). t.info ≡ info → left ≡ t.postings) f.terms
        → documents_with (terms_of_field (map terms_in fields) field) key ≡ documents_of left
    documents_where_found info left here all = of_field ∙ some_in_field f ascend key info left here all

-- an answer that is none
pub answers_none : {X : Type 0} (o : Option X) (P : Type 0) (Q : X → Type 0) → o ≡ None → P → MatchOption o P Q
answers_none o P Q none p = subst (λ r. MatchOption r P Q) (sym none) p
