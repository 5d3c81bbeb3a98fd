-- The documents that are named, out of some.
use Rattle.std.proofs.Common.{◌≡◌, ℕ, zero, suc, ◌+◌, ◌<◌, ◌≤◌, Bool, true, false, List, [], ◌∷◌, map, refl, sym, ap, subst, ◌∙◌, inl, inr, arith}
use Rattle.std.specs.Prelude.{◌||◌, cond, nat_eq, Option, Some, None, unwrap_or}
use Rattle.std.specs.Cmp.Lexicographic.{slice_cmp}
use Rattle.std.specs.FinMap.{empty, get, get-empty}
use Rattle.std.specs.List.{filter, range_with_len, slice_get}
use Rattle.std.specs.Ordering.{nat_cmp}
use Rattle.std.proofs.lemmas.Bool.Decides.{nat_tests}
use Rattle.std.proofs.lemmas.List.{get_or_past}
use Rattle.std.proofs.lemmas.Option.{slice_get_cases}
use Rattle.seg_values.specs.declared.schema.FieldEntry.{FieldEntry}
use Rattle.seg_values.specs.declared.schema.IndexOption.{IndexOption}
use Rattle.seg_values.specs.declared.schema.IndexOption.TheVariants.{Basic}
use Rattle.seg_model.specs.Fields.{is_indexed}
use Rattle.seg_model.specs.DocumentTerms.{Posting, term_option}
use Rattle.seg_model.specs.Shape.{ArePostings, HasFullShape}
use Rattle.seg_model.specs.Postings.{documents_with, is_member, terms_of_field}
use Rattle.seg_open.specs.OpenSegment.{OpenSegment, contents_of, terms_in}
use Rattle.seg_batches.specs.AppliedDeletes.{named_below}
use Rattle.seg_batches.proofs.DroppedNumbers.{documents_of}

-- ---- among those that pass

-- one that isn't the first is among the others
among_others : (i x : ℕ) (xs : List ℕ) (b : Bool) → nat_eq i x ≡ false → is_member i (cond b (x ∷ xs) xs) ≡ is_member i xs
among_others i x xs true apart = ap (λ t. t || is_member i xs) apart
among_others i x xs false apart = refl

-- the first is where it passes
is_first : (i x : ℕ) (xs : List ℕ) (b : Bool) → nat_eq i x ≡ true → is_member i xs ≡ false → is_member i (cond b (x ∷ xs) xs) ≡ b
is_first i x xs true same none = ap (λ t. t || is_member i xs) same
is_first i x xs false same none = none

module _ (p : ℕ → Bool) where
  -- those from a number on that pass
  abbrev passing : ℕ → ℕ → List ℕ
  passing from n = filter p (range_with_len from n)

  -- one before them isn't among them
  is_before : (from n i : ℕ) → i < from → is_member i (passing from n) ≡ false
  is_before from zero i less = refl
  is_before from (suc n) i less =
      among_others i from (passing (from + 1) n) (p from) (grind (arith, nat_tests)) ∙ is_before (from + 1) n i (omega (arith, less))

  at_or_after : (from n i : ℕ) → from ≤ i → (from + 1 ≤ i → is_member i (passing (from + 1) n) ≡ p i)
      → (b : Bool) → nat_eq i from ≡ b → is_member i (passing from (suc n)) ≡ p i
  at_or_after from n i ge rest true same =
      let place : from ≡ i = grind (arith, nat_tests) in
      is_first i from (passing (from + 1) n) (p from) same (is_before (from + 1) n i (omega (arith, place))) ∙ ap p place
  at_or_after from n i ge rest false apart =
      let after : from + 1 ≤ i = grind (arith, nat_tests) in
      among_others i from (passing (from + 1) n) (p from) apart ∙ rest after

  -- one from the first on is among them where it passes
  pub is_among : (from n i : ℕ) → from ≤ i → i < from + n → is_member i (passing from n) ≡ p i
  is_among from zero i ge lt = absurd (omega (arith, ge, lt))
  is_among from (suc n) i ge lt =
      at_or_after from n i ge (λ after. is_among (from + 1) n i after (omega (arith, lt))) (nat_eq i from) refl

-- ---- postings

-- a number before the documents of postings isn't among them
not_before : (option : IndexOption) (first last i : ℕ) (ps : List Posting) → ArePostings option first last ps → i < first
    → is_member i (documents_of ps) ≡ false
not_before option first last i [] are less = refl
not_before option first last i (q ∷ ps) are less =
    let apart : nat_eq i q.document ≡ false = (let low = are.0 in grind (arith, nat_tests)) in
    ap (λ t. t || is_member i (documents_of ps)) apart ∙ not_before option (q.document + 1) last i ps are.3 (omega (arith, are.0, less))

module _ (p : ℕ → Bool) (option : IndexOption) (last : ℕ) where
  -- whether the numbers from one on pass that are documents of postings
  abbrev PassFrom : ℕ → List Posting → Type 0
  PassFrom from ps = (i : ℕ) → from ≤ i → p i ≡ is_member i (documents_of ps)

  -- postings name just those that pass
  abbrev AreNamed : ℕ → ℕ → List Posting → Type 0
  AreNamed from n ps = documents_of ps ≡ filter p (range_with_len from n)

  next : (from n : ℕ) (q : Posting) (ps : List Posting) → ArePostings option from last (q ∷ ps) → PassFrom from (q ∷ ps)
      → (ArePostings option (from + 1) last ps → PassFrom (from + 1) ps → AreNamed (from + 1) n ps)
      → (ArePostings option (from + 1) last (q ∷ ps) → PassFrom (from + 1) (q ∷ ps) → AreNamed (from + 1) n (q ∷ ps))
      → (b : Bool) → nat_eq q.document from ≡ b → AreNamed from (suc n) (q ∷ ps)
  next from n q ps are same this other true is =
      let place : q.document ≡ from = grind (arith, nat_tests) in
      let itself : nat_eq from q.document ≡ true = grind (arith, nat_tests) in
      let passes : p from ≡ true = same from (omega arith) ∙ ap (λ t. t || is_member from (documents_of ps)) itself in
      let later = this (subst (λ d. ArePostings option (d + 1) last ps) place are.3)
      (λ i ge. same i (omega (arith, ge)) ∙ ap (λ t. t || is_member i (documents_of ps)) (let apart : nat_eq i q.document ≡ false = grind (arith, nat_tests) in apart)) in
      ap (λ d. d ∷ documents_of ps) place
      ∙ ap (λ l. from ∷ l) later
      ∙ sym (ap (λ b. cond b (from ∷ filter p (range_with_len (from + 1) n)) (filter p (range_with_len (from + 1) n))) passes)
  next from n q ps are same this other false is =
      let low = are.0 in
      let above : from + 1 ≤ q.document = grind (arith, nat_tests) in
      let apart : nat_eq from q.document ≡ false = grind (arith, nat_tests) in
      let fails : p from ≡ false = same from (omega arith) ∙ ap (λ t. t || is_member from (documents_of ps)) apart
      ∙ not_before option (q.document + 1) last from ps are.3 (omega (arith, above)) in
      other (above, are.1, are.2, are.3) (λ i ge. same i (omega (arith, ge)))
      ∙ sym (ap (λ b. cond b (from ∷ filter p (range_with_len (from + 1) n)) (filter p (range_with_len (from + 1) n))) fails)

  ascending_named : (from n : ℕ) → from + n ≡ last → (ps : List Posting) → ArePostings option from last ps → PassFrom from ps
      → AreNamed from n ps
  ascending_named from zero end [] are same = refl
  ascending_named from zero end (q ∷ ps) are same = absurd (omega (arith, end, are.0, are.1))
  ascending_named from (suc n) end [] are same =
      ascending_named (from + 1) n (omega (arith, end)) [] tt (λ i ge. same i (omega (arith, ge)))
      ∙ sym (ap (λ b. cond b (from ∷ filter p (range_with_len (from + 1) n)) (filter p (range_with_len (from + 1) n))) (same from (omega arith)))
  ascending_named from (suc n) end (q ∷ ps) are same =
      next from n q ps are same
      (λ here also. ascending_named (from + 1) n (omega (arith, end)) ps here also)
      (λ here also. ascending_named (from + 1) n (omega (arith, end)) (q ∷ ps) here also)
      (nat_eq q.document from) refl

-- the documents of postings that ascend are those that they name
pub ascending_are : (option : IndexOption) (documents : ℕ) (ps : List Posting) → ArePostings option 0 documents ps
    → documents_of ps ≡ named_below documents (λ i. is_member i (documents_of ps))
ascending_are option documents ps are =
    ascending_named (λ i. is_member i (documents_of ps)) option documents 0 documents (omega arith) ps are (λ i ge. refl)

-- ---- the postings of a term in a segment

module _ (s : OpenSegment) (shape : HasFullShape s.schema (contents_of s)) (field : ℕ) (bytes : List ℕ) where
  abbrev found : Option (List Posting)
  found = get (terms_of_field (map terms_in s.fields) field) bytes

  abbrev IsNamed : Option (List Posting) → Type 0
  IsNamed o = documents_of (unwrap_or o []) ≡ named_below s.documents (λ i. is_member i (documents_of (unwrap_or o [])))

  none_named : IsNamed None
  none_named = ascending_are Basic s.documents [] tt

  in_schema : (entry : FieldEntry) → slice_get s.schema field ≡ Some entry → (b : Bool) → is_indexed entry ≡ b
      → (o : Option (List Posting)) → found ≡ o → IsNamed o
  in_schema entry at b indexed None is = none_named
  in_schema entry at true indexed (Some ps) is =
      ascending_are (term_option entry bytes) s.documents ps (shape.terms field entry at indexed bytes ps is).postings_ascend
  in_schema entry at false indexed (Some ps) is =
      subst IsNamed (sym (shape.no_terms field entry at indexed bytes) ∙ is) none_named

  -- the documents that have a term are those that it names
  pub term_named : documents_with (terms_of_field (map terms_in s.fields) field) bytes
      ≡ named_below s.documents (λ i. is_member i (documents_with (terms_of_field (map terms_in s.fields) field) bytes))
  term_named = elim (slice_get_cases s.schema field).1 [
    | inl w ↦ in_schema w.0 w.2 (is_indexed w.0) refl found refl
    | inr w ↦ subst IsNamed (sym (ap (λ t. get t bytes) (get_or_past (map terms_in s.fields) field empty (omega (arith, w.0, shape.terms_per_field))) ∙ get-empty (slice_cmp nat_cmp) bytes)) none_named
  ]
