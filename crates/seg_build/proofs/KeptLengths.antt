-- The lengths that are recorded document by document are those of all documents.
use Rattle.std.proofs.Common.{◌≡◌, ℕ, zero, suc, ◌+◌, ◌-◌, ◌≤◌, true, false, cond, List, [], ◌∷◌, ◌++◌, map, length, take, drop, replicate, Some, None, Option, option_map, refl, sym, ap, ◌∙◌, subst, arith, append-nil, length-append, inl, inr}
use Rattle.std.specs.Prelude.{is_some, IfSome, IsSomeAnd}
use Rattle.std.specs.List.{slice_get, enumerate_from}
use Rattle.std.proofs.lemmas.Bool.{false≢true, and_parts}
use Rattle.std.proofs.lemmas.Bool.Decides.{eqb_tells}
use Rattle.std.proofs.lemmas.List.{length-map, length-take-le, map-append}
use Rattle.std.proofs.lemmas.List.FromFn.{length-enumerate_from}
use Rattle.std.proofs.lemmas.Option.{same_Some, slice_get_within}
use Rattle.seg_values.specs.declared.schema.FieldEntry.{FieldEntry}
use Rattle.seg_values.specs.Tree.{Document}
use Rattle.seg_model.specs.Fields.{Schema, Analyzer, fields, is_indexed, has_lengths, indexing_tokenizer, values_of}
use Rattle.seg_model.specs.Norms.{field_length, length_id, field_norms}
use Rattle.seg_norms.specs.FieldNorms.{no_norms, filled, with_length}
use Rattle.seg_build.specs.BatchContents.{kept_norms}
use Rattle.seg_build.specs.AddedValues.{length_of}
use Rattle.seg_build.specs.DocumentLengths.{AreUpTo, HaveLengths, with_each_length, with_lengths}
use Rattle.seg_build.specs.FieldsByValue.{fresh, indexed_part, with_pairs, with_documents}
use Rattle.seg_build.specs.FieldState.{FieldSoFar}
use Rattle.seg_check.specs.IndexedValues.{content_of}
use Rattle.seg_build.proofs.FieldContents.{length_of_values, kind_lengths}
use Rattle.seg_build.proofs.ListElements.{element_at}
use Rattle.seg_build.proofs.IndexedParts.{values_kept}
use Rattle.seg_build.proofs.FieldStates.{contents_of, contents_of-passed, added_all, length_of-added_all, field_after}
use Rattle.seg_build.proofs.RecordedLengths.{Kept, IsNoneOf, AreRecorded, length-with_lengths, recorded_at, all_recorded, lengths_filled}
use Rattle.seg_build.proofs.AllDocuments.{all_more, all_fresh}

-- ---- the length of a field in a document

-- a field at a place has this length in a document, where it has lengths
record HasNorm (id : ℕ) (now : List FieldSoFar) (k : ℕ) (e : FieldEntry) (n : ℕ) : Type 0 where
  field : FieldSoFar
  at : slice_get now k ≡ Some field
  len : has_lengths e ≡ true → length_of id field ≡ n

-- a field at a place has this length in a document
record HasLength (id : ℕ) (now : List FieldSoFar) (k n : ℕ) : Type 0 where
  field : FieldSoFar
  at : slice_get now k ≡ Some field
  len : length_of id field ≡ n

-- ---- one more document

with_documents-more : (schema : Schema) (analyzer : Analyzer) (first : ℕ) (now : List FieldSoFar) (ds : List Document) (d : Document) → with_documents schema analyzer first now (ds ++ d ∷ []) ≡ with_pairs schema analyzer (first + length ds) (with_documents schema analyzer first now ds) (indexed_part schema d)
with_documents-more schema analyzer first now [] d = ap (λ n. with_pairs schema analyzer n now (indexed_part schema d)) (let z : first ≡ first + 0 = omega arith in z)
with_documents-more schema analyzer first now (x ∷ ds) d =
    with_documents-more schema analyzer (first + 1) (with_pairs schema analyzer first now (indexed_part schema x)) ds d
    ∙ ap (λ n. with_pairs schema analyzer n (with_documents schema analyzer (first + 1) (with_pairs schema analyzer first now (indexed_part schema x)) ds) (indexed_part schema d)) (let z : first + 1 + length ds ≡ first + suc (length ds) = omega arith in z)

take-more : {X : Type 0} (xs : List X) (i : ℕ) (x : X) → drop i xs ≡ x ∷ drop (i + 1) xs → take (i + 1) xs ≡ take i xs ++ x ∷ []
take-more {X} xs i x here = ap (λ n. take n xs) (let z : i + 1 ≡ suc i = omega arith in z) ∙ by xs i (drop (i + 1) xs) here
  where
    head_same : (y x : X) (ys zs : List X) → y ∷ ys ≡ x ∷ zs → y ≡ x
    head_same y x ys zs e = cc

    none : (x : X) (zs : List X) → [] ≡ x ∷ zs → false ≡ true
    none x zs e = cc

    by : (ys : List X) (i : ℕ) (rest : List X) → drop i ys ≡ x ∷ rest → take (suc i) ys ≡ take i ys ++ x ∷ []
    by [] zero rest e = absurd (false≢true (none x rest e))
    by [] (suc i) rest e = absurd (false≢true (none x rest e))
    by (y ∷ ys) zero rest e = ap (λ z. z ∷ []) (head_same y x ys rest e)
    by (y ∷ ys) (suc i) rest e = ap (λ l. y ∷ l) (by ys i rest e)

-- ---- what is kept of one field

module _ (analyzer : Analyzer) where
  abbrev kept_of : List Document → ℕ × FieldEntry → Option (List ℕ)
  kept_of ds f = cond (has_lengths f.1) (Some (field_norms analyzer ds f)) None

  abbrev id_of : ℕ × FieldEntry → Document → ℕ
  id_of f d = length_id (field_length analyzer f.1 (values_of f.0 d))

  pub kept_none : (n : ℕ) (xs : List FieldEntry) → no_norms xs ≡ map (kept_of []) (enumerate_from n xs)
  kept_none n [] = refl
  kept_none n (x ∷ xs) = λ i. first i ∷ kept_none (n + 1) xs i
    where
      first : cond {A = Option (List ℕ)} (has_lengths x) (Some []) None ≡ kept_of [] (n, x)
      first = elim (has_lengths x) as (λ b. cond {A = Option (List ℕ)} b (Some []) None ≡ cond {A = Option (List ℕ)} b (Some (cond {A = List ℕ} b [] [])) None) [ true ↦ refl | false ↦ refl ]

  module _ (before : List Document) (d : Document) (id : ℕ) (many : length before ≡ id) where
    one_more : (f : ℕ × FieldEntry) (len : ℕ) → (has_lengths f.1 ≡ true → len ≡ field_length analyzer f.1 (values_of f.0 d)) → option_map (with_length id len) (kept_of before f) ≡ kept_of (before ++ d ∷ []) f
    one_more f len is =
        (elim (has_lengths f.1) as (λ b. (b ≡ true → len ≡ field_length analyzer f.1 (values_of f.0 d)) → option_map (with_length id len) (cond b (Some (cond b (map (id_of f) before) [])) None) ≡ cond b (Some (cond b (map (id_of f) (before ++ d ∷ [])) [])) None) [
          | true ↦ λ is.
              let none : id - length (map (id_of f) before) ≡ 0 = omega (arith, many, length-map before (id_of f)) in
              ap Some (ap (λ n. (map (id_of f) before ++ replicate n 0) ++ length_id len ∷ []) none
              ∙ ap (λ l. l ++ length_id len ∷ []) (append-nil (map (id_of f) before))
              ∙ ap (λ n. map (id_of f) before ++ length_id n ∷ []) (is refl)
              ∙ sym (map-append (id_of f) before (d ∷ [])))
          | false ↦ λ is. refl
        ]) is

    all_more_ids : (now : List FieldSoFar) (n : ℕ) (xs : List FieldEntry) → ((i : ℕ) (e : FieldEntry) → slice_get xs i ≡ Some e → HasNorm id now i e (field_length analyzer e (values_of (n + i) d))) → with_each_length id now (map (kept_of before) (enumerate_from n xs)) ≡ map (kept_of (before ++ d ∷ [])) (enumerate_from n xs)
    all_more_ids [] n [] h = refl
    all_more_ids (f ∷ now) n [] h = refl
    all_more_ids [] n (x ∷ xs) h = absurd (false≢true (ap is_some (h 0 x refl).at))
    all_more_ids (f ∷ now) n (x ∷ xs) h =
        let first = h 0 x refl in
        let count : has_lengths x ≡ true → length_of id f ≡ field_length analyzer x (values_of n d) = λ on.
        ap (length_of id) (same_Some f first.field first.at) ∙ first.len on ∙ ap (λ m. field_length analyzer x (values_of m d)) (let z : n + 0 ≡ n = omega arith in z) in
        let here = one_more (n, x) (length_of id f) count in
        let rest = all_more_ids now (n + 1) xs (λ i e at. let s = h (suc i) e at in record { field = s.field; at = s.at; len = λ on. s.len on ∙ ap (λ m. field_length analyzer e (values_of m d)) (let z : n + suc i ≡ n + 1 + i = omega arith in z) }) in
        λ j. here j ∷ rest j

  up_to : (before : List Document) (n : ℕ) (xs : List FieldEntry) → AreUpTo (length before) (map (kept_of before) (enumerate_from n xs))
  up_to before n [] = tt
  up_to before n (x ∷ xs) = (first, up_to before (n + 1) xs)
    where
      first : IfSome (kept_of before (n, x)) (λ ids. length ids ≤ length before)
      first = elim (has_lengths x) as (λ b. IfSome (cond b (Some (cond b (map (id_of (n, x)) before) [])) None) (λ ids. length ids ≤ length before)) [
        | true ↦ omega (arith, length-map before (id_of (n, x)))
        | false ↦ tt
      ]

-- ---- one turn of the loop over documents

none_filled : (xs : List FieldEntry) → map (option_map (filled 0)) (no_norms xs) ≡ no_norms xs
none_filled [] = refl
none_filled (x ∷ xs) = λ i. first i ∷ none_filled xs i
  where
    first : option_map (filled 0) (cond {A = Option (List ℕ)} (has_lengths x) (Some []) None) ≡ cond {A = Option (List ℕ)} (has_lengths x) (Some []) None
    first = elim (has_lengths x) as (λ b. option_map (filled 0) (cond {A = Option (List ℕ)} b (Some []) None) ≡ cond {A = Option (List ℕ)} b (Some []) None) [ true ↦ refl | false ↦ refl ]

-- before any document nothing is kept
pub lengths_before : (schema : Schema) (analyzer : Analyzer) → HaveLengths schema analyzer [] (no_norms schema)
lengths_before schema analyzer = record {
  up_to = subst (AreUpTo 0) (sym (kept_none analyzer 0 schema)) (up_to analyzer [] 0 schema);
  filled = none_filled schema ∙ kept_none analyzer 0 schema;
}

-- as many as the schema has fields
length-kept : (schema : Schema) (analyzer : Analyzer) (ds : List Document) (kept : Kept) → HaveLengths schema analyzer ds kept → length kept ≡ length schema
length-kept schema analyzer ds kept have =
    sym (length-map kept (option_map (filled (length ds))))
    ∙ ap length have.filled
    ∙ length-map (fields schema) (kept_of analyzer ds)
    ∙ length-enumerate_from 0 schema

up_to_at : (n : ℕ) (kept : Kept) (k : ℕ) (o : Option (List ℕ)) → AreUpTo n kept → slice_get kept k ≡ Some o → IfSome o (λ ids. length ids ≤ n)
up_to_at n [] k o h at = absurd (false≢true (ap is_some at))
up_to_at n (x ∷ xs) zero o h at = subst (λ y. IfSome y (λ ids. length ids ≤ n)) (same_Some x o at) h.0
up_to_at n (x ∷ xs) (suc k) o h at = up_to_at n xs k o h.1 at

-- a field with no value among these is given nothing
no_contents : (analyzer : Analyzer) (e : FieldEntry) (k : ℕ) (ps : Document) → IsNoneOf k (map (λ p. p.0) ps) → contents_of analyzer e k ps ≡ []
no_contents analyzer e k [] h = refl
no_contents analyzer e k (p ∷ ps) h = elim (eqb_tells k p.0) [
  | inl own ↦ absurd (h.0 own.1)
  | inr other ↦ contents_of-passed analyzer e k p ps other.0 ∙ no_contents analyzer e k ps h.1
]

module _ (schema : Schema) (analyzer : Analyzer) (ds : List Document) (i : ℕ) (within : i ≤ length ds) where
  module _ (d : Document) (here : drop i ds ≡ d ∷ drop (i + 1) ds) (initial now after : List FieldSoFar) where
    -- the fields with it
    pub fields_turn : now ≡ with_documents schema analyzer 0 initial (take i ds) → after ≡ with_pairs schema analyzer i now (indexed_part schema d) → after ≡ with_documents schema analyzer 0 initial (take (i + 1) ds)
    fields_turn is more =
        more
        ∙ ap (λ fs. with_pairs schema analyzer i fs (indexed_part schema d)) is
        ∙ ap (λ n. with_pairs schema analyzer n (with_documents schema analyzer 0 initial (take i ds)) (indexed_part schema d)) (let z : i ≡ 0 + length (take i ds) = omega (arith, length-take-le i ds within) in z)
        ∙ sym (with_documents-more schema analyzer 0 initial (take i ds) d)
        ∙ ap (with_documents schema analyzer 0 initial) (sym (take-more ds i d here))

    -- what the values of each field add to its length
    length_in_field : initial ≡ map (λ _. fresh) schema → now ≡ with_documents schema analyzer 0 initial (take i ds) → after ≡ with_pairs schema analyzer i now (indexed_part schema d) → (k : ℕ) (e : FieldEntry) → slice_get schema k ≡ Some e → HasLength i after k (length_of_values (contents_of analyzer e k (indexed_part schema d)))
    length_in_field first is more k e at_e =
        let whole : now ≡ with_documents schema analyzer 0 (map (λ _. fresh) schema) (take i ds) = is ∙ ap (λ fs. with_documents schema analyzer 0 fs (take i ds)) first in
        let has = all_more schema analyzer [] (map (λ _. fresh) schema) (take i ds) (all_fresh schema analyzer) k e at_e in
        let qs = indexed_part schema d in
        let vs = contents_of analyzer e k qs in
        let id : length (take i ds) ≡ i = length-take-le i ds within in
        let new : length_of i has.field ≡ 0 = ap (λ n. length_of n has.field) (sym id) ∙ has.new.len in
        record {
          field = added_all i has.field vs;
          at = ap (λ fs. slice_get fs k) more ∙ field_after schema analyzer i k e at_e now has.field qs (ap (λ fs. slice_get fs k) whole ∙ has.at);
          len = omega (arith, new, length_of-added_all i has.field vs);
        }

    length_at_field : initial ≡ map (λ _. fresh) schema → now ≡ with_documents schema analyzer 0 initial (take i ds) → after ≡ with_pairs schema analyzer i now (indexed_part schema d) → (k : ℕ) (e : FieldEntry) → slice_get schema k ≡ Some e → HasNorm i after k e (field_length analyzer e (values_of k d))
    length_at_field first is more k e at_e =
        let has = length_in_field first is more k e at_e in
        record {
          field = has.field;
          at = has.at;
          len = λ long.
              let on = (and_parts (is_indexed e) e.norms long).0 in
              has.len
              ∙ ap (λ vs. length_of_values (map (content_of analyzer e) vs)) (values_kept schema k e at_e d on)
              ∙ kind_lengths e.expand_dots (analyzer (indexing_tokenizer e)) e.kind (values_of k d);
        }

    -- and the lengths with its own
    module _ (first : initial ≡ map (λ _. fresh) schema) (is : now ≡ with_documents schema analyzer 0 initial (take i ds)) (more : after ≡ with_pairs schema analyzer i now (indexed_part schema d)) (many : length after ≡ length schema) (places : List ℕ) (are : places ≡ map (λ p. p.0) (indexed_part schema d)) where
      none_added : (k : ℕ) (f : FieldSoFar) → slice_get after k ≡ Some f → IsNoneOf k places → length_of i f ≡ 0
      none_added k f at_f none =
          let entry = element_at schema k (omega (arith, many, slice_get_within after k f at_f)) in
          let has = length_in_field first is more k entry.element entry.at in
          ap (length_of i) (same_Some f has.field (sym at_f ∙ has.at))
          ∙ has.len
          ∙ ap length_of_values (no_contents analyzer entry.element k (indexed_part schema d) (subst (IsNoneOf k) are none))

      recorded : (kept : Kept) → HaveLengths schema analyzer (take i ds) kept → AreRecorded i after kept (with_lengths i after places kept)
      recorded kept have = all_recorded i after kept (with_lengths i after places kept)
          (many ∙ sym (length-kept schema analyzer (take i ds) kept have))
          (length-with_lengths i after places kept)
          (λ k f o at_f at_o. recorded_at i after places kept k f at_f (none_added k f at_f) o at_o
          (up_to_at i kept k o (subst (λ n. AreUpTo n kept) (length-take-le i ds within) have.up_to) at_o))

      all_lengths : (kept : Kept) → HaveLengths schema analyzer (take i ds) kept → HaveLengths schema analyzer (take (i + 1) ds) (with_lengths i after places kept)
      all_lengths kept have =
          let r = recorded kept have in
          let now = length-take-le i ds within in
          let next : length (take (i + 1) ds) ≡ i + 1 = ap length (take-more ds i d here) ∙ omega (arith, now, length-append (take i ds) (d ∷ [])) in
          record {
            up_to = subst (λ n. AreUpTo n (with_lengths i after places kept)) (sym next) r.up_to;
            filled = ap (λ n. map (option_map (filled n)) (with_lengths i after places kept)) next
                ∙ r.filled
                ∙ lengths_filled i after kept (many ∙ sym (length-kept schema analyzer (take i ds) kept have))
                ∙ ap (λ n. with_each_length i after (map (option_map (filled n)) kept)) (sym now)
                ∙ ap (with_each_length i after) have.filled
                ∙ all_more_ids analyzer (take i ds) d i now after 0 schema (λ k e at. let c = length_at_field first is more k e at in record { field = c.field; at = c.at; len = λ on. c.len on ∙ ap (λ m. field_length analyzer e (values_of m d)) (let z : k ≡ 0 + k = omega arith in z) })
                ∙ ap (kept_norms schema analyzer) (sym (take-more ds i d here));
          }

      pub lengths_turn : (old new : Option Kept) → IsSomeAnd old (HaveLengths schema analyzer (take i ds)) → new ≡ option_map (with_lengths i after places) old → IsSomeAnd new (HaveLengths schema analyzer (take (i + 1) ds))
      lengths_turn (Some kept) new have recorded = subst (λ o. IsSomeAnd o (HaveLengths schema analyzer (take (i + 1) ds))) (sym recorded) (all_lengths kept have)
      lengths_turn None new have recorded = absurd have
