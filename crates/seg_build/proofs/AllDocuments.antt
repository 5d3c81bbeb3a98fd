-- What all documents give.
use Rattle.std.proofs.Common.{◌≡◌, ℕ, suc, ◌+◌, ◌≤◌, true, false, cond, List, [], ◌∷◌, ◌++◌, map, Some, None, Option, length, sym, refl, ap, ◌∙◌, subst, arith, append_assoc, append-nil, length-append, inl, inr}
use Rattle.std.specs.FinMap as fin
use Rattle.std.specs.Prelude.{nat_eq}
use Rattle.std.specs.List.{slice_get, flat_map, enumerate_from}
use Rattle.std.specs.Option.{option_map}
use Rattle.std.proofs.lemmas.Bool.{cases_Bool}
use Rattle.std.proofs.lemmas.Bool.Decides.{nat_tests}
use Rattle.std.proofs.lemmas.List.{length-map, map-append}
use Rattle.std.proofs.lemmas.Option.{same_Some, slice_get-map}
use Rattle.std.proofs.Math.ListN.{length-set}
use Rattle.seg_values.specs.declared.schema.FieldEntry.{FieldEntry}
use Rattle.seg_values.specs.Tree.{Document}
use Rattle.seg_model.specs.Fields.{Schema, Analyzer, is_indexed, indexing_tokenizer, values_of}
use Rattle.seg_model.specs.Occurrences.{Occurrence, kind_occurrences, occurrences_at, occurrences}
use Rattle.seg_model.specs.DocumentTerms.{Terms, postings_of, if_any, terms_of}
use Rattle.seg_common.specs.TabulatedMaps.{tabulated}
use Rattle.seg_terms.specs.AddedOccurrences.{with_occurrences}
use Rattle.seg_build.specs.AddedValues.{first_starts, start_of, length_of}
use Rattle.seg_build.specs.FieldTerms.{positional, positional_terms}
use Rattle.seg_check.specs.IndexedValues.{IndexedContent, content_of, content_at}
use Rattle.seg_build.specs.FieldsByValue.{fresh, added_at, with_pair, with_pairs, with_documents, indexed_part}
use Rattle.seg_build.specs.FieldState.{FieldSoFar}
use Rattle.seg_build.proofs.FieldContents.{occurrences_from, kind_occur}
use Rattle.seg_build.proofs.GrownTerms.{terms_of-push}
use Rattle.seg_build.proofs.IndexedParts.{values_kept, values_dropped}
use Rattle.seg_build.proofs.KeptStarts.{AreStamped, stamped-more, stamped-none, starts-next, starts-none}
use Rattle.seg_build.proofs.FieldStates.{contents_of, added_all, terms-added_all, document-added_all, stamped-added_all, field_after}

-- ---- as many fields as before

pub length-added_at : (id place : ℕ) (fields : List FieldSoFar) (v : IndexedContent) (o : Option FieldSoFar) → length (added_at id place fields v o) ≡ length fields
length-added_at id place fields v None = refl
length-added_at id place fields v (Some f) = simp length-set

module _ (schema : Schema) (analyzer : Analyzer) where
  length-with_pairs : (id : ℕ) (fields : List FieldSoFar) (ps : Document) → length (with_pairs schema analyzer id fields ps) ≡ length fields
  length-with_pairs id fields [] = refl
  length-with_pairs id fields (p ∷ ps) = length-with_pairs id (with_pair schema analyzer id fields p) ps ∙ length-added_at id p.0 fields (content_at analyzer p.1 (slice_get schema p.0)) (slice_get fields p.0)

  pub length-with_documents : (first : ℕ) (fields : List FieldSoFar) (ds : List Document) → length (with_documents schema analyzer first fields ds) ≡ length fields
  length-with_documents first fields [] = refl
  length-with_documents first fields (d ∷ ds) = length-with_documents (first + 1) (with_pairs schema analyzer first fields (indexed_part schema d)) ds ∙ length-with_pairs first fields (indexed_part schema d)

-- ---- the terms of one field

-- a field at the beginning of a document
pub record IsFresh (id : ℕ) (field : FieldSoFar) : Type 0 where
  pub start : start_of id field ≡ first_starts
  pub len : length_of id field ≡ 0

fresh_next : (id : ℕ) (field : FieldSoFar) → field.document ≤ id → AreStamped id field.starts → IsFresh (id + 1) field
fresh_next id field le stamped =
    let other : nat_eq field.document (id + 1) ≡ false = grind (arith, nat_tests) in
    record {
      start = λ i. record { here = ap (λ b. cond b field.start 0) other i; at = λ path. starts-next id field.starts stamped path i };
      len = ap (λ b. cond b field.len 0) other;
    }

module _ (e : FieldEntry) where
  no_keys : (ds : List Document) (occurred : Document → List Occurrence) → ((d : Document) → occurred d ≡ []) → flat_map (map (λ (o : Occurrence). o.bytes)) (map occurred ds) ≡ []
  no_keys [] occurred none = refl
  no_keys (d ∷ ds) occurred none = ap (λ os. map (λ (o : Occurrence). o.bytes) os ++ flat_map (map (λ (o : Occurrence). o.bytes)) (map occurred ds)) (none d) ∙ no_keys ds occurred none

  -- of documents in which nothing occurs there are no terms
  pub no_terms : (ds : List Document) (occurred : Document → List Occurrence) → ((d : Document) → occurred d ≡ []) → terms_of e (map occurred ds) ≡ fin.empty
  no_terms ds occurred none = ap (tabulated (λ term. if_any (postings_of e term (map occurred ds)))) (no_keys ds occurred none)

module _ (schema : Schema) (analyzer : Analyzer) (k : ℕ) (e : FieldEntry) (at_e : slice_get schema k ≡ Some e) where
  abbrev occurred : Document → List Occurrence
  occurred d = occurrences schema analyzer d k

  -- what is indexed
  abbrev indexed_contents : Document → List IndexedContent
  indexed_contents ps = contents_of analyzer e k (indexed_part schema ps)

  pub occurrences-indexed : (ps : Document) → is_indexed e ≡ true → occurrences schema analyzer ps k ≡ occurrences_from first_starts (contents_of analyzer e k ps)
  occurrences-indexed ps own =
      ap (occurrences_at analyzer ps k) at_e
      ∙ ap (λ b. cond b (kind_occurrences e.kind e.expand_dots (analyzer (indexing_tokenizer e)) (values_of k ps)) []) own
      ∙ kind_occur e.expand_dots (analyzer (indexing_tokenizer e)) e.kind (values_of k ps)

  pub occurrences-unindexed : (ps : Document) → is_indexed e ≡ false → occurrences schema analyzer ps k ≡ []
  occurrences-unindexed ps off = ap (occurrences_at analyzer ps k) at_e ∙ ap (λ b. cond b (kind_occurrences e.kind e.expand_dots (analyzer (indexing_tokenizer e)) (values_of k ps)) []) off

  module _ (ds : List Document) (ps : Document) where
    abbrev before : Terms
    before = terms_of (positional e) (map occurred ds)

    -- one more document
    terms_turn : with_occurrences before (length (map occurred ds)) (occurrences_from first_starts (indexed_contents ps)) ≡ terms_of (positional e) (map occurred (ds ++ ps ∷ []))
    terms_turn = elim (cases_Bool (is_indexed e)) [
      | inl on ↦
          let same : occurrences_from first_starts (indexed_contents ps) ≡ occurred ps = ap (λ vs. occurrences_from first_starts (map (content_of analyzer e) vs)) (values_kept schema k e at_e ps on) ∙ sym (occurrences-indexed ps on) in
          ap (with_occurrences before (length (map occurred ds))) same
          ∙ terms_of-push (positional e) (record { kind = refl; index = refl }) (map occurred ds) (occurred ps)
          ∙ ap (terms_of (positional e)) (sym (map-append occurred ds (ps ∷ [])))
      | inr off ↦
          let nothing : (d : Document) → occurred d ≡ [] = λ d. occurrences-unindexed d off in
          ap (λ vs. with_occurrences before (length (map occurred ds)) (occurrences_from first_starts (map (content_of analyzer e) vs))) (values_dropped schema k e at_e ps off)
          ∙ no_terms (positional e) ds occurred nothing
          ∙ sym (no_terms (positional e) (ds ++ ps ∷ []) occurred nothing)
    ]

module _ (schema : Schema) (analyzer : Analyzer) where
  -- a field of the schema has the terms of some documents, and is at the beginning of the next
  pub record HasTerms (before : List Document) (fields : List FieldSoFar) (k : ℕ) (e : FieldEntry) : Type 0 where
    pub field : FieldSoFar
    pub at : slice_get fields k ≡ Some field
    pub terms : field.terms ≡ terms_of (positional e) (map (λ d. occurrences schema analyzer d k) before)
    pub new : IsFresh (length before) field
    pub past : field.document ≤ length before
    pub stamped : AreStamped (length before) field.starts

  abbrev pub AllHaveTerms : List Document → List FieldSoFar → Type 0
  AllHaveTerms before fields = (k : ℕ) (e : FieldEntry) → slice_get schema k ≡ Some e → HasTerms before fields k e

  -- one more document
  one_more : (before : List Document) (fields : List FieldSoFar) (ps : Document) → AllHaveTerms before fields → AllHaveTerms (before ++ ps ∷ []) (with_pairs schema analyzer (length before) fields (indexed_part schema ps))
  one_more before fields ps all k e at_e =
      let has = all k e at_e in
      let id = length before in
      let qs = indexed_part schema ps in
      let vs = contents_of analyzer e k qs in
      let after = added_all id has.field vs in
      let occurred : Document → List Occurrence = λ d. occurrences schema analyzer d k in
      let many : length (map occurred before) ≡ id = length-map before occurred in
      let next : length (before ++ ps ∷ []) ≡ id + 1 = length-append before (ps ∷ []) in
      let past = document-added_all id has.field vs has.past in
      let stamped = stamped-added_all id has.field vs has.stamped in
      record {
        field = after;
        at = field_after schema analyzer id k e at_e fields has.field qs has.at;
        terms = terms-added_all id has.field vs
            ∙ ap (λ s. with_occurrences has.field.terms id (occurrences_from s vs)) has.new.start
            ∙ ap (λ t. with_occurrences t id (occurrences_from first_starts vs)) has.terms
            ∙ ap (λ n. with_occurrences (terms_of (positional e) (map occurred before)) n (occurrences_from first_starts vs)) (sym many)
            ∙ terms_turn schema analyzer k e at_e before ps;
        new = subst (λ n. IsFresh n after) (sym next) (fresh_next id after past stamped);
        past = omega (arith, past, next);
        stamped = subst (λ n. AreStamped n after.starts) (sym next) (stamped-more id after.starts stamped);
      }

  pub all_more : (before : List Document) (fields : List FieldSoFar) (ds : List Document) → AllHaveTerms before fields → AllHaveTerms (before ++ ds) (with_documents schema analyzer (length before) fields ds)
  all_more before fields [] all = subst (λ l. AllHaveTerms l fields) (sym (append-nil before)) all
  all_more before fields (d ∷ ds) all =
      let next : length (before ++ d ∷ []) ≡ length before + 1 = length-append before (d ∷ []) in
      let fields' = with_pairs schema analyzer (length before) fields (indexed_part schema d) in
      subst (λ n. AllHaveTerms (before ++ d ∷ ds) (with_documents schema analyzer n fields' ds)) next
      (subst (λ l. AllHaveTerms l (with_documents schema analyzer (length (before ++ d ∷ [])) fields' ds)) (append_assoc before (d ∷ []) ds)
      (all_more (before ++ d ∷ []) fields' ds (one_more before fields d all)))

  pub all_fresh : AllHaveTerms [] (map (λ _. fresh) schema)
  all_fresh k e at_e = record {
    field = fresh;
    at = slice_get-map (λ (x : FieldEntry). fresh) schema k ∙ ap (option_map (λ (x : FieldEntry). fresh)) at_e;
    terms = refl;
    new = record { start = λ i. record { here = 0; at = λ path. starts-none 0 path i }; len = refl };
    past = omega arith;
    stamped = stamped-none 0;
  }

-- ---- a list of fields

-- the element that stands for a place
record Stands (fs : List FieldSoFar) (i : ℕ) (terms : Terms) : Type 0 where
  field : FieldSoFar
  at : slice_get fs i ≡ Some field
  is : field.terms ≡ terms

listed_from : (F : ℕ × FieldEntry → Terms) (n : ℕ) (xs : List FieldEntry) (fs : List FieldSoFar) → length fs ≡ length xs → ((i : ℕ) (e : FieldEntry) → slice_get xs i ≡ Some e → Stands fs i (F (n + i, e))) → map (λ f. fin.entries f.terms) fs ≡ map fin.entries (map F (enumerate_from n xs))
listed_from F n [] [] many h = refl
listed_from F n [] (f ∷ fs) many h = absurd (omega arith)
listed_from F n (x ∷ xs) [] many h = absurd (omega arith)
listed_from F n (x ∷ xs) (f ∷ fs) many h =
    let first = h 0 x refl in
    let here : f.terms ≡ F (n, x) = ap (λ (g : FieldSoFar). g.terms) (same_Some f first.field first.at) ∙ first.is ∙ ap (λ m. F (m, x)) (let z : n + 0 ≡ n = omega arith in z) in
    let rest = listed_from F (n + 1) xs fs (omega arith) (λ i e at. let s = h (suc i) e at in record { field = s.field; at = s.at; is = s.is ∙ ap (λ m. F (m, e)) (let z : n + suc i ≡ n + 1 + i = omega arith in z) }) in
    λ j. fin.entries (here j) ∷ rest j

module _ (schema : Schema) (analyzer : Analyzer) (ds : List Document) where
  abbrev terms_at : ℕ × FieldEntry → Terms
  terms_at f = terms_of (positional f.1) (map (λ d. occurrences schema analyzer d f.0) ds)

  -- and give the terms of each field
  pub terms_of_all : map (λ f. fin.entries f.terms) (with_documents schema analyzer 0 (map (λ _. fresh) schema) ds) ≡ map fin.entries (positional_terms schema analyzer ds)
  terms_of_all = listed_from terms_at 0 schema _ (length-with_documents schema analyzer 0 (map (λ _. fresh) schema) ds ∙ length-map schema (λ (x : FieldEntry). fresh)) (λ i e at.
      let has = all_more schema analyzer [] (map (λ _. fresh) schema) ds (all_fresh schema analyzer) i e at in
      record { field = has.field; at = has.at; is = has.terms ∙ ap (λ m. terms_at (m, e)) (let z : i ≡ 0 + i = omega arith in z) })
