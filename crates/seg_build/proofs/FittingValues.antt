-- The values of a document that is taken fit their fields, one after another.
use Rattle.std.proofs.Common.{◌≡◌, ℕ, ◌+◌, ◌<◌, ◌^◌, true, List, [], ◌∷◌, ◌++◌, map, length, refl, sym, ap, ◌∙◌, subst, arith, append_assoc, eq-eqb, inl, inr}
use Rattle.std.specs.Prelude.{IsSomeAnd}
use Rattle.std.specs.List.{slice_get, AllByRecursion}
use Rattle.std.proofs.lemmas.Bool.{cases_Bool}
use Rattle.seg_values.specs.Tree.{Tree, Document}
use Rattle.seg_model.specs.TextDocuments.{is_taken}
use Rattle.seg_model.specs.DocumentCheck.{field_fits}
use Rattle.seg_model.specs.Fields.{Schema, Analyzer, is_indexed, is_field}
use Rattle.seg_check.specs.IndexedValues.{IndexedContent, content_of, content_at, value_of}
use Rattle.seg_check.proofs.Exports.{for_one_field}
use Rattle.seg_build.specs.AddedValues.{first_starts, next_starts, length_in, start_of, TextsFit, Fits}
use Rattle.seg_build.specs.FieldsByValue.{AllFit, indexed_part, with_pair, with_pairs}
use Rattle.seg_build.specs.FieldState.{FieldSoFar}
use Rattle.seg_build.proofs.FieldContents.{AreBounded, AreLow, start_after_values, start_after_values-append, low-before, texts_fit, length_of_values, length_of_values-append}
use Rattle.seg_build.proofs.IndexedParts.{part-kept, part-passed, values_kept, IsIndexedPair, indexed_pair}
use Rattle.seg_build.proofs.FieldStates.{contents_of, contents_of-taken, contents_of-append, added_all, start_of-added_all, length_of-added_all, field_after}
use Rattle.seg_build.proofs.TakenDocuments.{bounded, passed}
use Rattle.seg_build.proofs.AllDocuments.{AllHaveTerms, IsFresh}

-- a value among those of its field, of which all together are bounded
fits_between : (id : ℕ) (field : FieldSoFar) → IsFresh id field
    → (vs : List IndexedContent) (v : IndexedContent) (ws : List IndexedContent) → AreBounded (vs ++ v ∷ ws)
    → Fits id v (added_all id field vs)
fits_between id field fresh vs v ws bounds =
    let start : start_of id (added_all id field vs) ≡ start_after_values first_starts vs = start_of-added_all id field vs ∙ ap (λ s. start_after_values s vs) fresh.start in
    let low = subst AreLow (start_after_values-append first_starts vs (v ∷ ws)) bounds.end in
    let all : length_of_values (vs ++ v ∷ ws) ≡ length_of_values vs + (length_in v + length_of_values ws) = length_of_values-append vs (v ∷ ws) in
    let few : length_of_values (vs ++ v ∷ ws) < 2 ^ 32 = bounds.len in
    record {
      next = subst (λ s. TextsFit s v) (sym start) (texts_fit (start_after_values first_starts vs) v (low-before (next_starts (start_after_values first_starts vs) v) ws low));
      len = omega (arith, length_of-added_all id field vs, fresh.len, all, few);
    }

-- ---- the values of a document

with_pairs-push : (schema : Schema) (analyzer : Analyzer) (id : ℕ) (fields : List FieldSoFar) (ps : Document) (p : ℕ × Tree)
    → with_pairs schema analyzer id fields (ps ++ p ∷ []) ≡ with_pair schema analyzer id (with_pairs schema analyzer id fields ps) p
with_pairs-push schema analyzer id fields [] p = refl
with_pairs-push schema analyzer id fields (q ∷ qs) p =
    with_pairs-push schema analyzer id (with_pair schema analyzer id fields q) qs p

in_middle : {X : Type 0} (P : X → Type 0) (xs : List X) (y : X) (zs : List X) → AllByRecursion P (xs ++ y ∷ zs) → P y
in_middle P [] y zs all = all.0
in_middle P (x ∷ xs) y zs all = in_middle P xs y zs all.1

all_indexed : (schema : Schema) (ps : Document) → AllByRecursion (IsIndexedPair schema) (indexed_part schema ps)
all_indexed schema [] = tt
all_indexed schema (p ∷ ps) = elim (cases_Bool (is_field is_indexed (slice_get schema p.0))) [
  | inl is ↦ subst (AllByRecursion (IsIndexedPair schema)) (sym (part-kept schema p ps is)) (indexed_pair schema p is, all_indexed schema ps)
  | inr off ↦ subst (AllByRecursion (IsIndexedPair schema)) (sym (part-passed schema p ps off)) (all_indexed schema ps)
]

module _ (schema : Schema) (analyzer : Analyzer) (d : Document) (taken : is_taken schema analyzer d ≡ true) (before : List Document) (fields : List FieldSoFar) (have : AllHaveTerms schema analyzer before fields) where
  abbrev id : ℕ
  id = length before

  one_fits : (done : Document) (p : ℕ × Tree) (rest : Document) → indexed_part schema d ≡ done ++ p ∷ rest
      → IsIndexedPair schema p
      → IsSomeAnd (slice_get (with_pairs schema analyzer id fields done) p.0) (Fits id (content_at analyzer p.1 (slice_get schema p.0)))
  one_fits done p rest are own =
      let e = own.entry in
      let has = have p.0 e own.at in
      let v = content_of analyzer e p.1 in
      let vs = contents_of analyzer e p.0 done in
      let ws = contents_of analyzer e p.0 rest in
      let bounds = bounded analyzer p.0 e d own.on (for_one_field (field_fits analyzer d) schema (passed schema analyzer d taken).fit p.0 e own.at) in
      let all : contents_of analyzer e p.0 d ≡ vs ++ v ∷ ws =
      sym (ap (map (content_of analyzer e)) (values_kept schema p.0 e own.at d own.on))
      ∙ ap (contents_of analyzer e p.0) are
      ∙ contents_of-append analyzer e p.0 done (p ∷ rest)
      ∙ ap (λ l. vs ++ l) (contents_of-taken analyzer e p.0 p rest (eq-eqb p.0 p.0 refl)) in
      let fit = fits_between id has.field has.new vs v ws (subst AreBounded all bounds) in
      subst (λ o. IsSomeAnd (slice_get (with_pairs schema analyzer id fields done) p.0) (Fits id (content_at analyzer p.1 o))) (sym own.at)
      (subst (λ o. IsSomeAnd o (Fits id v)) (sym (field_after schema analyzer id p.0 e own.at fields has.field done has.at)) fit)

  all_fit : (done rest : Document) → indexed_part schema d ≡ done ++ rest
      → AllFit id (with_pairs schema analyzer id fields done) (map (value_of schema analyzer) rest)
  all_fit done [] are = tt
  all_fit done (p ∷ rest) are =
      let own = in_middle (IsIndexedPair schema) done p rest (subst (AllByRecursion (IsIndexedPair schema)) are (all_indexed schema d)) in
      (one_fits done p rest are own, subst (λ fs. AllFit id fs (map (value_of schema analyzer) rest)) (with_pairs-push schema analyzer id fields done p) (all_fit (done ++ p ∷ []) rest (are ∙ sym (append_assoc done (p ∷ []) rest))))

  pub document_fits : AllFit (length before) fields (map (value_of schema analyzer) (indexed_part schema d))
  document_fits = all_fit [] (indexed_part schema d) refl
