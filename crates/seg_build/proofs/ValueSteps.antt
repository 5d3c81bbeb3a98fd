-- The values of a document as its fields take them, and one turn of the loop over them.
use Rattle.std.proofs.Common.{◌≡◌, ℕ, ◌+◌, ◌<◌, get_or, List, [], ◌∷◌, map, length, drop, refl, sym, ap, ◌∙◌, subst}
use Rattle.std.specs.Prelude.{IsSomeAnd}
use Rattle.std.specs.List.{AllByRecursion, slice_get}
use Rattle.seg_values.specs.Tree.{Document}
use Rattle.seg_model.specs.Fields.{Schema, Analyzer}
use Rattle.seg_check.specs.IndexedValues.{IsPlainIn, value_in, value_of}
use Rattle.seg_check.specs.declared.indexed_value.IndexedValue.{IndexedValue}
use Rattle.seg_build.specs.AddedValues.{Fits}
use Rattle.seg_build.specs.FieldsByValue.{AllFit, with_pair, with_pairs, with_values}
use Rattle.seg_build.specs.FieldState.{FieldSoFar}
use Rattle.seg_segment.proofs.Exports.{drop-item}

-- the values of the pairs are what the fields are given
pub values-pairs : (schema : Schema) (analyzer : Analyzer) (id : ℕ) (fields : List FieldSoFar) (ps : Document)
    → with_values id fields (map (value_of schema analyzer) ps) ≡ with_pairs schema analyzer id fields ps
values-pairs schema analyzer id fields [] = refl
values-pairs schema analyzer id fields (p ∷ ps) =
    values-pairs schema analyzer id (with_pair schema analyzer id fields p) ps

-- one more value of the loop over them
pub added_turn : (id : ℕ) (document : Document) (fields after : List FieldSoFar) (values : List IndexedValue) (i : ℕ) (v : IndexedValue)
    → i < length values → v ≡ get_or values i v → after ≡ with_values id fields (value_in document v ∷ [])
    → with_values id after (map (value_in document) (drop (i + 1) values)) ≡ with_values id fields (map (value_in document) (drop i values))
added_turn id document fields after values i v lt is put =
    ap (λ fs. with_values id fs (map (value_in document) (drop (i + 1) values))) put
    ∙ ap (λ vs. with_values id fields (map (value_in document) vs)) (sym (drop-item values i v lt is))

-- the next value fits, and so do those after it
module _ (id : ℕ) (document : Document) (fields : List FieldSoFar) where
  first_fits : (values : List IndexedValue) (i : ℕ) (v : IndexedValue) → i < length values → v ≡ get_or values i v
      → AllFit id fields (map (value_in document) (drop i values))
      → AllFit id fields (map (value_in document) (v ∷ drop (i + 1) values))
  first_fits values i v lt is fit =
      subst (λ (vs : List IndexedValue). AllFit id fields (map (value_in document) vs)) (drop-item values i v lt is) fit

pub fit_here : (id : ℕ) (document : Document) (fields : List FieldSoFar) (values : List IndexedValue) (i : ℕ) (v : IndexedValue)
    → i < length values → v ≡ get_or values i v → AllFit id fields (map (value_in document) (drop i values))
    → IsSomeAnd (slice_get fields v.field) (Fits id (value_in document v).1)
fit_here id document fields values i v lt is fit = (first_fits id document fields values i v lt is fit).0

pub fit_turn : (id : ℕ) (document : Document) (fields after : List FieldSoFar) (values : List IndexedValue) (i : ℕ) (v : IndexedValue)
    → i < length values → v ≡ get_or values i v → after ≡ with_values id fields (value_in document v ∷ [])
    → AllFit id fields (map (value_in document) (drop i values))
    → AllFit id after (map (value_in document) (drop (i + 1) values))
fit_turn id document fields after values i v lt is put fit =
    subst (λ fs. AllFit id fs (map (value_in document) (drop (i + 1) values))) (sym put) (first_fits id document fields values i v lt is fit).1

pub plain_here : (document : Document) (values : List IndexedValue) (i : ℕ) (v : IndexedValue) → i < length values → v ≡ get_or values i v
    → AllByRecursion (IsPlainIn document) (drop i values) → IsPlainIn document v
plain_here document values i v lt is all = (subst (AllByRecursion (IsPlainIn document)) (drop-item values i v lt is) all).0

pub plain_turn : (document : Document) (values : List IndexedValue) (i : ℕ) (v : IndexedValue) → i < length values → v ≡ get_or values i v
    → AllByRecursion (IsPlainIn document) (drop i values) → AllByRecursion (IsPlainIn document) (drop (i + 1) values)
plain_turn document values i v lt is all = (subst (AllByRecursion (IsPlainIn document)) (drop-item values i v lt is) all).1
