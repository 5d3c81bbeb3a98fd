-- Segments, joined.
use Rattle.std.proofs.Common.{◌≡◌, ◌∙◌, ℕ, Bool, true, false, List, [], ◌∷◌, cond, length, map, refl, sym, arith, length-append}
use Rattle.std.specs.Prelude.{Some}
use Rattle.std.specs.List.{AllByRecursion, list_all}
use Rattle.std.proofs.lemmas.Bool.{and_from, and_parts}
use Rattle.std.proofs.lemmas.List.Folds.{list_all-append}
use Rattle.seg_values.specs.Tree.{Document, Tree}
use Rattle.seg_model.specs.Contents.{Contents}
use Rattle.seg_model.specs.Fields.{Schema}
use Rattle.seg_model.specs.Join.{join}
use Rattle.seg_model.specs.Laws.{AreOfFullShape, JoinsHaveFullShape}
use Rattle.seg_model.specs.Operations.{kept}
use Rattle.seg_model.specs.Shape.{HasFullShape}
use Rattle.seg_store.specs.Store.{documents_of}
use Rattle.seg_store.specs.StoredFields.{have_stored_fields, is_stored_field}
use Rattle.seg_merger.specs.JoinedStore.{joined_documents}
use Rattle.seg_open.specs.OpenSegment.{IsMarked, IsOfSchema, OpenSegment, kept_count, part_of}
use Rattle.seg_merger.proofs.MovedIds.{kept_counted}

-- ---- what they join to

module _ (schema : Schema) where
  have_full_shape : (parts : List OpenSegment) → AllByRecursion (IsOfSchema schema) parts → AreOfFullShape schema (map part_of parts)
  have_full_shape [] are = tt
  have_full_shape (p ∷ ps) are = (are.0.1, have_full_shape ps are.1)

  pub joined_shape : JoinsHaveFullShape → (parts : List OpenSegment) → AllByRecursion (IsOfSchema schema) parts
      → (contents : Contents) → join schema (map part_of parts) ≡ Some contents → HasFullShape schema contents
  joined_shape law parts are contents joined = law schema (map part_of parts) contents (have_full_shape parts are) joined

-- ---- the fields of their stored pairs

module _ {X : Type 0} (test : X → Bool) where
  one_kept : (b : Bool) (x : X) (xs : List X) → test x ≡ true → list_all test xs ≡ true → list_all test (cond b (x ∷ xs) xs) ≡ true
  one_kept true x xs first rest = and_from (test x) (list_all test xs) first rest
  one_kept false x xs first rest = rest

  -- what all pass, those that are kept pass
  kept_pass : (marks : List Bool) (xs : List X) → list_all test xs ≡ true → list_all test (kept marks xs) ≡ true
  kept_pass [] xs all = refl
  kept_pass (b ∷ bs) [] all = refl
  kept_pass (b ∷ bs) (x ∷ xs) all =
      let p = and_parts (test x) (list_all test xs) all in
      one_kept b x (kept bs xs) p.0 (kept_pass bs xs p.1)

pub joined_fields : (schema : Schema) (parts : List OpenSegment) → AllByRecursion (IsOfSchema schema) parts → have_stored_fields schema (joined_documents parts) ≡ true
joined_fields schema [] are = refl
joined_fields schema (p ∷ ps) are =
    let test : Document → Bool = list_all (λ (q : ℕ × Tree). is_stored_field schema q.0) in
    let first = kept p.alive (documents_of p.blocks) in
    list_all-append test first (joined_documents ps)
    ∙ and_from (list_all test first) (list_all test (joined_documents ps)) (kept_pass test p.alive (documents_of p.blocks) are.0.2) (joined_fields schema ps are.1)

-- ---- how many documents they have

-- of a segment that stores each document as many are stored as are kept
pub all_stored : (schema : Schema) (parts : List OpenSegment) → AllByRecursion (IsOfSchema schema) parts → AllByRecursion IsMarked parts → length (joined_documents parts) ≡ kept_count parts
all_stored schema [] are marked = refl
all_stored schema (p ∷ ps) are marked =
    let first = kept p.alive (documents_of p.blocks) in
    let both = length-append first (joined_documents ps) in
    let one = kept_counted p.alive (documents_of p.blocks) (marked.0 ∙ sym are.0.1.stored) in
    let rest = all_stored schema ps are.1 marked.1 in
    omega (arith, both, one, rest)
