-- Pairs of a stored document that are passed, each with a field that passes a test.
use Rattle.std.proofs.Common.{◌≡◌, ℕ, Bool, true, false, List, [], ◌∷◌, length, Option, Some, None, refl, sym, ap, ◌∙◌, if◌then◌else◌}
use Rattle.std.specs.Prelude.{nat_eq, is_some}
use Rattle.seg_values.specs.Tree.{Tree}
use Rattle.seg_doc_bytes.specs.PassedBytes.{Passed, Passes}
use Rattle.seg_doc_bytes.specs.FrontReaders.{then_read, made_of, counted_at}
use Rattle.seg_doc_bytes.specs.StoredDocument.{most_levels_read, pair_at, all_read}
use Rattle.seg_doc_bytes.specs.StoredTree.{stored_tree_at}
use Rattle.seg_doc_bytes.proofs.Exports.{not_none}
use Rattle.seg_store.specs.CheckedFields.{pair_of, is_document_of}

abbrev with_field : ℕ → Option (Tree × List ℕ) → Option ((ℕ × Tree) × List ℕ)
with_field field o = made_of (λ t. (field, t)) o

module _ (test : ℕ → Bool) where
  abbrev if_passed : Option ((ℕ × Tree) × List ℕ) → Option ((ℕ × Tree) × List ℕ)
  if_passed o = then_read o (λ p rest. if test p.0 then Some (p, rest) else None)

  passed : (field : ℕ) → test field ≡ true → (o : Option (Tree × List ℕ)) → if_passed (with_field field o) ≡ with_field field o
  passed field passes None = refl
  passed field passes (Some x) = rw passes refl

  failed : (field : ℕ) → test field ≡ false → (o : Option (Tree × List ℕ)) → if_passed (with_field field o) ≡ None
  failed field fails None = refl
  failed field fails (Some x) = rw fails refl

  pub pair_lacks : (old : List ℕ) → pair_at old ≡ None → pair_of test old ≡ None
  pair_lacks old none = ap if_passed none

  -- a pair whose field was taken, and passes the test or not
  pub pair_refused : (old left : List ℕ) (field : ℕ) → pair_at old ≡ with_field field (stored_tree_at most_levels_read left) → test field ≡ false → pair_of test old ≡ None
  pair_refused old left field is fails = ap if_passed is ∙ failed field fails (stored_tree_at most_levels_read left)

  front : (old left : List ℕ) (field : ℕ) → pair_at old ≡ with_field field (stored_tree_at most_levels_read left) → test field ≡ true → pair_of test old ≡ with_field field (stored_tree_at most_levels_read left)
  front old left field is passes = ap if_passed is ∙ passed field passes (stored_tree_at most_levels_read left)

  pub pair_passed : {B : Type 0} (old left new : List ℕ) (field : ℕ) (r : Option B) → pair_at old ≡ with_field field (stored_tree_at most_levels_read left) → test field ≡ true → Passes (stored_tree_at most_levels_read) left new r → Passes (pair_of test) old new r
  pair_passed old left new field (Some done) is passes p = record { value = (field, p.value); is = front old left field is passes ∙ ap (with_field field) p.is }
  pair_passed old left new field None is passes p = front old left field is passes ∙ ap (with_field field) p

-- ---- a whole document

rest_empty : (pairs : List (ℕ × Tree)) (left : List ℕ) → nat_eq (length left) 0 ≡ is_some (all_read (Some (pairs, left)))
rest_empty pairs [] = refl
rest_empty pairs (b ∷ left) = not_none (length left)

pub document_passed : (test : ℕ → Bool) (bytes left : List ℕ) (empty : Bool) → Passed (counted_at (pair_of test)) bytes left → empty ≡ nat_eq (length left) 0 → empty ≡ is_document_of test bytes
unfolding is_document_of
document_passed test bytes left empty p is = is ∙ rest_empty p.value left ∙ ap (λ o. is_some (all_read o)) (sym p.is)

pub document_refused : (test : ℕ → Bool) (bytes : List ℕ) → counted_at (pair_of test) bytes ≡ None → false ≡ is_document_of test bytes
unfolding is_document_of
document_refused test bytes none = ap (λ o. is_some (all_read o)) (sym none)
