-- A document by its pairs.
use Rattle.std.proofs.Common.{◌≡◌, ℕ, suc, true, false, List, length, [], ◌∷◌, Some, None, refl, sym, ap, arith, ◌∙◌}
use Rattle.std.specs.Prelude.{nat_eq}
use Rattle.std.proofs.lemmas.Bool.{false≢true}
use Rattle.std.proofs.lemmas.Bool.Decides.{nat_tests}
use Rattle.seg_values.specs.Tree.{Document}
use Rattle.seg_doc_bytes.specs.FrontReaders.{counted_at}
use Rattle.seg_doc_bytes.specs.StoredDocument.{pair_at, all_read, stored_document_of}

pub document_lacks : (bytes : List ℕ) → counted_at pair_at bytes ≡ None → stored_document_of bytes ≡ None
unfolding stored_document_of
document_lacks bytes none = ap all_read none

pub not_none : (n : ℕ) → nat_eq (suc n) 0 ≡ false
not_none n = grind (arith, nat_tests)

only_whole : (pairs : Document) (left : List ℕ) → nat_eq (length left) 0 ≡ true → all_read (Some (pairs, left)) ≡ Some pairs
only_whole pairs [] empty = refl
only_whole pairs (b ∷ left) empty = absurd (false≢true (sym (not_none (length left)) ∙ empty))

left_over : (pairs : Document) (left : List ℕ) → nat_eq (length left) 0 ≡ false → all_read (Some (pairs, left)) ≡ None
left_over pairs [] some = absurd (false≢true (sym some))
left_over pairs (b ∷ left) some = refl

pub document_whole : (bytes left : List ℕ) (pairs : Document) → counted_at pair_at bytes ≡ Some (pairs, left) → nat_eq (length left) 0 ≡ true → stored_document_of bytes ≡ Some pairs
unfolding stored_document_of
document_whole bytes left pairs is empty = ap all_read is ∙ only_whole pairs left empty

pub document_left_over : (bytes left : List ℕ) (pairs : Document) → counted_at pair_at bytes ≡ Some (pairs, left) → nat_eq (length left) 0 ≡ false → stored_document_of bytes ≡ None
unfolding stored_document_of
document_left_over bytes left pairs is some = ap all_read is ∙ left_over pairs left some
