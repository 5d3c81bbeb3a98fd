-- What is alive of a batch, by the postings of its documents.
use Rattle.std.proofs.Common.{◌≡◌, ℕ, suc, ◌+◌, Bool, List, [], ◌∷◌, ◌++◌, map, length, refl, ap, ◌∙◌, arith}
use Rattle.std.specs.Prelude.{◌&&◌, not, nat_lt}
use Rattle.std.specs.List.{list_any, list_all, range_with_len, enumerate_from}
use Rattle.seg_values.specs.Tree.{Document}
use Rattle.seg_model.specs.Fields.{Schema, Analyzer}
use Rattle.seg_model.specs.Occurrences.{has_term}
use Rattle.seg_model.specs.DocumentTerms.{Terms, all_terms}
use Rattle.seg_model.specs.Operations.{Operation, TermKey, add, delete, delete_all, is_empty, deletes, additions}
use Rattle.seg_model.specs.Postings.{terms_of_field, documents_with, is_member}
use Rattle.seg_model.specs.Stamps.{stamped_deletes, addition_stamps, is_deleted_by, undeleted_by}
use Rattle.seg_model.specs.DeletesByPostings.{clears, is_cleared_by, uncleared_by}
use Rattle.seg_model.specs.RemovalLaws.{AliveByPostings}
use Rattle.seg_model.proofs.DocumentsOfTerms.{postings_tell_terms}
use Rattle.seg_model.proofs.AliveByStamps.{alive_by_stamps}

-- each added document has a stamp
pub length-additions : (from : ℕ) (operations : List Operation) → length (addition_stamps from operations) ≡ length (additions operations)
length-additions from [] = refl
length-additions from (add d ∷ os) = ap suc (length-additions (from + 1) os)
length-additions from (delete t ∷ os) = length-additions (from + 1) os
length-additions from (delete_all ts ∷ os) = length-additions (from + 1) os

first_same : (a b : Bool) (as' bs : List Bool) → a ∷ as' ≡ b ∷ bs → a ≡ b
first_same a b as' bs e = cc

rest_same : (a b : Bool) (as' bs : List Bool) → a ∷ as' ≡ b ∷ bs → as' ≡ bs
rest_same a b as' bs e = cc

module _ (schema : Schema) (analyzer : Analyzer) (terms : List Terms) (stamped : List (ℕ × Operation)) where
  -- a document has the terms at which the postings name its number
  abbrev IsNamed : Document → ℕ → Type 0
  IsNamed d i = (field : ℕ) (bytes : List ℕ) → has_term schema analyzer d field bytes ≡ is_member i (documents_with (terms_of_field terms field) bytes)

  abbrev AreNamed : List Document → ℕ → Type 0
  AreNamed ds n = (field : ℕ) (bytes : List ℕ) → map (λ d. has_term schema analyzer d field bytes) ds ≡ map (λ i. is_member i (documents_with (terms_of_field terms field) bytes)) (range_with_len n (length ds))

  same_deletes : (d : Document) (i : ℕ) → IsNamed d i → (o : Operation) → deletes schema analyzer d o ≡ clears terms i o
  same_deletes d i h (add x) = refl
  same_deletes d i h (delete t) = h t.field t.bytes
  same_deletes d i h (delete_all ts) = λ j. not (is_empty ts) && list_all (λ (t : TermKey). h t.field t.bytes j) ts

  same_deleted : (d : Document) (i s : ℕ) → IsNamed d i → is_deleted_by schema analyzer d s stamped ≡ is_cleared_by terms i s stamped
  same_deleted d i s h = λ j. list_any (λ (x : ℕ × Operation). nat_lt s x.0 && same_deletes d i h x.1 j) stamped

  same_alive : (n : ℕ) (stamps : List ℕ) (ds : List Document) → AreNamed ds n → length stamps ≡ length ds → undeleted_by schema analyzer stamps ds stamped ≡ map (λ s. not (is_cleared_by terms s.0 s.1 stamped)) (enumerate_from n stamps)
  same_alive n [] ds h e = refl
  same_alive n (s ∷ stamps) [] h e = absurd (omega arith)
  same_alive n (s ∷ stamps) (d ∷ ds) h e =
      let rest = same_alive (n + 1) stamps ds (λ field bytes. rest_same _ _ _ _ (h field bytes)) (omega arith) in
      λ j. not (same_deleted d n s (λ field bytes. first_same _ _ _ _ (h field bytes)) j) ∷ rest j

-- of any documents, with any stamps
pub alive_posted : (schema : Schema) (analyzer : Analyzer) (documents : List Document) (stamps : List ℕ) (stamped : List (ℕ × Operation)) → length stamps ≡ length documents → undeleted_by schema analyzer stamps documents stamped ≡ uncleared_by (all_terms schema analyzer documents) stamps stamped
alive_posted schema analyzer documents stamps stamped = same_alive schema analyzer (all_terms schema analyzer documents) stamped 0 stamps documents (postings_tell_terms schema analyzer documents)

pub alive_by_postings : AliveByPostings
alive_by_postings schema analyzer before batch after =
    alive_by_stamps schema analyzer before batch after
    ∙ alive_posted schema analyzer (additions batch) (addition_stamps (length before) batch) (stamped_deletes 0 (before ++ batch ++ after)) (length-additions (length before) batch)
