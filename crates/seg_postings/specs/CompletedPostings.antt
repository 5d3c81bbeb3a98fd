-- Which postings of a field some positions complete, term by term.
use Rattle.std.specs.Prelude.{◌≡◌, ℕ, ◌<◌, ◌≤◌, true, List, length, drop, slice_range, None}
use Rattle.std.specs.List.{AllByRecursion}
use Rattle.seg_termdict.specs.Dictionary.{Term, terms_of}
use Rattle.seg_termdict.specs.DictionaryBuilders.{last_term, postings_end}
use Rattle.seg_postings.specs.Postings.{term_postings}
use Rattle.seg_postings.specs.RemainingPostings.{is_term_of}
use Rattle.seg_postings.specs.FieldSerializers.{TermWritten}
use Rattle.seg_postings.specs.OpenedFields.{FieldRules, IsFieldBy, kind_by}

-- the bytes in a term's range are read as a term by the rules, of one document or more, once there are these positions
pub record CanBeCompleted (rules : FieldRules) (postings : List ℕ) (t : Term) : Type 0 where
  pub occurs : 0 < t.1.doc_freq
  pub positions : List ℕ
  pub is_term : is_term_of (kind_by rules t.0) rules.max_doc
      (term_postings t.1.doc_freq (slice_range postings t.1.postings_start t.1.postings_end) positions)
      ≡ true

-- after the total of a field's tokens lie its postings: each term of the dictionary can be completed,
-- and the ranges end where the bytes end
pub record ArePostingsBy (rules : FieldRules) (dictionary postings : List ℕ) : Type 0 where
  pub room : 8 ≤ length postings
  pub each : AllByRecursion (CanBeCompleted rules (drop 8 postings)) (terms_of dictionary)
  pub fill : postings_end (last_term None (terms_of dictionary)) ≡ length (drop 8 postings)

-- no positions complete a dictionary and postings to a field
abbrev pub NoneComplete : FieldRules → List ℕ → List ℕ → Type 0
NoneComplete rules dictionary postings =
    (positions : List ℕ) (total : ℕ) (terms : List TermWritten)
    → IsFieldBy rules dictionary postings positions total terms → ⊥
