-- The terms of a field as a map.
use Rattle.std.specs.Prelude.{◌≡◌, ℕ, List, map, Some}
use Rattle.std.specs.FinMap.{get, entries, from_sorted}
use Rattle.seg_values.specs.declared.schema.FieldEntry.{FieldEntry}
use Rattle.seg_model.specs.DocumentTerms.{Posting, Terms}
use Rattle.seg_model.specs.Shape.{IsTermWith}
use Rattle.seg_postings.specs.OpenedFields.{rules_of, IsFieldBy}
use Rattle.seg_postings.specs.FieldSerializers.{TermWritten}

-- terms by their bytes
abbrev pub terms_held : List TermWritten → Terms
terms_held written = from_sorted (map (λ t. (t.bytes, t.postings)) written)

-- a map has these terms with their postings, and each has the form that contents of full shape ask for
pub record AreHeldBy (entry : FieldEntry) (documents : ℕ) (written : List TermWritten) (held : Terms) : Type 0 where
  pub are : map (λ t. (t.bytes, t.postings)) written ≡ entries held
  pub shape : (term : List ℕ) (postings : List Posting) → get held term ≡ Some postings
      → IsTermWith entry documents term postings

-- whatever three parts of a field spell
abbrev pub TermsReadHaveShape : Type 0
TermsReadHaveShape = (entry : FieldEntry) (documents : ℕ) (dictionary postings positions : List ℕ)
    (total : ℕ) (written : List TermWritten)
    → IsFieldBy (rules_of entry documents) dictionary postings positions total written
    → AreHeldBy entry documents written (terms_held written)
