-- A field whose parts are opened.
use Rattle.std.specs.Prelude.{◌≡◌, ℕ, List, Some}
use Rattle.std.specs.FinMap.{get}
use Rattle.seg_values.specs.declared.schema.FieldEntry.{FieldEntry}
use Rattle.seg_model.specs.DocumentTerms as reading
use Rattle.seg_model.specs.Shape.{IsTermWith}
use Rattle.seg_directory.specs.CompositeFiles.{Part, field_of}
use Rattle.seg_termdict.specs.Dictionary.{terms_of}
use Rattle.seg_postings.specs.OpenedFields.{OpenField, IsFieldBy, dictionary_terms, rules_of, written_terms}
use Rattle.seg_segment.specs.TermFiles.{HoldsField}

-- the parts of a field in three composite files are these terms
pub record IsOpened (entry : FieldEntry) (field documents : ℕ) (terms postings positions : List Part)
    (opened : OpenField) : Type 0 where
  pub dictionary : List ℕ
  pub postings_part : List ℕ
  pub positions_part : List ℕ
  pub in_terms : field_of terms field ≡ Some dictionary
  pub in_postings : field_of postings field ≡ Some postings_part
  pub in_positions : field_of positions field ≡ Some positions_part
  pub by : IsFieldBy (rules_of entry documents)
      dictionary postings_part positions_part opened.total (written_terms opened)
  pub infos : dictionary_terms opened ≡ terms_of dictionary

-- the parts of a field hold terms in this many documents
pub record MayHold (entry : FieldEntry) (field documents : ℕ) (terms postings positions : List Part) : Type 0 where
  pub held : reading.Terms
  pub holds : HoldsField entry field terms postings positions held
  pub shape : (term : List ℕ) (ps : List reading.Posting) → get held term ≡ Some ps → IsTermWith entry documents term ps
