-- All that a segment holds of its documents.
use Rattle.std.specs.Prelude.{ℕ, List, [], map, length, Option}
use Rattle.std.specs.List.{slice_index_or}
use Rattle.std.specs.Option.{option_map}
use Rattle.std.specs.FinMap.{empty}
use Rattle.seg_values.specs.Tree.{Document}
use Rattle.seg_model.specs.Fields.{Schema, Analyzer}
use Rattle.seg_model.specs.DocumentTerms.{Terms, all_terms, stored_document}
use Rattle.seg_model.specs.Norms.{all_norms}
use Rattle.seg_model.specs.Columns.{Columns, columns}

-- the number of documents; the terms of each field; each stored document; the length ids of each field; the columns
pub record Contents : Type 0 where
  pub documents : ℕ
  pub terms : List Terms
  pub stored : List Document
  pub norms : List (List ℕ)
  pub columns : Columns

-- the part of it that is always defined: the number of documents, the terms and the stored documents
pub record Reading : Type 0 where
  pub documents : ℕ
  pub terms : List Terms
  pub stored : List Document

-- the reading that contents have
abbrev pub reading_part : Contents → Reading
reading_part contents = record { documents = contents.documents; terms = contents.terms; stored = contents.stored }

-- what is read of documents without their columns and lengths
abbrev pub reading : Schema → Analyzer → List Document → Reading
reading schema analyzer ds =
    record { documents = length ds; terms = all_terms schema analyzer ds; stored = map (stored_document schema) ds }

-- the terms of a field
abbrev pub terms_at : Contents → ℕ → Terms
terms_at contents field = slice_index_or contents.terms field empty

-- the length ids of a field
abbrev pub norms_at : Contents → ℕ → List ℕ
norms_at contents field = slice_index_or contents.norms field []

-- all that is read of documents, with these columns
abbrev pub reading_with : Schema → Analyzer → List Document → Columns → Contents
reading_with schema analyzer ds cs = record {
  documents = length ds;
  terms = all_terms schema analyzer ds;
  stored = map (stored_document schema) ds;
  norms = all_norms schema analyzer ds;
  columns = cs;
}

-- all that is read of documents: undefined where their columns are
abbrev pub full_reading : Schema → Analyzer → List Document → Option Contents
full_reading schema analyzer ds = option_map (reading_with schema analyzer ds) (columns schema analyzer ds)
