-- The terms of a column, with those that kept rows have.
use Rattle.std.specs.Prelude.{◌≡◌, ℕ, ◌<◌, ◌≤◌, Bool, true, false, List, [], Option, Some, None, length, get_or}
use Rattle.seg_columns.specs.declared.dynamic_column.DynamicColumn.{DynamicColumn}
use Rattle.seg_columns.specs.declared.dynamic_column.DynamicColumn.TheVariants as columns
use Rattle.seg_column_merge_parts.specs.MergedTerms.{HasTexts, kept_ords, ords_in, row_terms, terms_in}
use Rattle.seg_column_file.specs.KeptRows.{kept_values}
use Rattle.seg_column_merge_parts.specs.UsedOrdinals.{AreUsed}
use Rattle.seg_column_merge_parts.specs.declared.tables.FileColumn.{FileColumn}

-- terms in byte order, a mark for each that is used, and whether they are texts
pub record MarkedTerms : Type 0 where
  pub terms : List (List ℕ)
  pub used : List Bool
  pub texts : Bool

abbrev pub no_terms : MarkedTerms
no_terms = record { terms = []; used = []; texts = true }

-- those of a column that may be there
abbrev pub option_terms : Option DynamicColumn → List (List ℕ)
option_terms None = []
option_terms (Some c) = terms_in c

abbrev pub has_texts : Option DynamicColumn → Bool
has_texts None = true
has_texts (Some (columns.Str column)) = true
has_texts (Some _) = false

-- the terms of a row's column, with those that kept rows have
pub record AreTermsOf (kept : List (List Bool)) (column : Option FileColumn) (m : MarkedTerms) : Type 0 where
  pub terms : m.terms ≡ row_terms column
  pub used : AreUsed (length m.terms) (kept_ords kept column) m.used
  pub texts : HasTexts column → m.texts ≡ true

-- none is used from one ordinal up to another
abbrev pub NoneUsed : List Bool → ℕ → ℕ → Type 0
NoneUsed used from end = (ord : ℕ) → from ≤ ord → ord < end → get_or used ord false ≡ false

-- the first that is used from an ordinal on
pub record IsNextUsed (used : List Bool) (from next : ℕ) : Type 0 where
  pub after : from ≤ next
  pub within : next < length used
  pub is : get_or used next false ≡ true
  pub none : NoneUsed used from next

-- those of a column, by the marks of its rows
pub record AreColumnTerms (kept : List Bool) (column : DynamicColumn) (m : MarkedTerms) : Type 0 where
  pub terms : m.terms ≡ terms_in column
  pub used : AreUsed (length m.terms) (kept_values kept (ords_in column)) m.used
  pub texts : m.texts ≡ has_texts (Some column)
