-- The contents of segments joined: the live documents of the first, then those of the second, and so on.
use Rattle.std.specs.Prelude.{ℕ, zero, suc, ◌+◌, List, [], ◌∷◌, ◌++◌, map, Bool, ◌==◌, if◌then◌else◌, unwrap_or, length, Option, Some, None, replicate}
use Rattle.std.specs.List.{flat_map}
use Rattle.std.specs.Option.{option_map}
use Rattle.std.specs.FinMap.{get, keys}
use Rattle.seg_values.specs.declared.schema.FieldEntry.{FieldEntry}
use Rattle.seg_common.specs.declared.column_type.ColumnType.TheVariants.{I64, U64}
use Rattle.seg_model.specs.Fields.{Schema, fields, has_lengths}
use Rattle.seg_model.specs.Operations.{kept}
use Rattle.seg_model.specs.DocumentTerms.{Recorded, Posting, Terms, postings_from, if_any}
use Rattle.seg_model.specs.Columns.{ColumnValue, ColumnKey, Columns, declared_columns, columns_from, is_number}
use Rattle.seg_common.specs.TabulatedMaps.{tabulated}
use Rattle.seg_model.specs.Contents.{Contents, terms_at, norms_at}

-- the contents of a segment, and for each of its documents whether it is alive
pub record Part : Type 0 where
  pub contents : Contents
  pub alive : List Bool

-- what is kept of each part, in order
abbrev pub live_of : {X : Type 0} → (Part → List X) → List Part → List X
live_of f parts = flat_map (λ p. kept p.alive (f p)) parts

-- what postings record of a document
abbrev pub recorded_at : ℕ → List Posting → Option Recorded
recorded_at document [] = None
recorded_at document (p ∷ ps) = if p.document == document then Some p.recorded else recorded_at document ps

-- the same for each of this many documents, from the id `first` on
abbrev pub all_recorded : ℕ → ℕ → List Posting → List (Option Recorded)
all_recorded first zero ps = []
all_recorded first (suc n) ps = recorded_at first ps ∷ all_recorded (first + 1) n ps

-- what each document of a part records of a term
abbrev pub term_column : ℕ → List ℕ → Part → List (Option Recorded)
term_column field bytes part = all_recorded 0 part.contents.documents
    (unwrap_or (get (terms_at part.contents field) bytes) [])

-- the postings of a term in the live documents
abbrev pub joined_postings : List Part → ℕ → List ℕ → List Posting
joined_postings parts field bytes = postings_from 0 (live_of (term_column field bytes) parts)

-- the terms of a field in the live documents: a term is there where one of them has it
abbrev pub joined_terms : List Part → ℕ × FieldEntry → Terms
joined_terms parts f = tabulated (λ term. if_any (joined_postings parts f.0 term))
    (flat_map (λ p. keys (terms_at p.contents f.0)) parts)

-- the length ids of a field in the live documents
abbrev pub joined_norms : List Part → ℕ × FieldEntry → List ℕ
joined_norms parts f = if has_lengths f.1 then live_of (λ p. norms_at p.contents f.0) parts else []

-- the rows of a column of a part; without values where it has no such column
abbrev pub part_column : ColumnKey → Part → List (List ColumnValue)
part_column key part = unwrap_or (get part.contents.columns key) (replicate part.contents.documents [])

-- two columns, row by row
abbrev pub side_by_side : List (List ColumnValue) → List (List ColumnValue) → List (List ColumnValue)
side_by_side [] ys = ys
side_by_side (x ∷ xs) [] = x ∷ xs
side_by_side (x ∷ xs) (y ∷ ys) = (x ++ y) ∷ side_by_side xs ys

-- what each document of a part records at a key: numbers of a path are in its column I64 or in its column U64
abbrev pub part_rows : ColumnKey → Part → List (List ColumnValue)
part_rows key part =
    if is_number key.type
    then side_by_side (part_column (record { path = key.path; type = I64 }) part)
    (part_column (record { path = key.path; type = U64 }) part)
    else part_column key part

-- the keys at which the values of a column may be in a joined one: numbers may change their type
abbrev pub joined_keys : ColumnKey → List ColumnKey
joined_keys key = if is_number key.type
    then record { path = key.path; type = I64 } ∷ record { path = key.path; type = U64 } ∷ [] else key ∷ []

-- the columns of the live documents, besides declared columns
abbrev pub joined_columns : Schema → List Part → Option Columns
joined_columns schema parts =
    columns_from (declared_columns schema) (λ key. live_of (part_rows key) parts)
    (declared_columns schema ++ flat_map (λ p. flat_map joined_keys (keys p.contents.columns)) parts)

-- the contents of the live documents, with these columns
abbrev pub joined_with : Schema → List Part → Columns → Contents
joined_with schema parts cs = record {
  documents = length (live_of (λ p. p.contents.stored) parts);
  terms = map (joined_terms parts) (fields schema);
  stored = live_of (λ p. p.contents.stored) parts;
  norms = map (joined_norms parts) (fields schema);
  columns = cs;
}

-- the parts joined: undefined where the numbers of a path have no type
abbrev pub join : Schema → List Part → Option Contents
join schema parts = option_map (joined_with schema parts) (joined_columns schema parts)
