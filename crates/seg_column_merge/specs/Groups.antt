-- Rows of a table that have one key.
use Rattle.std.specs.Prelude.{◌≡◌, ℕ, ◌+◌, ◌<◌, ◌≤◌, ◌&&◌, Bool, true, false, List, [], ◌∷◌, Option, Some, None, length, get_or, nat_eq}
use Rattle.std.specs.Str.{bytes_eq}
use Rattle.seg_column_merge_parts.specs.KeptColumns.{row_count_of}
use Rattle.seg_column_merge_parts.specs.Tables.{kind_of}
use Rattle.seg_column_merge_parts.specs.declared.tables.FileColumn.{FileColumn}
use Rattle.seg_column_merge_parts.specs.declared.tables.TableRow.{TableRow}

-- whether a row has the path and the kind of another one
abbrev pub has_key : TableRow → TableRow → Bool
has_key row other = bytes_eq row.path.now other.path.now && nat_eq (kind_of row.column_type) (kind_of other.column_type)

-- rows from a place up to another one have the key of the first, and the next one doesn't
pub record IsGroup (table : List TableRow) (start stop : ℕ) : Type 0 where
  pub some : start < stop
  pub within : stop ≤ length table
  pub same : (k : ℕ) (d : TableRow) → start ≤ k → k < stop → has_key (get_or table k d) (get_or table start d) ≡ true
  pub other : (d : TableRow) → stop < length table → has_key (get_or table stop d) (get_or table start d) ≡ false

-- ---- the columns of a group

-- a column is of a file from one on, with all rows of that file; the files after it come next
abbrev pub FileFits : List ℕ → ℕ → Option FileColumn → ℕ → Type 0
FileFits counts first None next = next ≡ first
FileFits counts first (Some c) next =
    (first ≤ c.file) × (c.file < length counts) × (row_count_of (c.handle).column ≡ get_or counts c.file 0)
    × (next ≡ c.file + 1)

-- so are all columns of rows, each of another file than those before it
abbrev pub AreOfFiles : List ℕ → ℕ → List TableRow → Type 0
AreOfFiles counts first [] = Unit {0}
AreOfFiles counts first (r ∷ rs) = (next : ℕ) × FileFits counts first r.column next × AreOfFiles counts next rs
