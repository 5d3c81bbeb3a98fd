-- The rows of a table that are left, and the heads of the runs that they are in.
use Rattle.std.specs.Prelude.{◌≡◌, ◌⊎◌, ℕ, ◌+◌, ◌<◌, Bool, false, cond, All, Contains, List, [], ◌∷◌, ◌++◌, Option, Some, None, length, get_or, slice_set}
use Rattle.std.specs.List.Sorted.{IsPermutation}
use Rattle.std.specs.Ordering.{is_lt}
use Rattle.seg_column_merge_parts.specs.HeadHeaps.{Head}
use Rattle.seg_column_merge_parts.specs.Tables.{kind_of, table_key, table_key_cmp}
use Rattle.seg_column_merge_parts.specs.declared.tables.TableRow.{TableRow}

-- whether a row's key is below that of another one
abbrev pub row_lt : TableRow → TableRow → Bool
row_lt x y = is_lt (table_key_cmp (table_key x) (table_key y))

-- a row's key, and its place
abbrev pub row_head : TableRow → ℕ → Head
row_head r at = (r.path.now, kind_of r.column_type, at)

-- the rows that are left, each in its place
abbrev pub Slots : Type 0
Slots = List (Option TableRow)

abbrev pub row_at : Slots → ℕ → Option TableRow
row_at slots at = get_or slots at None

-- the row at a place isn't below the one before it
pub record GoesFrom (slots : Slots) (at : ℕ) (row : TableRow) : Type 0 where
  pub place : ℕ
  pub before : TableRow
  pub next : place + 1 ≡ at
  pub is : row_at slots place ≡ Some before
  pub not_below : row_lt row before ≡ false

abbrev pub GoesOn : Slots → ℕ → Type 0
GoesOn slots at = (row : TableRow) → row_at slots at ≡ Some row → GoesFrom slots at row

-- ---- heads of runs

-- a head is that of the row at its place, if it is left
pub record IsHead (slots : Slots) (h : Head) : Type 0 where
  pub within : h.2 < length slots
  pub is : (row : TableRow) → row_at slots h.2 ≡ Some row → h ≡ row_head row h.2

-- the head of a row is there, or the row goes on from one that is left
abbrev pub Waits : Slots → List Head → ℕ → TableRow → Type 0
Waits slots heads at row = Contains heads (row_head row at) ⊎ GoesFrom slots at row

-- heads of rows, with those of all runs
pub record AreRuns (slots : Slots) (heads : List Head) : Type 0 where
  pub each : All (IsHead slots) heads
  pub all : (at : ℕ) (row : TableRow) → row_at slots at ≡ Some row → Waits slots heads at row

-- the head of the row at a place was put in, or the row goes on
pub record Begins (slots : Slots) (at : ℕ) (old new : List Head) : Type 0 where
  pub row : TableRow
  pub is : row_at slots at ≡ Some row
  pub puts : IsPermutation (row_head row at ∷ old) new ⊎ ((new ≡ old) × GoesFrom slots at row)

-- ---- one row

-- the head of the row after another one, if it goes on from it
abbrev pub next_heads : TableRow → ℕ → Option TableRow → List Head
next_heads row next None = []
next_heads row next (Some later) = cond (row_lt later row) [] (row_head later next ∷ [])

abbrev pub Advances : Slots → TableRow → ℕ → List Head → List Head → Type 0
Advances slots row at old new = IsPermutation (next_heads row (at + 1) (row_at slots (at + 1)) ++ old) new

-- the row at a place, if there is one, was moved after others, and its run goes on
abbrev pub Moves : Option TableRow → ℕ → Slots × List TableRow × List Head → Slots × List TableRow × List Head → Type 0
Moves None at old new = new ≡ old
Moves (Some row) at old new =
    (new.0 ≡ slice_set old.0 at None) × (new.1 ≡ old.1 ++ row ∷ []) × Advances new.0 row at old.2 new.2
