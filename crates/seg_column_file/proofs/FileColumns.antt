-- The columns of a file, one after another.
use Rattle.std.proofs.Common.{◌≡◌, ℕ, zero, suc, ◌+◌, ◌-◌, ◌<◌, ◌≤◌, List, [], ◌∷◌, length, map, slice_range, Option, Some, None, sym, ap, subst, ◌∙◌, arith}
use Rattle.std.specs.Borrow.{Bor}
use Rattle.std.specs.Prelude.{IsSomeAnd}
use Rattle.std.specs.List.{range_with_len}
use Rattle.std.specs.Iterator.{MakesProgress, item_count}
use Rattle.seg_common.specs.declared.column_type.ColumnType.{ColumnType}
use Rattle.seg_columns.specs.declared.error.ColumnError.{ColumnError}
use Rattle.seg_columns.specs.declared.error.ColumnError.TheVariants.{Mixed, Malformed, OutOfMemory}
use Rattle.seg_columns.specs.Refusals.{Refuses}
use Rattle.seg_columns.specs.DynamicColumns.{IsColumnOf, StoredColumn, stored_column}
use Rattle.seg_column_file.specs.ColumnTable.{code_in, column_start, end_in, next_place, path_in, place_of, type_of_code}
use Rattle.seg_column_file.specs.ColumnFiles.{HoldsColumns, IsColumnFile, NamedColumn, column_bytes, column_count, columns_from, data_length, named, named_column, row_count, table_of}
use Rattle.seg_column_file.proofs.TableEntries.{column_start-next, place_of-next}

-- ---- where the bytes of columns begin

module _ (bytes table : List ℕ) (count size rows : ℕ) (holds : HoldsColumns bytes table count size rows) where
  rising : (i k : ℕ) → i + k ≤ count → column_start table i ≤ column_start table (i + k)
  rising i zero h = let e : i + 0 ≡ i = omega arith in rw e (omega arith)
  rising i (suc k) h =
      let e : i + suc k ≡ i + k + 1 = omega arith in
      rw e (omega (arith, rising i k (omega (arith, h)), holds.rise (i + k) (omega (arith, h))))

  pub start_within : (i : ℕ) → i ≤ count → column_start table i ≤ size
  start_within i h =
      let e : i + (count - i) ≡ count = omega arith in
      let last : column_start table i ≤ column_start table count =
      subst (λ (n : ℕ). column_start table i ≤ column_start table n) e (rising i (count - i) (omega (arith, h, e))) in
      omega (arith, last, holds.fill)

-- ---- the iterator

pub columns_from-next : (bytes : List ℕ) (place : ℕ) → place < column_count bytes
    → columns_from bytes place ≡ named_column bytes (table_of bytes) (row_count bytes) place ∷ columns_from bytes
    (place + 1)
unfolding columns_from
columns_from-next bytes place lt =
    let n : column_count bytes - place ≡ suc (column_count bytes - (place + 1)) = omega (arith, lt) in
    ap (λ (m : ℕ). map (named_column bytes (table_of bytes) (row_count bytes)) (range_with_len place m)) n

-- what was read of an entry
module _ (bytes table : List ℕ) (piece : List ℕ) (place at start end rows : ℕ) (type : ColumnType)
    (a : at ≡ place_of table place) (s : start ≡ column_start table place) (e : end ≡ end_in table at)
    (t : type ≡ type_of_code (code_in table at)) (d : piece ≡ slice_range bytes start end) where
  pub next_start : end ≡ column_start table (place + 1)
  next_start = e ∙ ap (end_in table) a ∙ sym (column_start-next table place)

  same_type : type ≡ type_of_code (code_in table (place_of table place))
  same_type = t ∙ ap (λ (n : ℕ). type_of_code (code_in table n)) a

  same_piece : piece ≡ column_bytes bytes table place
  unfolding column_bytes
  same_piece = d ∙ (λ i. slice_range bytes (s i) (next_start i))

  pub is_piece : IsColumnOf type rows piece
      → IsColumnOf (type_of_code (code_in table (place_of table place))) rows (column_bytes bytes table place)
  is_piece is = subst (λ (X : Type 0). X) (λ i. IsColumnOf (same_type i) rows (same_piece i)) is

  pub of_piece : IsColumnOf (type_of_code (code_in table (place_of table place))) rows
      (column_bytes bytes table place) → IsColumnOf type rows piece
  of_piece is = subst (λ (X : Type 0). X) (sym (λ i. IsColumnOf (same_type i) rows (same_piece i))) is

  pub read_column : (path : List ℕ) (stored : StoredColumn) → path ≡ path_in table at
      → stored ≡ stored_column type rows piece
      → named_column bytes table rows place ≡ record { path = path; stored = stored }
  unfolding named_column
  read_column path stored p is =
      sym (λ i. record {
        path = (p ∙ ap (path_in table) a) i;
        stored =
            (is ∙ (λ j. stored_column (same_type j) rows (same_piece j))) i;
      })

-- why a whole is refused whose part is
pub refused : (Part Whole : Type 0) (error : ColumnError) → (Whole → Part) → Refuses Part error → Refuses Whole error
refused Part Whole Malformed part none = λ whole. none (part whole)
refused Part Whole OutOfMemory part lacks = tt
refused Part Whole Mixed part never = never

pub columns_from-end : (bytes : List ℕ) (place : ℕ) → column_count bytes ≤ place → columns_from bytes place ≡ []
unfolding columns_from
columns_from-end bytes place le =
    let n : column_count bytes - place ≡ 0 = omega (arith, le) in
    ap (λ (m : ℕ). map (named_column bytes (table_of bytes) (row_count bytes)) (range_with_len place m)) n

-- the next entry of a file
module _ (bytes : List ℕ) (file : IsColumnFile bytes) (table : List ℕ) (is : table ≡ table_of bytes)
    (place at start end : ℕ)
    (lt : place < column_count bytes) (a : at ≡ place_of (table_of bytes) place)
    (s : start ≡ column_start (table_of bytes) place) (e : end ≡ end_in table at) where
  pub end_is : end ≡ column_start (table_of bytes) (place + 1)
  end_is = e ∙ (λ i. end_in (is i) (a i)) ∙ sym (column_start-next (table_of bytes) place)

  pub order : start ≤ end
  order = omega (arith, file.columns.rise place lt, s, end_is)

  pub within : end ≤ length bytes
  within =
      let last = start_within bytes (table_of bytes) (column_count bytes) (data_length bytes)
      (row_count bytes) file.columns (place + 1)
      (omega (arith, lt)) in
      omega (arith, last, end_is)

pub next_at : (bytes table : List ℕ) (place at next : ℕ) → table ≡ table_of bytes → at ≡ place_of (table_of bytes) place
    → next ≡ next_place table at → next ≡ place_of (table_of bytes) (place + 1)
next_at bytes table place at next is a h = h ∙ (λ i. next_place (is i) (a i))
    ∙ sym (place_of-next (table_of bytes) place)

pub goes : (can : List NamedColumn → Type 0) → ((s : List NamedColumn) → can s) → (old new : List NamedColumn)
    (r : Option (Bor (List ℕ) × StoredColumn)) → IsSomeAnd r (λ x. old ≡ named x ∷ new)
    → MakesProgress can (item_count (λ s. s)) old r new
goes can all old new (Some x) h =
    let shorter = ap length h in
    record { on = λ finite. (all new, tt, omega (arith, shorter)); keeps = all new; rests = λ finite. tt }
goes can all old new None h = absurd h
