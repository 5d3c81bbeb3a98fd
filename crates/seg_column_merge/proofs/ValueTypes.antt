-- Which values of kept rows can be in a column of a type.
use Rattle.std.proofs.Common.{◌≡◌, ℕ, ℤ, pos, negsuc, zero, suc, ◌+◌, ◌<◌, ◌≤◌, ◌^◌, Bool, true, false, cond, List, [], ◌∷◌, ◌++◌, map, get_or, Option, Some, None, sym, ap, subst, ◌∙◌, arith}
use Rattle.std.specs.Prelude.{All, FitsSigned, nat_eq, nat_lt}
use Rattle.std.specs.Int.{w64, is_negative}
use Rattle.std.specs.List.{AllByRecursion, list_all}
use Rattle.std.proofs.lemmas.Bool.{and_parts, false≢true}
use Rattle.std.proofs.lemmas.Bool.Decides.{nat_tests}
use Rattle.std.proofs.lemmas.List.{append-nil}
use Rattle.std.proofs.lemmas.List.Elements.{recursion_from_All}
use Rattle.std.proofs.lemmas.Option.{none-some, same_Some}
use Rattle.seg_common.proofs.Lists.{all_back, all_front, get_or-map_map}
use Rattle.seg_common.specs.declared.column_type.ColumnType.TheVariants.{I64, U64}
use Rattle.seg_model.specs.Columns.{ColumnValue, fits_i64, is_not_negative, is_number, number}
use Rattle.seg_columns.specs.DynamicColumns.{type_of}
use Rattle.seg_columns.specs.declared.dynamic_column.DynamicColumn.{DynamicColumn}
use Rattle.seg_columns.specs.declared.dynamic_column.DynamicColumn.TheVariants as columns
use Rattle.seg_column_format.specs.ModelColumns.{column_rows}
use Rattle.seg_column_merge_parts.specs.KeptColumns.{kept_fit}
use Rattle.seg_column_file.specs.KeptRows.{kept_values}
use Rattle.seg_column_merge.specs.MergedBytes.{IsNumberType}
use Rattle.seg_column_file.specs.RowOrders.{Place}
use Rattle.seg_column_merge_parts.specs.declared.tables.FileColumn.{FileColumn}
use Rattle.seg_column_merge.proofs.NumberColumns.{RowSuits}
use Rattle.seg_column_merge.proofs.SourceRows.{FilesRise, column_cells, later_files, values_in}

-- ---- a row that is kept

kept_row : {T : Type 0} (P : T → Type 0) (marks : List Bool) (rows : List (List T)) (row : ℕ)
    → get_or marks row false ≡ true → AllByRecursion P (kept_values marks rows) → AllByRecursion P (get_or rows row [])
kept_row P [] rows row is all = absurd (false≢true is)
kept_row P (m ∷ ms) [] row is all = tt
kept_row P (true ∷ ms) (r ∷ rs) zero is all = all_front P r (kept_values ms rs) all
kept_row P (false ∷ ms) (r ∷ rs) zero is all = absurd (false≢true is)
kept_row P (m ∷ ms) (r ∷ rs) (suc row) is all =
    kept_row P ms rs row is (all_back P (cond m r []) (kept_values ms rs) all)

module _ (marks : List Bool) (row : ℕ) (is : get_or marks row false ≡ true) where
  pub kept_all : {T : Type 0} (P : T → Type 0) (rows : List (List T)) → All P (kept_values marks rows)
      → AllByRecursion P (get_or rows row [])
  kept_all P rows all = kept_row P marks rows row is (recursion_from_All P (kept_values marks rows) all)

  all_units : (bs : List Bool) → AllByRecursion (λ b. Unit {0}) bs
  all_units [] = tt
  all_units (b ∷ bs) = (tt, all_units bs)

  -- in the column's own type
  pub own_type : (column : DynamicColumn) → IsNumberType (type_of column) → kept_fit marks column
      → RowSuits (type_of column) column row
  own_type (columns.I64 rows) a fit = kept_all (FitsSigned w64) rows fit
  own_type (columns.U64 rows) a fit = kept_all (λ n. n < 2 ^ 64) rows fit
  own_type (columns.Bool rows) a fit = all_units (get_or rows row [])
  own_type (columns.DateTime rows) a fit = kept_all (FitsSigned w64) rows fit
  own_type (columns.Bytes c) a fit = absurd a
  own_type (columns.Str c) a fit = absurd a
  own_type (columns.IpAddr rows) a fit = absurd a

  below_all : (ns : List ℕ) → list_all fits_i64 (map (λ n. number (pos n)) ns) ≡ true
      → AllByRecursion (λ n. n < 2 ^ 63) ns
  below_all [] all = tt
  below_all (n ∷ ns) all =
      let parts = and_parts (nat_lt n (2 ^ 63)) (list_all fits_i64 (map (λ (m : ℕ). number (pos m)) ns)) all in
      (grind (arith, nat_tests, parts.0), below_all ns parts.1)

  not_negative : (zs : List ℤ) → AllByRecursion (FitsSigned w64) zs
      → list_all is_not_negative (map number zs) ≡ true
      → AllByRecursion (λ z. FitsSigned w64 z × (is_negative z ≡ false)) zs
  not_negative [] fit all = tt
  not_negative (pos n ∷ zs) fit all = ((fit.0, none), not_negative zs fit.1 all)
    where
      none : is_negative (pos n) ≡ false
      none = grind (arith, nat_tests)
  not_negative (negsuc n ∷ zs) fit all = absurd (false≢true all)

  -- numbers in a type that holds all
  pub signed_holds : (column : DynamicColumn) → is_number (type_of column) ≡ true → kept_fit marks column
      → list_all fits_i64 (get_or (column_rows column) row []) ≡ true → RowSuits I64 column row
  signed_holds (columns.I64 rows) a fit all = kept_all (FitsSigned w64) rows fit
  signed_holds (columns.U64 rows) a fit all =
      below_all (get_or rows row []) (ap (list_all fits_i64) (sym (get_or-map_map (λ (n : ℕ). number (pos n)) rows row))
      ∙ all)
  signed_holds (columns.Bytes c) a fit all = absurd (false≢true a)
  signed_holds (columns.Str c) a fit all = absurd (false≢true a)
  signed_holds (columns.Bool rows) a fit all = absurd (false≢true a)
  signed_holds (columns.IpAddr rows) a fit all = absurd (false≢true a)
  signed_holds (columns.DateTime rows) a fit all = absurd (false≢true a)

  pub unsigned_holds : (column : DynamicColumn) → is_number (type_of column) ≡ true → kept_fit marks column
      → list_all is_not_negative (get_or (column_rows column) row []) ≡ true → RowSuits U64 column row
  unsigned_holds (columns.I64 rows) a fit all =
      not_negative (get_or rows row []) (kept_all (FitsSigned w64) rows fit)
      (ap (list_all is_not_negative) (sym (get_or-map_map number rows row)) ∙ all)
  unsigned_holds (columns.U64 rows) a fit all = kept_all (λ n. n < 2 ^ 64) rows fit
  unsigned_holds (columns.Bytes c) a fit all = absurd (false≢true a)
  unsigned_holds (columns.Str c) a fit all = absurd (false≢true a)
  unsigned_holds (columns.Bool rows) a fit all = absurd (false≢true a)
  unsigned_holds (columns.IpAddr rows) a fit all = absurd (false≢true a)
  unsigned_holds (columns.DateTime rows) a fit all = absurd (false≢true a)

-- ---- the values at a place are those of the column of its file

file_from : (counts : List ℕ) (first : ℕ) (cs : List (Option FileColumn)) → FilesRise counts first cs → (at : ℕ)
    (c : FileColumn) → get_or cs at None ≡ Some c → first ≤ c.file
file_from counts first [] rise at c is = absurd (none-some c is)
file_from counts first (None ∷ cs) rise zero c is = absurd (none-some c is)
file_from counts first (None ∷ cs) rise (suc at) c is = file_from counts first cs rise at c is
file_from counts first (Some d ∷ cs) rise zero c is =
    subst (λ (e : FileColumn). first ≤ e.file) (same_Some d c is) rise.0
file_from counts first (Some d ∷ cs) rise (suc at) c is =
    omega (arith, rise.0, file_from counts (d.file + 1) cs rise.3 at c is)

pub cell_at : (counts : List ℕ) (p : Place) (first : ℕ) (cs : List (Option FileColumn)) → FilesRise counts first cs
    → (at : ℕ) (c : FileColumn) → get_or cs at None ≡ Some c → c.file ≡ p.0 → column_cells cs p ≡ values_in c p.1
cell_at counts p first [] rise at c is file = absurd (none-some c is)
cell_at counts p first (None ∷ cs) rise zero c is file = absurd (none-some c is)
cell_at counts p first (None ∷ cs) rise (suc at) c is file = cell_at counts p first cs rise at c is file
cell_at counts p first (Some d ∷ cs) rise zero c is file =
    let same : d ≡ c = same_Some d c is in
    let here : d.file ≡ p.0 = ap (λ (e : FileColumn). e.file) same ∙ file in
    let this : nat_eq d.file p.0 ≡ true = grind (arith, nat_tests, here) in
    ap (λ (b : Bool). cond b (values_in d p.1) [] ++ column_cells cs p) this
    ∙ ap (λ (l : List ColumnValue). values_in d p.1 ++ l)
    (later_files counts p (d.file + 1) cs rise.3 (omega (arith, here)))
    ∙ append-nil (values_in d p.1) ∙ ap (λ (e : FileColumn). values_in e p.1) same
cell_at counts p first (Some d ∷ cs) rise (suc at) c is file =
    let later : d.file + 1 ≤ c.file = file_from counts (d.file + 1) cs rise.3 at c is in
    let other : nat_eq d.file p.0 ≡ false = grind (arith, nat_tests, later, file) in
    ap (λ (b : Bool). cond b (values_in d p.1) [] ++ column_cells cs p) other
    ∙ cell_at counts p (d.file + 1) cs rise.3 at c is file

-- ---- a test of all values

pub all_pass : (f : List ColumnValue → Bool) (g : Place → List ColumnValue) (ps : List Place)
    → list_all f (map g ps) ≡ true → AllByRecursion (λ p. f (g p) ≡ true) ps
all_pass f g [] all = tt
all_pass f g (p ∷ ps) all =
    let parts = and_parts (f (g p)) (list_all f (map g ps)) all in
    (parts.0, all_pass f g ps parts.1)
