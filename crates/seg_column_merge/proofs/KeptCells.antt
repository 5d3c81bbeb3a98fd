-- What the marks of kept rows tell of the values at their places.
use Rattle.std.proofs.Common.{◌≡◌, ℕ, ℤ, pos, negsuc, ◌^◌, Bool, true, false, ◌||◌, List, [], ◌∷◌, length, map, get_or, Option, Some, None, refl, sym, ap, ◌∙◌, arith}
use Rattle.std.specs.Prelude.{◌&&◌, FitsSigned, if◌then◌else◌, nat_eq, nat_lt, not}
use Rattle.std.specs.Int.{w64}
use Rattle.std.specs.List.{AllByRecursion, list_any}
use Rattle.std.specs.Net.Addr.{ipv6_octets}
use Rattle.std.proofs.lemmas.Bool.{false≢true, true≢false}
use Rattle.std.proofs.lemmas.Bool.Decides.{nat_tests}
use Rattle.std.proofs.lemmas.List.Elements.{recursion_from_All}
use Rattle.std.proofs.Math.Bool.{or_assoc}
use Rattle.seg_common.proofs.Lists.{list_any-map, list_any-none, list_any-same, get_or-map_map}
use Rattle.seg_model.specs.Columns.{ColumnValue, boolean_value, bytes_value, date_value, fits_i64, ip_value, is_filled, is_not_negative, is_number, number, text_value}
use Rattle.seg_columns.specs.DynamicColumns.{type_of}
use Rattle.seg_columns.specs.declared.dynamic_column.DynamicColumn.{DynamicColumn}
use Rattle.seg_columns.specs.declared.dynamic_column.DynamicColumn.TheVariants as columns
use Rattle.seg_column_format.specs.ModelColumns.{column_rows}
use Rattle.seg_column_merge.specs.Decisions.{has_value, range_of, with_column}
use Rattle.seg_column_merge_parts.specs.KeptColumns.{any_kept_value, kept_fit, range_with, row_count_of, there}
use Rattle.seg_column_file.specs.KeptRows.{AreMarks, kept_values}
use Rattle.seg_column_merge_parts.specs.NumberRanges.{no_numbers}
use Rattle.seg_column_merge.specs.MergedBytes.{HasNumbers, RowFits}
use Rattle.seg_column_file.specs.RowOrders.{Place}
use Rattle.seg_column_merge_parts.specs.declared.number_range.NumberRange.{NumberRange}
use Rattle.seg_column_merge_parts.specs.declared.tables.FileColumn.{FileColumn}
use Rattle.seg_column_merge_parts.specs.declared.tables.TableRow.{TableRow}
use Rattle.seg_column_merge_parts.proofs.Exports.{any_both, any_kept, large_unsigned, negative_signed, negative_unsigned, signed_large, signed_negative, signed_some, unsigned_large, unsigned_negative, unsigned_some}
use Rattle.seg_column_merge.proofs.SourceRows.{column_cell, column_cells}

-- whether a value of a column passes a test, at any of some places
abbrev pub any_in : (ColumnValue → Bool) → List Place → Option FileColumn → Bool
any_in test places o = list_any (λ p. list_any test (column_cell p o)) places

-- and one of several columns
abbrev pub any_of : (ColumnValue → Bool) → List Place → List (Option FileColumn) → Bool
any_of test places cs = list_any (λ p. list_any test (column_cells cs p)) places

or_swap : (a b c d : Bool) → ((a || b) || (c || d)) ≡ ((a || c) || (b || d))
or_swap true b c d = refl
or_swap false true true d = refl
or_swap false true false d = refl
or_swap false false c d = refl

any_or : {X : Type 0} (f g : X → Bool) (xs : List X) → list_any (λ x. f x || g x) xs ≡ (list_any f xs || list_any g xs)
any_or f g [] = refl
any_or f g (x ∷ xs) =
    ap (λ (b : Bool). (f x || g x) || b) (any_or f g xs) ∙ or_swap (f x) (g x) (list_any f xs) (list_any g xs)

pub any_of_cons : (test : ColumnValue
    → Bool) (places : List Place) (o : Option FileColumn) (cs : List (Option FileColumn))
    → any_of test places (o ∷ cs) ≡ (any_in test places o || any_of test places cs)
any_of_cons test places o cs =
    list_any-same (λ p. list_any test (column_cells (o ∷ cs) p))
    (λ p. list_any test (column_cell p o) || list_any test (column_cells cs p))
    (λ p. any_both test (column_cell p o) (column_cells cs p)) places
    ∙ any_or (λ p. list_any test (column_cell p o)) (λ p. list_any test (column_cells cs p)) places

pub any_of_none : (test : ColumnValue → Bool) (places : List Place) → any_of test places [] ≡ false
any_of_none test places = list_any-none (λ p. list_any test (column_cells [] p)) (λ p. refl) places

pub any_in_none : (test : ColumnValue → Bool) (places : List Place) → any_in test places None ≡ false
any_in_none test places = list_any-none (λ p. list_any test (column_cell p None)) (λ p. refl) places

pub filled_are : (places : List Place) (cs : List (Option FileColumn))
    → list_any is_filled (map (column_cells cs) places) ≡ any_of there places cs
filled_are places cs =
    list_any-map is_filled (column_cells cs) places
    ∙ list_any-same (λ p. is_filled (column_cells cs p)) (λ p. list_any there (column_cells cs p))
    (λ p. one (column_cells cs p)) places
  where
    one : (vs : List ColumnValue) → is_filled vs ≡ list_any there vs
    one [] = refl
    one (v ∷ vs) = refl

module _ (counts : List ℕ) (places : List Place) (kept : List (List Bool)) (marks : AreMarks counts places kept) where
  -- ---- the values of one column, by what they are

  module _ {T : Type 0} (test : ColumnValue → Bool) (value : T → ColumnValue) (rows : List (List T)) (file : ℕ)
      (long : length rows ≡ get_or counts file 0) where
    at_place : (p : Place) → (nat_eq file p.0 && list_any (λ x. test (value x)) (get_or rows p.1 []))
        ≡ list_any test (if nat_eq file p.0 then get_or (map (map value) rows) p.1 [] else [])
    at_place p = by (nat_eq file p.0)
      where
        by : (b : Bool) → (b && list_any (λ (x : T). test (value x)) (get_or rows p.1 []))
            ≡ list_any test (if b then get_or (map (map value) rows) p.1 [] else [])
        by true =
            sym (ap (list_any test) (get_or-map_map value rows p.1) ∙ list_any-map test value (get_or rows p.1 []))
        by false = refl

    values_any : list_any (λ x. test (value x)) (kept_values (get_or kept file []) rows)
        ≡ list_any (λ p. list_any test (if nat_eq file p.0 then get_or (map (map value) rows) p.1 [] else [])) places
    values_any =
        any_kept (λ x. test (value x)) file rows counts places kept marks long
        ∙ list_any-same (λ p. nat_eq file p.0 && list_any (λ x. test (value x)) (get_or rows p.1 []))
        (λ p. list_any test (if nat_eq file p.0 then get_or (map (map value) rows) p.1 [] else [])) at_place places

  abbrev pub in_places : (ColumnValue → Bool) → ℕ → DynamicColumn → Bool
  in_places test file column =
      list_any (λ p. list_any test (if nat_eq file p.0 then get_or (column_rows column) p.1 [] else [])) places

  -- ---- whether there is one

  pub value_there : (file : ℕ) (column : DynamicColumn) → row_count_of column ≡ get_or counts file 0
      → is_number (type_of column) ≡ false
      → any_kept_value (get_or kept file []) column ≡ in_places there file column
  value_there file (columns.I64 rows) long other = absurd (true≢false other)
  value_there file (columns.U64 rows) long other = absurd (true≢false other)
  value_there file (columns.Bytes c) long other =
      values_any there (λ ord. bytes_value (get_or c.terms ord [])) c.ords file long
  value_there file (columns.Str c) long other =
      values_any there (λ ord. text_value (get_or c.terms ord [])) c.ords file long
  value_there file (columns.Bool rows) long other = values_any there boolean_value rows file long
  value_there file (columns.IpAddr rows) long other =
      values_any there (λ address. ip_value (ipv6_octets address)) rows file long
  value_there file (columns.DateTime rows) long other = values_any there date_value rows file long

  -- ---- numbers

  or_false : (a b : Bool) → b ≡ false → a ≡ (a || b)
  or_false true b e = refl
  or_false false b e = sym e

  module _ (file : ℕ) (range : NumberRange) where
    abbrev ms : List Bool
    ms = get_or kept file []

    some_tells : (column : DynamicColumn) → row_count_of column ≡ get_or counts file 0
        → is_number (type_of column) ≡ true
        → (range_with ms range column).some ≡ (range.some || in_places there file column)
    some_tells (columns.I64 rows) long n =
        signed_some range (kept_values ms rows)
        ∙ ap (λ (b : Bool). range.some || b) (values_any there number rows file long)
    some_tells (columns.U64 rows) long n =
        unsigned_some range (kept_values ms rows)
        ∙ ap (λ (b : Bool). range.some || b) (values_any there (λ (m : ℕ). number (pos m)) rows file long)
    some_tells (columns.Bytes c) long n = absurd (false≢true n)
    some_tells (columns.Str c) long n = absurd (false≢true n)
    some_tells (columns.Bool rows) long n = absurd (false≢true n)
    some_tells (columns.IpAddr rows) long n = absurd (false≢true n)
    some_tells (columns.DateTime rows) long n = absurd (false≢true n)

    abbrev pub below_zero : ColumnValue → Bool
    below_zero v = not (is_not_negative v)

    abbrev pub too_large : ColumnValue → Bool
    too_large v = not (fits_i64 v)

    negative_tells : (column : DynamicColumn) → row_count_of column ≡ get_or counts file 0
        → is_number (type_of column) ≡ true
        → (range_with ms range column).negative ≡ (range.negative || in_places below_zero file column)
    negative_tells (columns.I64 rows) long n =
        signed_negative range (kept_values ms rows)
        ∙ ap (λ (b : Bool). range.negative || b)
        (sym (negative_signed (kept_values ms rows)) ∙ list_any-map below_zero number (kept_values ms rows)
        ∙ values_any below_zero number rows file long)
    negative_tells (columns.U64 rows) long n =
        unsigned_negative range (kept_values ms rows)
        ∙ or_false range.negative (in_places below_zero file (columns.U64 rows))
        (sym (values_any below_zero (λ (m : ℕ). number (pos m)) rows file long)
        ∙ sym (list_any-map below_zero (λ (m : ℕ). number (pos m)) (kept_values ms rows))
        ∙ negative_unsigned (kept_values ms rows))
    negative_tells (columns.Bytes c) long n = absurd (false≢true n)
    negative_tells (columns.Str c) long n = absurd (false≢true n)
    negative_tells (columns.Bool rows) long n = absurd (false≢true n)
    negative_tells (columns.IpAddr rows) long n = absurd (false≢true n)
    negative_tells (columns.DateTime rows) long n = absurd (false≢true n)

    signed_fits : (z : ℤ) → FitsSigned w64 z → too_large (number z) ≡ false
    signed_fits (pos m) fits = let lt : nat_lt m (2 ^ 63) ≡ true = grind (arith, nat_tests, fits) in ap not lt
    signed_fits (negsuc m) fits = let lt : nat_lt m (2 ^ 63) ≡ true = grind (arith, nat_tests, fits) in ap not lt

    none_large : (zs : List ℤ) → AllByRecursion (FitsSigned w64) zs → list_any (λ z. too_large (number z)) zs ≡ false
    none_large [] fits = refl
    none_large (z ∷ zs) fits =
        (λ j. signed_fits z fits.0 j || list_any (λ (x : ℤ). too_large (number x)) zs) ∙ none_large zs fits.1

    large_tells : (column : DynamicColumn) → row_count_of column ≡ get_or counts file 0
        → is_number (type_of column) ≡ true → kept_fit ms column
        → (range_with ms range column).large ≡ (range.large || in_places too_large file column)
    large_tells (columns.I64 rows) long n fits =
        signed_large range (kept_values ms rows)
        ∙ or_false range.large (in_places too_large file (columns.I64 rows))
        (sym (values_any too_large number rows file long)
        ∙ none_large (kept_values ms rows) (recursion_from_All (FitsSigned w64) (kept_values ms rows) fits))
    large_tells (columns.U64 rows) long n fits =
        unsigned_large range (kept_values ms rows)
        ∙ ap (λ (b : Bool). range.large || b)
        (sym (large_unsigned (kept_values ms rows))
        ∙ list_any-map too_large (λ (m : ℕ). number (pos m)) (kept_values ms rows)
        ∙ values_any too_large (λ (m : ℕ). number (pos m)) rows file long)
    large_tells (columns.Bytes c) long n fits = absurd (false≢true n)
    large_tells (columns.Str c) long n fits = absurd (false≢true n)
    large_tells (columns.Bool rows) long n fits = absurd (false≢true n)
    large_tells (columns.IpAddr rows) long n fits = absurd (false≢true n)
    large_tells (columns.DateTime rows) long n fits = absurd (false≢true n)

  -- ---- all columns of rows

  -- all rows of its file, or none
  abbrev pub Counted : Option FileColumn → Type 0
  Counted None = Unit {0}
  Counted (Some c) = row_count_of (c.handle).column ≡ get_or counts c.file 0

  module _ (g : NumberRange → Bool) (test : ColumnValue → Bool)
      (step : (c : FileColumn) (range : NumberRange) → Counted (Some c) → HasNumbers (Some c) → RowFits kept (Some c)
      → g (with_column kept range (Some c)) ≡ (g range || any_in test places (Some c))) where
    one : (o : Option FileColumn) (range : NumberRange) → Counted o → HasNumbers o → RowFits kept o
        → g (with_column kept range o) ≡ (g range || any_in test places o)
    one None range a b f = or_false (g range) (any_in test places None) (any_in_none test places)
    one (Some c) range a b f = step c range a b f

    all_tell : (rows : List TableRow) → AllByRecursion (λ r. Counted r.column) rows
        → AllByRecursion (λ r. HasNumbers r.column) rows → AllByRecursion (λ r. RowFits kept r.column) rows
        → (range : NumberRange)
        → g (range_of kept range rows) ≡ (g range || any_of test places (map (λ r. r.column) rows))
    all_tell [] a b f range = or_false (g range) (any_of test places []) (any_of_none test places)
    all_tell (r ∷ rs) a b f range =
        all_tell rs a.1 b.1 f.1 (with_column kept range r.column)
        ∙ ap (λ (x : Bool). x || any_of test places (map (λ (t : TableRow). t.column) rs))
        (one r.column range a.0 b.0 f.0)
        ∙ or_assoc (g range) (any_in test places r.column) (any_of test places (map (λ (t : TableRow). t.column) rs))
        ∙ ap (λ (x : Bool). g range || x)
        (sym (any_of_cons test places r.column (map (λ (t : TableRow). t.column) rs)))

  module _ (rows : List TableRow) (a : AllByRecursion (λ r. Counted r.column) rows)
      (b : AllByRecursion (λ r. HasNumbers r.column) rows) (f : AllByRecursion (λ r. RowFits kept r.column) rows) where
    abbrev cols : List (Option FileColumn)
    cols = map (λ (r : TableRow). r.column) rows

    pub some_is : (range_of kept no_numbers rows).some ≡ any_of there places cols
    some_is = all_tell (λ range. range.some) there
        (λ c range long n fits. some_tells c.file range (c.handle).column long n) rows a b f no_numbers

    pub negative_is : (range_of kept no_numbers rows).negative
        ≡ any_of (λ v. not (is_not_negative v)) places cols
    negative_is = all_tell (λ range. range.negative) (λ v. not (is_not_negative v))
        (λ c range long n fits. negative_tells c.file range (c.handle).column long n) rows a b f no_numbers

    pub large_is : (range_of kept no_numbers rows).large ≡ any_of (λ v. not (fits_i64 v)) places cols
    large_is = all_tell (λ range. range.large) (λ v. not (fits_i64 v))
        (λ c range long n fits. large_tells c.file range (c.handle).column long n fits) rows a b f no_numbers

  -- whether a row's column has a value, of types without numbers
  abbrev pub HasOthers : Option FileColumn → Type 0
  HasOthers None = Unit {0}
  HasOthers (Some c) = is_number (type_of (c.handle).column) ≡ false

  row_value : (o : Option FileColumn) → Counted o → HasOthers o → has_value kept o ≡ any_in there places o
  row_value None a b = sym (any_in_none there places)
  row_value (Some c) a b = value_there c.file (c.handle).column a b

  pub value_is : (rows : List TableRow) → AllByRecursion (λ r. Counted r.column) rows
      → AllByRecursion (λ r. HasOthers r.column) rows
      → list_any (λ r. has_value kept r.column) rows ≡ any_of there places (map (λ r. r.column) rows)
  value_is [] a b = sym (any_of_none there places)
  value_is (r ∷ rs) a b =
      (λ j. row_value r.column a.0 b.0 j || value_is rs a.1 b.1 j)
      ∙ sym (any_of_cons there places r.column (map (λ (t : TableRow). t.column) rs))
