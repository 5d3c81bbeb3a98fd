-- The columns of a file suit a schema just where each does, and each that is declared is among them.
use Rattle.std.proofs.Common.{◌≡◌, Bool, true, false, cond, ◌||◌, List, [], ◌∷◌, map, Some, refl, ap, ◌∙◌}
use Rattle.std.specs.Prelude.{◌&&◌, is_some}
use Rattle.std.specs.FinMap.{from_entries, get, get-from_entries}
use Rattle.std.specs.FinMap.Entries.{find, is_some-find}
use Rattle.std.specs.List.{AllByRecursion, list_all, list_any}
use Rattle.std.specs.List.Sorted.{IsStrictlySortedBy}
use Rattle.std.specs.Ordering.{eq_by_cmp, is_eq}
use Rattle.std.proofs.lemmas.Bool.{true≢false, and_parts}
use Rattle.std.proofs.lemmas.Option.{none-some, same_Some}
use Rattle.seg_common.specs.TabulatedMaps.{is_among}
use Rattle.seg_column_file.specs.ColumnFiles.{NamedColumn}
use Rattle.seg_column_format.specs.ModelColumns.{column_key, column_rows}
use Rattle.seg_model.proofs.Exports.{column_cmp_total}
use Rattle.seg_model.specs.Columns.{ColumnKey, ColumnValue, column_cmp}
use Rattle.seg_column_format.proofs.KeyOrder.{below_among, is_other, kind_cmp, ties}

abbrev pub Rows : Type 0
Rows = List (List ColumnValue)

abbrev pub rows_at : NamedColumn → Rows
rows_at c = column_rows (c.stored).column

abbrev pub entry : NamedColumn → ColumnKey × Rows
entry c = (column_key c, rows_at c)

-- ---- what is found at a key

-- a column of some, which passes a test that all pass, and has what all have
pub record FoundColumn (test : NamedColumn → Bool) (Has : NamedColumn → Type 0) (key : ColumnKey) (rows : Rows) : Type 0 where
  pub column : NamedColumn
  pub passes : test column ≡ true
  pub has : Has column
  pub key_is : key ≡ column_key column
  pub rows_are : rows_at column ≡ rows

pub found_column : (same : (q k : ColumnKey) → eq_by_cmp column_cmp q k ≡ true → q ≡ k)
    (test : NamedColumn → Bool) (Has : NamedColumn → Type 0) (cs : List NamedColumn) (q : ColumnKey) (rows : Rows)
    → list_all test cs ≡ true → AllByRecursion Has cs → find column_cmp q (map entry cs) ≡ Some rows
    → FoundColumn test Has q rows
found_column same test Has [] q rows all has at = absurd (none-some rows at)
found_column same test Has (c ∷ cs) q rows all has at =
    by (eq_by_cmp column_cmp q (column_key c)) refl (λ all has. found_column same test Has cs q rows all has) at
  where
    two : (test c ≡ true) × (list_all test cs ≡ true)
    two = and_parts (test c) (list_all test cs) all

    by : (b : Bool) → eq_by_cmp column_cmp q (column_key c) ≡ b
        → (list_all test cs ≡ true → AllByRecursion Has cs → find column_cmp q (map entry cs) ≡ Some rows → FoundColumn test Has q rows)
        → cond b (Some (rows_at c)) (find column_cmp q (map entry cs)) ≡ Some rows → FoundColumn test Has q rows
    by true e rest h = record {
      column = c;
      passes = two.0;
      has = has.0;
      key_is = same q (column_key c) e;
      rows_are = same_Some (rows_at c) rows h;
    }
    by false e rest h = rest two.1 has.1 h

keys_of : (cs : List NamedColumn) → map (λ (e : ColumnKey × Rows). e.0) (map entry cs) ≡ map column_key cs
keys_of [] = refl
keys_of (c ∷ cs) = ap (λ ks. column_key c ∷ ks) (keys_of cs)

pub is_there : (cs : List NamedColumn) (q : ColumnKey)
    → is_some (get (from_entries {R = column_cmp} (map entry cs)) q) ≡ is_among column_cmp (map column_key cs) q
is_there cs q =
    ap is_some (get-from_entries column_cmp_total (map entry cs) q)
    ∙ (is_some-find column_cmp q (map entry cs) ∙ ap (list_any (eq_by_cmp column_cmp q)) (keys_of cs))

-- ---- a column that fails a test

pub record Failing (test : NamedColumn → Bool) (cs : List NamedColumn) : Type 0 where
  pub column : NamedColumn
  pub fails : test column ≡ false
  pub among : is_among column_cmp (map column_key cs) (column_key column) ≡ true
  pub found : find column_cmp (column_key column) (map entry cs) ≡ Some (rows_at column)

pub failing : (test : NamedColumn → Bool) (cs : List NamedColumn) → IsStrictlySortedBy kind_cmp (map column_key cs)
    → list_all test cs ≡ false → Failing test cs
unfolding IsStrictlySortedBy
failing test [] up h = absurd (true≢false h)
failing test (c ∷ cs) up h = by (test c) refl (failing test cs up.1) h
  where
    own : eq_by_cmp column_cmp (column_key c) (column_key c) ≡ true
    own = ap is_eq (ties column_cmp_total (column_key c))

    by : (b : Bool) → test c ≡ b → (list_all test cs ≡ false → Failing test cs)
        → (b && list_all test cs) ≡ false → Failing test (c ∷ cs)
    by false e rest h = record {
      column = c;
      fails = e;
      among = ap (λ b. b || is_among column_cmp (map column_key cs) (column_key c)) own;
      found = ap (λ b. cond b (Some (rows_at c)) (find column_cmp (column_key c) (map entry cs))) own;
    }
    by true e rest h =
        let f = rest h in
        let other = is_other (column_key c) (column_key f.column)
        (below_among (column_key c) (column_key f.column) (map column_key cs) up.0 f.among) in
        record {
          column = f.column;
          fails = f.fails;
          among = ap (λ b. b || is_among column_cmp (map column_key cs) (column_key f.column)) other ∙ f.among;
          found = ap (λ b. cond b (Some (rows_at c)) (find column_cmp (column_key f.column) (map entry cs))) other ∙ f.found;
        }
