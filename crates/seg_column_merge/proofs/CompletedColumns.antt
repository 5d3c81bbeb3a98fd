-- The merged columns of the model, from what is at each key.
use Rattle.std.proofs.Common.{◌≡◌, ℕ, zero, suc, Bool, true, false, ◌||◌, List, [], ◌∷◌, map, get_or, Option, Some, None, refl, sym, ap, ◌∙◌}
use Rattle.std.specs.Prelude.{String, if◌then◌else◌}
use Rattle.std.specs.declared.alloc.Global.{Global}
use Rattle.std.specs.FinMap.{get}
use Rattle.std.specs.List.{flat_map, list_any}
use Rattle.std.specs.Ordering.{eq_by_cmp}
use Rattle.std.proofs.lemmas.Bool.{or_left, or_parts, or_right, true≢false}
use Rattle.std.proofs.lemmas.List.Folds.{list_any-append}
use Rattle.seg_common.proofs.TabulatedMaps.{same_key, table_from_gets}
use Rattle.seg_common.specs.TabulatedMaps.{is_among, tabulated}
use Rattle.seg_common.specs.declared.column_type.ColumnType.{ColumnType}
use Rattle.seg_common.proofs.Lists.{filter-none, list_any-none}
use Rattle.seg_model.proofs.Exports.{column_cmp_total, columns_apart, no_column, not_mixed}
use Rattle.seg_model.specs.Columns.{ColumnKey, ColumnValue, Columns, column_at, column_cmp, is_filled, is_mixed}
use Rattle.seg_model.specs.Join.{joined_keys}
use Rattle.seg_column_file.specs.ColumnFiles.{ColumnFile, NamedColumn}
use Rattle.seg_column_format.specs.ModelColumns.{column_key, column_rows}
use Rattle.seg_column_merge.specs.MergedColumns.{columns_of_file, merged_columns, merged_keys, required_key, rows_at, values_in_row}
use Rattle.seg_column_file.specs.RowOrders.{Place}
use Rattle.seg_column_writer.proofs.Exports.{among_passes}
use Rattle.seg_column_merge.proofs.ModelColumns.{found, mixed}

-- ---- lists

any_flat : {X Y : Type 0} (test : Y → Bool) (f : X → List Y) (xs : List X)
    → list_any test (flat_map f xs) ≡ list_any (λ x. list_any test (f x)) xs
any_flat test f [] = refl
any_flat test f (x ∷ xs) =
    list_any-append test (f x) (flat_map f xs) ∙ ap (λ (b : Bool). list_any test (f x) || b) (any_flat test f xs)

any_of_map : {X Y : Type 0} (test : Y → Bool) (f : X → Y) → ((x : X) → test (f x) ≡ false) → (xs : List X)
    → list_any test (map f xs) ≡ false
any_of_map test f none [] = refl
any_of_map test f none (x ∷ xs) = (λ j. none x j || list_any test (map f xs)) ∙ any_of_map test f none xs

-- a key that passes is found among others
here_or_later : (test : ColumnKey → Bool) (q k : ColumnKey) (ks : List ColumnKey) → test q ≡ true
    → (is_among column_cmp ks q ≡ true → list_any test ks ≡ true) → (b : Bool) → eq_by_cmp column_cmp q k ≡ b
    → (b || is_among column_cmp ks q) ≡ true → (test k || list_any test ks) ≡ true
here_or_later test q k ks passes later true e is =
    or_left (test k) (list_any test ks) (ap test (sym (same_key columns_apart q k e)) ∙ passes)
here_or_later test q k ks passes later false e is = or_right (test k) (list_any test ks) (later is)

module _ (required : List (String Global × ColumnType)) (files : List ColumnFile) (places : List Place) where
  abbrev pub declared_keys : List ColumnKey
  declared_keys = map required_key required

  abbrev pub keys : List ColumnKey
  keys = merged_keys declared_keys files

  -- ---- a key that is none of them

  module _ (q : ColumnKey) where
    abbrev hits : NamedColumn → Bool
    hits c = is_among column_cmp (joined_keys (column_key c)) q

    none_in_files : (fs : List ColumnFile) → list_any (λ f. list_any hits f.columns) fs ≡ false → (file : ℕ)
        → list_any hits (columns_of_file fs file) ≡ false
    none_in_files [] none file = refl
    none_in_files (f ∷ fs) none zero = (or_parts (list_any hits f.columns)
        (list_any (λ g. list_any hits g.columns) fs) none).0
    none_in_files (f ∷ fs) none (suc file) =
        none_in_files fs (or_parts (list_any hits f.columns) (list_any (λ g. list_any hits g.columns) fs) none).1 file

    any_same : (fs : List ColumnFile)
        → is_among column_cmp (flat_map (λ f. flat_map (λ c. joined_keys (column_key c)) f.columns) fs) q
        ≡ list_any (λ f. list_any hits f.columns) fs
    any_same [] = refl
    any_same (f ∷ fs) =
        list_any-append (eq_by_cmp column_cmp q) (flat_map (λ c. joined_keys (column_key c)) f.columns)
        (flat_map (λ g. flat_map (λ c. joined_keys (column_key c)) g.columns) fs)
        ∙ (λ j. any_flat (eq_by_cmp column_cmp q) (λ c. joined_keys (column_key c)) f.columns j || any_same fs j)

    module _ (outside : is_among column_cmp keys q ≡ false) where
      split : (is_among column_cmp declared_keys q ≡ false)
          × (is_among column_cmp (flat_map (λ f. flat_map (λ c. joined_keys (column_key c)) f.columns) files) q ≡ false)
      split = or_parts (is_among column_cmp declared_keys q)
          (is_among column_cmp (flat_map (λ f. flat_map (λ c. joined_keys (column_key c)) f.columns) files) q)
          (sym (list_any-append (eq_by_cmp column_cmp q) declared_keys
          (flat_map (λ f. flat_map (λ c. joined_keys (column_key c)) f.columns) files)) ∙ outside)

      no_value : (p : Place) → values_in_row q (columns_of_file files p.0) p.1 ≡ []
      no_value p =
          ap (flat_map (λ (c : NamedColumn). get_or (column_rows (c.stored).column) p.1 []))
          (filter-none hits (columns_of_file files p.0)
          (none_in_files files (sym (any_same files) ∙ split.1) p.0))

      pub not_filled : list_any is_filled (rows_at files places q) ≡ false
      not_filled = any_of_map is_filled (λ p. values_in_row q (columns_of_file files p.0) p.1)
          (λ p. ap is_filled (no_value p)) places

      pub not_found : found required files places q ≡ None
      not_found = no_column declared_keys q (rows_at files places q) split.0 not_filled

      pub outside_unmixed : mixed required files places q ≡ false
      outside_unmixed = not_mixed declared_keys q (rows_at files places q) not_filled

  -- ---- the columns

  abbrev rows : ColumnKey → List (List ColumnValue)
  rows q = rows_at files places q

  -- a map that has what is found at each key is the model's columns, where no key is mixed
  pub columns_are : ((q : ColumnKey) → mixed required files places q ≡ false) → (m : Columns)
      → ((q : ColumnKey) → get m q ≡ found required files places q)
      → merged_columns declared_keys files places ≡ Some m
  columns_are unmixed m gets =
      ap (λ (b : Bool). if b then None
      else Some (tabulated {R = column_cmp} (λ k. column_at declared_keys k (rows k)) keys))
      (list_any-none (λ k. is_mixed declared_keys k (rows k)) unmixed keys)
      ∙ ap Some (sym (table_from_gets column_cmp_total columns_apart (λ k. column_at declared_keys k (rows k)) keys
      (record { outside = not_found }) m gets))

  -- they aren't defined where some key is
  pub columns_undefined : (q : ColumnKey) → mixed required files places q ≡ true
      → merged_columns declared_keys files places ≡ None
  columns_undefined q is =
      let nothing : Option Columns = None in
      ap (λ (b : Bool). if b then nothing
      else Some (tabulated {R = column_cmp} (λ k. column_at declared_keys k (rows k)) keys))
      (by (is_among column_cmp keys q) refl)
    where
      by : (b : Bool) → is_among column_cmp keys q ≡ b → list_any (λ k. is_mixed declared_keys k (rows k)) keys ≡ true
      by true among = among_passes (λ k. is_mixed declared_keys k (rows k)) q keys is among
      by false outside = absurd (true≢false (sym is ∙ outside_unmixed q outside))
