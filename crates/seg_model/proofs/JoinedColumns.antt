-- The columns of parts joined.
use Rattle.std.proofs.Common.{◌≡◌, ℕ, zero, suc, Bool, true, false, cond, List, [], ◌∷◌, ◌++◌, map, length, Some, None, Option, sym, refl, ap, ◌∙◌, unwrap_or, append-nil}
use Rattle.std.specs.Prelude.{◌||◌, ◌&&◌, not, filter, is_some, replicate}
use mathlib.Core.Bool.{true≢false}
use Rattle.std.specs.List.{flat_map, list_any, list_all}
use Rattle.std.specs.declared.cmp.Ordering.{Ordering}
use Rattle.std.specs.declared.cmp.Ordering.TheVariants.{Less, Equal, Greater}
use Rattle.std.specs.Ordering.{nat_cmp, eq_by_cmp, is_eq, ordering_then}
use Rattle.std.specs.Cmp.{IsTotalOrder, nat_cmp_total, on_total, then_total, tied_itself}
use Rattle.std.specs.Cmp.Lexicographic.{slice_cmp, nat_list_cmp_total}
use Rattle.std.specs.FinMap.{get, keys, contains_key-keys, slice_cmp-IsAntisymmetric, nat_cmp-IsAntisymmetric, IsAntisymmetric}
use Rattle.std.proofs.lemmas.List.Folds.{list_any-append}
use Rattle.std.proofs.lemmas.List.{length-map}
use Rattle.std.proofs.lemmas.Bool.{or_from}
use Rattle.std.proofs.Math.Bool.{and-false}
use Rattle.std.proofs.lemmas.Simd.{map-map}
use Rattle.seg_common.specs.declared.column_type.ColumnType.{ColumnType}
use Rattle.seg_common.specs.declared.column_type.ColumnType.TheVariants.{I64, U64, Bytes, Str, Bool as Boolean, IpAddr, DateTime}
use Rattle.seg_values.specs.Tree.{Document}
use Rattle.seg_model.specs.Fields.{Schema, Analyzer}
use Rattle.seg_model.specs.Operations.{Batch, kept, live}
use Rattle.seg_common.specs.TabulatedMaps.{is_among, tabulated}
use Rattle.seg_model.specs.Codes.{type_of_place, type_of_place-type_place}
use Rattle.seg_model.specs.Columns.{ColumnValue, number, bytes_value, text_value, boolean_value, ip_value, date_value, ColumnKey, type_place, column_cmp, Columns, FastValue, fast_values, is_declared, value_types, value_keys, values_at, fits_i64, is_not_negative, number_type, is_number, is_type, without_values, rows_of, is_filled, if_there, column_at, is_mixed, columns_from, columns, declared_columns}
use Rattle.seg_model.specs.Contents.{Contents}
use Rattle.seg_model.specs.Join.{Part, live_of, part_column, side_by_side, part_rows, joined_keys, joined_columns}
use Rattle.seg_model.specs.Laws.{IsReadingOf, AreReadingsOf}
use Rattle.seg_common.proofs.TabulatedMaps.{first_false, second_false, same_key, IsComplete, get-tabulated, same_table, IsCovered, none_passes, any_same}
use Rattle.seg_common.proofs.Numbers.{then_first, then_second}
use Rattle.seg_model.proofs.LiveParts.{WasRead, was_read, live_of-map}

abbrev Rows : Type 0
Rows = List (List ColumnValue)

-- ---- the order of keys

pub column_cmp_total : IsTotalOrder column_cmp
column_cmp_total = then_total (on_total (λ (k : ColumnKey). k.path) nat_list_cmp_total) (on_total (λ (k : ColumnKey). type_place k.type) nat_cmp_total)

pub columns_apart : IsAntisymmetric column_cmp
columns_apart k m e =
    let path : k.path ≡ m.path = slice_cmp-IsAntisymmetric nat_cmp-IsAntisymmetric k.path m.path (then_first (slice_cmp nat_cmp k.path m.path) (nat_cmp (type_place k.type) (type_place m.type)) e) in
    let place : type_place k.type ≡ type_place m.type = nat_cmp-IsAntisymmetric _ _ (then_second (slice_cmp nat_cmp k.path m.path) (nat_cmp (type_place k.type) (type_place m.type)) e) in
    let type : k.type ≡ m.type = sym (type_of_place-type_place k.type) ∙ ap type_of_place place ∙ type_of_place-type_place m.type in
    λ i. record { path = path i; type = type i }

-- ---- rows without a value

pub is_filled-without_values : (rows : Rows) → list_any is_filled (without_values rows) ≡ false
is_filled-without_values [] = refl
is_filled-without_values (r ∷ rows) = is_filled-without_values rows

is_filled-rows_of : (declared : List ColumnKey) (k : ColumnKey) (rows : Rows) → list_any is_filled rows ≡ false → list_any is_filled (rows_of declared k rows) ≡ false
is_filled-rows_of declared k rows h = by (not (is_number k.type) || is_type k.type (number_type declared k.path rows))
  where
    by : (b : Bool) → list_any is_filled (cond b rows (without_values rows)) ≡ false
    by true = h
    by false = is_filled-without_values rows

pub no_column : (declared : List ColumnKey) (k : ColumnKey) (rows : Rows) → is_declared declared k ≡ false → list_any is_filled rows ≡ false → column_at declared k rows ≡ None
no_column declared k rows d h = ap (λ b. cond b (Some (rows_of declared k rows)) None) (or_from (is_declared declared k) _ d (is_filled-rows_of declared k rows h))

pub all_fit : (rows : Rows) → list_any is_filled rows ≡ false → list_all (list_all fits_i64) rows ≡ true
all_fit [] h = refl
all_fit ([] ∷ rows) h = all_fit rows h
all_fit ((v ∷ vs) ∷ rows) h = absurd (true≢false h)

pub not_mixed : (declared : List ColumnKey) (k : ColumnKey) (rows : Rows) → list_any is_filled rows ≡ false → is_mixed declared k rows ≡ false
not_mixed declared k rows h = by (is_declared declared (record { path = k.path; type = I64 })) (is_declared declared (record { path = k.path; type = U64 })) (list_all (list_all fits_i64) rows) (all_fit rows h)
  where
    by : (a b c : Bool) → c ≡ true → (is_number k.type && not (is_type I64 (cond a (Some I64) (cond b (Some U64) (cond c (Some I64) (cond (list_all (list_all is_not_negative) rows) (Some U64) None)))) || is_type U64 (cond a (Some I64) (cond b (Some U64) (cond c (Some I64) (cond (list_all (list_all is_not_negative) rows) (Some U64) None)))))) ≡ false
    by true b c e = and-false (is_number k.type)
    by false true c e = and-false (is_number k.type)
    by false false true e = and-false (is_number k.type)
    by false false false e = absurd (true≢false (sym e))

-- ---- what a table of columns has

-- no row has a value but at these keys
abbrev pub IsNothingElse : (ColumnKey → Rows) → List ColumnKey → Type 0
IsNothingElse at ks = (q : ColumnKey) → is_among column_cmp ks q ≡ false → list_any is_filled (at q) ≡ false

module _ (declared : List ColumnKey) where
  -- no column, and no path of mixed numbers, but at these keys
  pub record Covers (at : ColumnKey → Rows) (ks : List ColumnKey) : Type 0 where
    pub there : IsComplete column_cmp_total columns_apart (λ k. column_at declared k (at k)) ks
    pub mixed : IsCovered columns_apart (λ k. is_mixed declared k (at k)) ks

  -- it is enough that nothing is elsewhere, and that declared keys are among them
  pub covers : (at : ColumnKey → Rows) (ks : List ColumnKey) → IsNothingElse at ks → Covers at (declared ++ ks)
  covers at ks nothing = record {
    there = record { outside = λ q n. no_column declared q (at q) (first_false (is_among column_cmp declared q) _ (outside q n)) (not_there q n) };
    mixed = record { outside = λ q n. not_mixed declared q (at q) (not_there q n) };
  }
    where
      outside : (q : ColumnKey) → is_among column_cmp (declared ++ ks) q ≡ false → (is_among column_cmp declared q || is_among column_cmp ks q) ≡ false
      outside q n = sym (list_any-append (eq_by_cmp column_cmp q) declared ks) ∙ n

      not_there : (q : ColumnKey) → is_among column_cmp (declared ++ ks) q ≡ false → list_any is_filled (at q) ≡ false
      not_there q n = nothing q (second_false (is_among column_cmp declared q) _ (outside q n))

  pub same_columns : (at to : ColumnKey → Rows) (ks ms : List ColumnKey) → Covers at ks → Covers to ms → ((q : ColumnKey) → at q ≡ to q) → columns_from declared at ks ≡ columns_from declared to ms
  same_columns at to ks ms ca ct h =
      ap (λ b. cond b None (Some (tabulated (λ k. column_at declared k (at k)) ks))) mixed
      ∙ ap (λ t. cond (list_any (λ k. is_mixed declared k (to k)) ms) None (Some t)) table
    where
      mixed : list_any (λ k. is_mixed declared k (at k)) ks ≡ list_any (λ k. is_mixed declared k (to k)) ms
      mixed = any_same columns_apart (λ k. is_mixed declared k (at k)) ks ms ca.mixed (record { outside = λ q n. ap (is_mixed declared q) (h q) ∙ ct.mixed.outside q n }) ∙ ap (λ f. list_any f ms) (λ i k. is_mixed declared k (h k i))

      table : tabulated {R = column_cmp} (λ k. column_at declared k (at k)) ks ≡ tabulated (λ k. column_at declared k (to k)) ms
      table = same_table column_cmp_total columns_apart (λ k. column_at declared k (at k)) (λ k. column_at declared k (to k)) ks ms ca.there ct.there (λ q. ap (column_at declared q) (h q))

  -- what defined columns have, and that no path is mixed
  pub record AreColumns (at : ColumnKey → Rows) (cs : Columns) : Type 0 where
    pub gets : (q : ColumnKey) → get cs q ≡ column_at declared q (at q)
    pub none_mixed : (q : ColumnKey) → is_mixed declared q (at q) ≡ false

  pub are_columns : (at : ColumnKey → Rows) (ks : List ColumnKey) (cs : Columns) → Covers at ks → columns_from declared at ks ≡ Some cs → AreColumns at cs
  are_columns at ks cs c e = by (list_any (λ k. is_mixed declared k (at k)) ks) refl e
    where
      by : (b : Bool) → list_any (λ k. is_mixed declared k (at k)) ks ≡ b → cond b None (Some (tabulated (λ k. column_at declared k (at k)) ks)) ≡ Some cs → AreColumns at cs
      by true m h = absurd (true≢false (sym (ap is_some h)))
      by false m h =
          let is : cs ≡ tabulated (λ k. column_at declared k (at k)) ks = cc in
          record {
            gets = λ q. ap (λ t. get t q) is ∙ get-tabulated column_cmp_total columns_apart (λ k. column_at declared k (at k)) ks c.there q;
            none_mixed = none_passes columns_apart (λ k. is_mixed declared k (at k)) ks c.mixed m;
          }

-- ---- the columns of documents

values_at-none : (q : ColumnKey) (vs : List FastValue) → is_among column_cmp (flat_map value_keys vs) q ≡ false → values_at q vs ≡ []
values_at-none q [] h = refl
values_at-none q (v ∷ vs) h =
    let both = sym (list_any-append (eq_by_cmp column_cmp q) (value_keys v) (flat_map value_keys vs)) ∙ h in
    ap (λ b. map (λ (x : FastValue). x.value) (cond b (v ∷ filter (λ x. is_among column_cmp (value_keys x) q) vs) (filter (λ x. is_among column_cmp (value_keys x) q) vs))) (first_false (is_among column_cmp (value_keys v) q) _ both)
    ∙ values_at-none q vs (second_false (is_among column_cmp (value_keys v) q) _ both)

is_filled-values_at : (q : ColumnKey) (ds : List (List FastValue)) → is_among column_cmp (flat_map (flat_map value_keys) ds) q ≡ false → list_any is_filled (map (values_at q) ds) ≡ false
is_filled-values_at q [] h = refl
is_filled-values_at q (d ∷ ds) h =
    let both = sym (list_any-append (eq_by_cmp column_cmp q) (flat_map value_keys d) (flat_map (flat_map value_keys) ds)) ∙ h in
    or_from (is_filled (values_at q d)) _ (ap is_filled (values_at-none q d (first_false (is_among column_cmp (flat_map value_keys d) q) _ both)))
    (is_filled-values_at q ds (second_false (is_among column_cmp (flat_map value_keys d) q) _ both))

pub covers_documents : (declared : List ColumnKey) (ds : List (List FastValue)) → Covers declared (λ k. map (values_at k) ds) (declared ++ flat_map (flat_map value_keys) ds)
covers_documents declared ds = covers declared (λ k. map (values_at k) ds) (flat_map (flat_map value_keys) ds) (λ q n. is_filled-values_at q ds n)

-- numbers of a path are at I64 and at U64 alike
number_keys : (path at : List ℕ) (v : ColumnValue) → is_among column_cmp (map (λ type. record { path = at; type = type }) (value_types v)) (record { path = path; type = I64 }) ≡ is_among column_cmp (map (λ type. record { path = at; type = type }) (value_types v)) (record { path = path; type = U64 })
number_keys path at (number z) = by (slice_cmp nat_cmp path at)
  where
    by : (o : Ordering) → (is_eq (ordering_then o Equal) || (is_eq (ordering_then o Less) || false)) ≡ (is_eq (ordering_then o Greater) || (is_eq (ordering_then o Equal) || false))
    by Less = refl
    by Equal = refl
    by Greater = refl
number_keys path at (bytes_value b) = refl
number_keys path at (text_value b) = refl
number_keys path at (boolean_value b) = refl
number_keys path at (ip_value b) = refl
number_keys path at (date_value b) = refl

numbers_at : (path : List ℕ) (vs : List FastValue) → values_at (record { path = path; type = I64 }) vs ≡ values_at (record { path = path; type = U64 }) vs
numbers_at path [] = refl
numbers_at path (v ∷ vs) =
    ap (λ b. map (λ (x : FastValue). x.value) (cond b (v ∷ filter (λ x. is_among column_cmp (value_keys x) (record { path = path; type = I64 })) vs) (filter (λ x. is_among column_cmp (value_keys x) (record { path = path; type = I64 })) vs))) (number_keys path v.path v.value)
    ∙ by (is_among column_cmp (value_keys v) (record { path = path; type = U64 })) (numbers_at path vs)
  where
    by : (b : Bool) → values_at (record { path = path; type = I64 }) vs ≡ values_at (record { path = path; type = U64 }) vs → map (λ (x : FastValue). x.value) (cond b (v ∷ filter (λ x. is_among column_cmp (value_keys x) (record { path = path; type = I64 })) vs) (filter (λ x. is_among column_cmp (value_keys x) (record { path = path; type = I64 })) vs)) ≡ map (λ (x : FastValue). x.value) (cond b (v ∷ filter (λ x. is_among column_cmp (value_keys x) (record { path = path; type = U64 })) vs) (filter (λ x. is_among column_cmp (value_keys x) (record { path = path; type = U64 })) vs))
    by true h = ap (λ l. v.value ∷ l) h
    by false h = h

-- ---- what a part's columns give back

unfilled : (rows : Rows) → list_any is_filled rows ≡ false → rows ≡ replicate (length rows) []
unfilled [] h = refl
unfilled ([] ∷ rows) h = ap (λ l. [] ∷ l) (unfilled rows h)
unfilled ((v ∷ vs) ∷ rows) h = absurd (true≢false h)

pub unwrap_if_there : (d : Bool) (rows : Rows) → unwrap_or (if_there d rows) (replicate (length rows) []) ≡ rows
unwrap_if_there d rows = by (d || list_any is_filled rows) refl
  where
    by : (b : Bool) → (d || list_any is_filled rows) ≡ b → unwrap_or (cond b (Some rows) None) (replicate (length rows) []) ≡ rows
    by true e = refl
    by false e = sym (unfilled rows (second_false d _ e))

pub length-rows_of : (declared : List ColumnKey) (k : ColumnKey) (rows : Rows) → length (rows_of declared k rows) ≡ length rows
length-rows_of declared k rows = by (not (is_number k.type) || is_type k.type (number_type declared k.path rows))
  where
    by : (b : Bool) → length (cond b rows (without_values rows)) ≡ length rows
    by true = refl
    by false = length-map rows (λ _. [])

beside_nothing : (rows : Rows) → side_by_side rows (without_values rows) ≡ rows
beside_nothing [] = refl
beside_nothing (r ∷ rows) = λ i. append-nil r i ∷ beside_nothing rows i

nothing_beside : (rows : Rows) → side_by_side (without_values rows) rows ≡ rows
nothing_beside [] = refl
nothing_beside (r ∷ rows) = ap (λ l. r ∷ l) (nothing_beside rows)

pub one_has_all : (nt : Option ColumnType) (rows : Rows) → not (is_type I64 nt || is_type U64 nt) ≡ false → side_by_side (cond (is_type I64 nt) rows (without_values rows)) (cond (is_type U64 nt) rows (without_values rows)) ≡ rows
one_has_all None rows h = absurd (true≢false h)
one_has_all (Some I64) rows h = beside_nothing rows
one_has_all (Some U64) rows h = nothing_beside rows
one_has_all (Some Bytes) rows h = absurd (true≢false h)
one_has_all (Some Str) rows h = absurd (true≢false h)
one_has_all (Some Boolean) rows h = absurd (true≢false h)
one_has_all (Some IpAddr) rows h = absurd (true≢false h)
one_has_all (Some DateTime) rows h = absurd (true≢false h)

module _ (schema : Schema) (analyzer : Analyzer) where
  abbrev read_at : List Document → ColumnKey → Rows
  read_at ds k = map (values_at k) (map (fast_values schema analyzer) ds)

  pub numbers_read : (path : List ℕ) (ds : List Document) → read_at ds (record { path = path; type = I64 }) ≡ read_at ds (record { path = path; type = U64 })
  numbers_read path ds = ap (λ f. map f (map (fast_values schema analyzer) ds)) (λ i vs. numbers_at path vs i)

  module _ (b : Batch) (p : Part) (r : IsReadingOf schema analyzer b p) where
    read : WasRead schema analyzer b.documents p.contents
    read = was_read schema analyzer b.documents p.contents r.contents

    table : AreColumns (declared_columns schema) (read_at b.documents) read.columns_read
    unfolding read
    table = are_columns (declared_columns schema) (read_at b.documents) _ _ (covers_documents (declared_columns schema) (map (fast_values schema analyzer) b.documents)) read.are_columns

    part_column_read : (k : ColumnKey) → part_column k p ≡ rows_of (declared_columns schema) k (read_at b.documents k)
    part_column_read k =
        ap (λ (c : Contents). unwrap_or (get c.columns k) (replicate c.documents [])) read.is_reading
        ∙ ap (λ o. unwrap_or o (replicate (length b.documents) [])) (table.gets k)
        ∙ ap (λ n. unwrap_or (column_at (declared_columns schema) k (read_at b.documents k)) (replicate n []))
        (sym (length-rows_of (declared_columns schema) k (read_at b.documents k) ∙ length-map (map (fast_values schema analyzer) b.documents) (values_at k) ∙ length-map b.documents (fast_values schema analyzer)))
        ∙ unwrap_if_there (is_declared (declared_columns schema) k) (rows_of (declared_columns schema) k (read_at b.documents k))

    numbers_joined : (path : List ℕ) → side_by_side (part_column (record { path = path; type = I64 }) p) (part_column (record { path = path; type = U64 }) p) ≡ read_at b.documents (record { path = path; type = I64 })
    numbers_joined path =
        (λ i. side_by_side (part_column_read (record { path = path; type = I64 }) i) (part_column_read (record { path = path; type = U64 }) i))
        ∙ ap (λ rows. side_by_side (rows_of (declared_columns schema) (record { path = path; type = I64 }) (read_at b.documents (record { path = path; type = I64 }))) (rows_of (declared_columns schema) (record { path = path; type = U64 }) rows)) (sym (numbers_read path b.documents))
        ∙ one_has_all (number_type (declared_columns schema) path (read_at b.documents (record { path = path; type = I64 }))) (read_at b.documents (record { path = path; type = I64 })) (table.none_mixed (record { path = path; type = I64 }))

    rows_read : (path : List ℕ) (type : ColumnType) → part_rows (record { path = path; type = type }) p ≡ read_at b.documents (record { path = path; type = type })
    rows_read path I64 = numbers_joined path
    rows_read path U64 = numbers_joined path ∙ numbers_read path b.documents
    rows_read path Bytes = part_column_read (record { path = path; type = Bytes })
    rows_read path Str = part_column_read (record { path = path; type = Str })
    rows_read path Boolean = part_column_read (record { path = path; type = Boolean })
    rows_read path IpAddr = part_column_read (record { path = path; type = IpAddr })
    rows_read path DateTime = part_column_read (record { path = path; type = DateTime })

  rows_live : (bs : List Batch) (ps : List Part) → AreReadingsOf schema analyzer bs ps → (q : ColumnKey) → live_of (part_rows q) ps ≡ read_at (flat_map live bs) q
  rows_live bs ps all q =
      live_of-map schema analyzer (part_rows q) (λ d. values_at q (fast_values schema analyzer d)) (λ b p r. rows_read b p r q.path q.type ∙ map-map (values_at q) (fast_values schema analyzer) b.documents) bs ps all
      ∙ sym (map-map (values_at q) (fast_values schema analyzer) (flat_map live bs))

-- ---- where no part has a column

not_key : (q k : ColumnKey) → is_among column_cmp (joined_keys k) q ≡ true → (ks : List ColumnKey) → is_among column_cmp (flat_map joined_keys ks) q ≡ false → is_among column_cmp ks k ≡ false
not_key q k in_keys [] h = refl
not_key q k in_keys (m ∷ ks) h =
    let both = sym (list_any-append (eq_by_cmp column_cmp q) (joined_keys m) (flat_map joined_keys ks)) ∙ h in
    or_from (eq_by_cmp column_cmp k m) _ (by (eq_by_cmp column_cmp k m) refl (first_false (is_among column_cmp (joined_keys m) q) _ both)) (not_key q k in_keys ks (second_false (is_among column_cmp (joined_keys m) q) _ both))
  where
    by : (b : Bool) → eq_by_cmp column_cmp k m ≡ b → is_among column_cmp (joined_keys m) q ≡ false → b ≡ false
    by true e n = sym in_keys ∙ ap (λ x. is_among column_cmp (joined_keys x) q) (same_key columns_apart k m e) ∙ n
    by false e n = refl

pub is_filled-replicate : (n : ℕ) → list_any is_filled (replicate n []) ≡ false
is_filled-replicate zero = refl
is_filled-replicate (suc n) = is_filled-replicate n

pub no_part_column : (k : ColumnKey) (p : Part) → is_among column_cmp (keys p.contents.columns) k ≡ false → part_column k p ≡ replicate p.contents.documents []
no_part_column k p h = by (get p.contents.columns k) (contains_key-keys p.contents.columns k ∙ h)
  where
    by : (o : Option Rows) → is_some o ≡ false → unwrap_or o (replicate p.contents.documents []) ≡ replicate p.contents.documents []
    by None e = refl
    by (Some x) e = absurd (true≢false e)

twice_nothing : (n : ℕ) → list_any is_filled (side_by_side (replicate n []) (replicate n [])) ≡ false
twice_nothing zero = refl
twice_nothing (suc n) = twice_nothing n

tied : (k : ColumnKey) → eq_by_cmp column_cmp k k ≡ true
tied k = ap is_eq (tied_itself column_cmp_total k)

no_numbers : (path : List ℕ) (q : ColumnKey) (p : Part) → is_among column_cmp (record { path = path; type = I64 } ∷ record { path = path; type = U64 } ∷ []) q ≡ true → is_among column_cmp (flat_map joined_keys (keys p.contents.columns)) q ≡ false → list_any is_filled (side_by_side (part_column (record { path = path; type = I64 }) p) (part_column (record { path = path; type = U64 }) p)) ≡ false
no_numbers path q p in_keys h =
    (λ i. list_any is_filled (side_by_side
    (no_part_column (record { path = path; type = I64 }) p (not_key q (record { path = path; type = I64 }) in_keys (keys p.contents.columns) h) i)
    (no_part_column (record { path = path; type = U64 }) p (not_key q (record { path = path; type = U64 }) in_keys (keys p.contents.columns) h) i)))
    ∙ twice_nothing p.contents.documents

no_other : (q : ColumnKey) (p : Part) → is_among column_cmp (joined_keys q) q ≡ true → is_among column_cmp (flat_map joined_keys (keys p.contents.columns)) q ≡ false → list_any is_filled (part_column q p) ≡ false
no_other q p in_keys h = ap (list_any is_filled) (no_part_column q p (not_key q q in_keys (keys p.contents.columns) h)) ∙ is_filled-replicate p.contents.documents

pub no_rows : (path : List ℕ) (type : ColumnType) (p : Part) → is_among column_cmp (flat_map joined_keys (keys p.contents.columns)) (record { path = path; type = type }) ≡ false → list_any is_filled (part_rows (record { path = path; type = type }) p) ≡ false
no_rows path I64 p h = no_numbers path (record { path = path; type = I64 }) p (ap (λ b. b || (eq_by_cmp column_cmp (record { path = path; type = I64 }) (record { path = path; type = U64 }) || false)) (tied (record { path = path; type = I64 }))) h
no_rows path U64 p h = no_numbers path (record { path = path; type = U64 }) p (or_true _ (ap (λ b. b || false) (tied (record { path = path; type = U64 })))) h
  where
    or_true : (b : Bool) {c : Bool} → c ≡ true → (b || c) ≡ true
    or_true true e = refl
    or_true false e = e
no_rows path Bytes p h = no_other (record { path = path; type = Bytes }) p (ap (λ b. b || false) (tied (record { path = path; type = Bytes }))) h
no_rows path Str p h = no_other (record { path = path; type = Str }) p (ap (λ b. b || false) (tied (record { path = path; type = Str }))) h
no_rows path Boolean p h = no_other (record { path = path; type = Boolean }) p (ap (λ b. b || false) (tied (record { path = path; type = Boolean }))) h
no_rows path IpAddr p h = no_other (record { path = path; type = IpAddr }) p (ap (λ b. b || false) (tied (record { path = path; type = IpAddr }))) h
no_rows path DateTime p h = no_other (record { path = path; type = DateTime }) p (ap (λ b. b || false) (tied (record { path = path; type = DateTime }))) h

is_filled-append : (xs ys : Rows) → list_any is_filled xs ≡ false → list_any is_filled ys ≡ false → list_any is_filled (xs ++ ys) ≡ false
is_filled-append xs ys h k = list_any-append is_filled xs ys ∙ or_from _ _ h k

pub is_filled-kept : (bs : List Bool) (xs : Rows) → list_any is_filled xs ≡ false → list_any is_filled (kept bs xs) ≡ false
is_filled-kept [] xs h = refl
is_filled-kept (b ∷ bs) [] h = refl
is_filled-kept (true ∷ bs) (x ∷ xs) h = or_from (is_filled x) _ (first_false (is_filled x) _ h) (is_filled-kept bs xs (second_false (is_filled x) _ h))
is_filled-kept (false ∷ bs) (x ∷ xs) h = is_filled-kept bs xs (second_false (is_filled x) _ h)

pub is_filled-parts : (q : ColumnKey) (ps : List Part) → is_among column_cmp (flat_map (λ p. flat_map joined_keys (keys p.contents.columns)) ps) q ≡ false → list_any is_filled (live_of (part_rows q) ps) ≡ false
is_filled-parts q [] h = refl
is_filled-parts q (p ∷ ps) h =
    let both = sym (list_any-append (eq_by_cmp column_cmp q) (flat_map joined_keys (keys p.contents.columns)) (flat_map (λ p. flat_map joined_keys (keys p.contents.columns)) ps)) ∙ h in
    is_filled-append (kept p.alive (part_rows q p)) _ (is_filled-kept p.alive (part_rows q p) (no_rows q.path q.type p (first_false (is_among column_cmp (flat_map joined_keys (keys p.contents.columns)) q) _ both)))
    (is_filled-parts q ps (second_false (is_among column_cmp (flat_map joined_keys (keys p.contents.columns)) q) _ both))

pub covers_parts : (declared : List ColumnKey) (ps : List Part) → Covers declared (λ k. live_of (part_rows k) ps) (declared ++ flat_map (λ p. flat_map joined_keys (keys p.contents.columns)) ps)
covers_parts declared ps = covers declared (λ k. live_of (part_rows k) ps) (flat_map (λ p. flat_map joined_keys (keys p.contents.columns)) ps) (λ q n. is_filled-parts q ps n)

-- the columns of parts joined are those of the live documents, each undefined where the other is
pub columns_live : (schema : Schema) (analyzer : Analyzer) (bs : List Batch) (ps : List Part) → AreReadingsOf schema analyzer bs ps → joined_columns schema ps ≡ columns schema analyzer (flat_map live bs)
columns_live schema analyzer bs ps all =
    same_columns (declared_columns schema) (λ k. live_of (part_rows k) ps) (read_at schema analyzer (flat_map live bs)) _ _
    (covers_parts (declared_columns schema) ps) (covers_documents (declared_columns schema) (map (fast_values schema analyzer) (flat_map live bs)))
    (rows_live schema analyzer bs ps all)
