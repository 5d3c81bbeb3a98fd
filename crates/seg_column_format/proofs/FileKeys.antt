-- The columns of a file ascend by path and kind.
use Rattle.std.proofs.Common.{◌≡◌, ℕ, zero, suc, ◌+◌, ◌<◌, Bool, true, ◌||◌, List, length, map, get_or, [], refl, sym, ap, ◌∙◌, arith}
use Rattle.std.specs.Prelude.{◌-◌, ◌&&◌}
use Rattle.std.specs.Cmp.Lexicographic.{slice_cmp}
use Rattle.std.specs.List.{range_with_len}
use Rattle.std.specs.List.Sorted.{IsStrictlySortedBy}
use Rattle.std.specs.Ordering.{is_eq, is_lt, nat_cmp, ordering_then}
use Rattle.std.specs.declared.cmp.Ordering.{Ordering}
use Rattle.std.specs.declared.cmp.Ordering.TheVariants.{Less, Equal, Greater}
use Rattle.std.proofs.lemmas.Bool.{false≢true}
use Rattle.std.proofs.lemmas.Bool.Decides.{nat_tests}
use Rattle.std.specs.Cmp.{nat_cmp_is}
use Rattle.std.proofs.lemmas.List.{get_or-map, length-map}
use Rattle.std.proofs.lemmas.List.FromFn.{get_or-map-range_with_len, length-range_with_len}
use Rattle.std.proofs.lemmas.Map.Keys.{sorted_from_all_adjacent}
use Rattle.seg_common.specs.declared.column_type.ColumnType.{ColumnType}
use Rattle.seg_common.specs.declared.column_type.ColumnType.TheVariants as types
use Rattle.seg_columns.specs.DynamicColumns.{column_of, type_of}
use Rattle.seg_column_file.specs.ColumnFiles.{IsColumnFile, NamedColumn, column_bytes, column_count, columns_from, named_column, row_count, table_of}
use Rattle.seg_column_file.specs.ColumnTable.{are_apart, code_in, may_follow, path_in, place_of, type_of_code}
use Rattle.seg_column_format.specs.ModelColumns.{column_key}
use Rattle.seg_model.specs.Columns.{ColumnKey}
use Rattle.seg_column_format.proofs.KeyOrder.{kind_cmp, kind_place, kind_total}

pub type_read : (t : ColumnType) (rows : ℕ) (bytes : List ℕ) → type_of (column_of t rows bytes) ≡ t
type_read types.I64 rows bytes = refl
type_read types.U64 rows bytes = refl
type_read types.Bytes rows bytes = refl
type_read types.Str rows bytes = refl
type_read types.Bool rows bytes = refl
type_read types.IpAddr rows bytes = refl
type_read types.DateTime rows bytes = refl

-- ---- codes

abbrev kind_code : ℕ → ℕ
kind_code zero = 1
kind_code (suc n) = suc n

kind_of_code : (code : ℕ) → code < 7 → kind_place (type_of_code code) ≡ kind_code code
kind_of_code zero lt = refl
kind_of_code (suc zero) lt = refl
kind_of_code (suc (suc zero)) lt = refl
kind_of_code (suc (suc (suc zero))) lt = refl
kind_of_code (suc (suc (suc (suc zero)))) lt = refl
kind_of_code (suc (suc (suc (suc (suc zero))))) lt = refl
kind_of_code (suc (suc (suc (suc (suc (suc zero)))))) lt = refl
kind_of_code (suc (suc (suc (suc (suc (suc (suc n))))))) lt = absurd (omega (arith, lt))

codes_rise : (a b : ℕ) → are_apart a b ≡ true → kind_code a < kind_code b
codes_rise zero zero h = absurd (false≢true h)
codes_rise zero (suc zero) h = absurd (false≢true h)
codes_rise zero (suc (suc b)) h = omega arith
codes_rise (suc a) zero h = grind (arith, nat_tests, h)
codes_rise (suc a) (suc b) h = grind (arith, nat_tests, h)

kinds_rise : (a b : ℕ) → a < 7 → b < 7 → are_apart a b ≡ true
    → nat_cmp (kind_place (type_of_code a)) (kind_place (type_of_code b)) ≡ Less
kinds_rise a b below lt h =
    let rise = codes_rise a b h in
    ap (λ n. nat_cmp n (kind_place (type_of_code b))) (kind_of_code a below)
    ∙ (ap (nat_cmp (kind_code a)) (kind_of_code b lt) ∙ sym (nat_cmp_is (kind_code a) (kind_code b) Less rise))

lower : (o s : Ordering) (apart : Bool) → (is_lt o || (is_eq o && apart)) ≡ true → (apart ≡ true → s ≡ Less)
    → ordering_then o s ≡ Less
lower Less s apart h less = refl
lower Equal s apart h less = less h
lower Greater s apart h less = absurd (false≢true h)

-- ---- a file

module _ (bytes : List ℕ) (file : IsColumnFile bytes) where
  abbrev table : List ℕ
  table = table_of bytes

  abbrev count : ℕ
  count = column_count bytes

  abbrev at : ℕ → NamedColumn
  at k = named_column bytes table (row_count bytes) k

  key_at : (k : ℕ) → column_key (at k)
      ≡ record { path = path_in table (place_of table k); type = type_of_code (code_in table (place_of table k)) }
  unfolding named_column
  key_at k = λ i. record {
    path = path_in table (place_of table k);
    type = type_read (type_of_code (code_in table (place_of table k))) (row_count bytes) (column_bytes bytes table k) i;
  }

  key_follows : (k : ℕ) → k + 1 < count → kind_cmp (column_key (at k)) (column_key (at (k + 1))) ≡ Less
  unfolding may_follow
  key_follows k lt =
      let here = file.entries.each k (omega (arith, lt)) in
      let next = file.entries.each (k + 1) lt in
      (λ i. kind_cmp (key_at k i) (key_at (k + 1) i))
      ∙ lower (slice_cmp nat_cmp (path_in table (place_of table k)) (path_in table (place_of table (k + 1)))) _
      (are_apart (code_in table (place_of table k)) (code_in table (place_of table (k + 1))))
      (file.entries.follow k lt) (kinds_rise _ _ here.known next.known)

  abbrev pub keys : List ColumnKey
  keys = map column_key (columns_from bytes 0)

  length-keys : length keys ≡ count
  unfolding columns_from
  length-keys = length-map _ _ ∙ (length-map _ _ ∙ (length-range_with_len 0 (count - 0) ∙ omega arith))

  key_from : (k : ℕ) (d : ColumnKey) → k < count → get_or keys k d ≡ column_key (at k)
  unfolding columns_from
  key_from k d lt =
      get_or-map column_key (map at (range_with_len 0 (count - 0))) k (at 0) d (omega (arith, lt, length-map (range_with_len 0 (count - 0)) at, length-range_with_len 0 (count - 0)))
      ∙ ap column_key (get_or-map-range_with_len at 0 (count - 0) k k (at 0) (omega (arith, lt)) (omega arith))

  pub keys_ascend : IsStrictlySortedBy kind_cmp keys
  keys_ascend = sorted_from_all_adjacent kind_total keys (record { path = []; type = types.I64 }) (λ k lt.
      let less : k + 1 < count = omega (arith, lt, length-keys) in
      ap (λ (y : ColumnKey). kind_cmp y (get_or keys (k + 1) (record { path = []; type = types.I64 }))) (key_from k _ (omega (arith, less)))
      ∙ (ap (kind_cmp (column_key (at k))) (key_from (k + 1) _ less) ∙ key_follows k less))
