-- The columns of a file are those that were recorded.
use Rattle.std.proofs.Common.{◌≡◌, ℕ, Bool, true, false, cond, List, [], ◌∷◌, ◌++◌, map, Option, Some, None, sym, refl, ap, subst, ◌∙◌, arith}
use Rattle.std.specs.Prelude.{◌||◌, ◌&&◌, nat_eq}
use Rattle.std.specs.Str.{bytes_eq}
use Rattle.std.specs.Cmp.Lexicographic.{bytes_decides}
use Rattle.std.specs.List.{AllByRecursion, IsDistinct, list_any}
use Rattle.std.specs.List.Sorted.{IsPermutation}
use Rattle.std.specs.Cmp.{eq_by_cmp_equiv}
use Rattle.std.specs.Ordering.{eq_by_cmp}
use Rattle.std.specs.FinMap.{find, from_entries, get-from_entries}
use Rattle.std.specs.Map.{keys_of, lookup}
use Rattle.std.proofs.lemmas.Bool.{false≢true}
use Rattle.std.proofs.lemmas.Bool.Decides.{Decides-eqb}
use Rattle.seg_common.proofs.Bytes.{bytes_eq-sym}
use Rattle.seg_common.proofs.Numbers.{nat_eq-sym}
use Rattle.std.proofs.lemmas.List.Folds.{list_any-append}
use Rattle.std.proofs.lemmas.List.Sorted.{Contains-permutation, IsPermutation-map, IsPermutation-sym}
use Rattle.std.proofs.lemmas.Map.Keys.{IsDistinct-IsPermutation}
use Rattle.std.proofs.lemmas.Map.Views.{Contains-from_lookup, lookup-from_Contains}
use Rattle.seg_common.specs.declared.column_type.ColumnType.{ColumnType}
use Rattle.seg_common.specs.TabulatedMaps.{is_among, tabulated}
use Rattle.seg_common.proofs.TabulatedMaps.{IsComplete, first_false, second_false, table_from_gets}
use Rattle.seg_common.specs.declared.column_type.ColumnType.TheVariants as types
use Rattle.seg_common.proofs.Lists.{list_any-none}
use Rattle.seg_model.specs.Columns.{ColumnKey, column_at, column_cmp, is_mixed}
use Rattle.seg_model.proofs.Exports.{column_cmp_total, columns_apart}
use Rattle.seg_column_writer.specs.ValueKinds.{kind_of, kind_place}
use Rattle.seg_column_writer.specs.ColumnRecords.{ColumnRecord}
use Rattle.seg_column_writer.specs.RecordedColumns.{column_type_of, declared_in, entries_in, is_there, all_types, keys_in, keys_with, recorded_columns, rows_at, rows_in, typed_entry}
use Rattle.seg_column_writer.proofs.RecordedKeys.{AreApart, AreOfKind, IsGood, NoneNamed, found_at, keyed, kinds_of, not_mixed, typed_kind, Entries}
use Rattle.seg_column_format.proofs.TermNumbers.{fails_at}
use Rattle.seg_column_format.proofs.Exports.{same_column, Rows}

abbrev pub key_is : ColumnKey → ColumnKey → Bool
key_is = eq_by_cmp column_cmp

-- ---- entries in another order

find_is_lookup : (q : ColumnKey) (es : Entries) → find column_cmp q es ≡ lookup (key_is q) es
find_is_lookup q [] = refl
find_is_lookup q (e ∷ es) = ap (λ (o : Option Rows). cond (key_is q e.0) (Some e.1) o) (find_is_lookup q es)

found_too : (es fs : Entries) → IsPermutation es fs → IsDistinct key_is (keys_of fs) → (q : ColumnKey) (v : Rows)
    → lookup (key_is q) es ≡ Some v → lookup (key_is q) fs ≡ Some v
found_too es fs p d q v is = lookup-from_Contains (eq_by_cmp_equiv column_cmp_total) q v fs d
    (Contains-permutation es fs (q, v) p (Contains-from_lookup same_column q v es is))

lookup-permuted : (es fs : Entries) → IsPermutation es fs → IsDistinct key_is (keys_of es) → IsDistinct key_is (keys_of fs)
    → (q : ColumnKey) → lookup (key_is q) es ≡ lookup (key_is q) fs
lookup-permuted es fs p d k q = each (lookup (key_is q) es) (lookup (key_is q) fs) refl refl
  where
    each : (a b : Option Rows) → lookup (key_is q) es ≡ a → lookup (key_is q) fs ≡ b
        → lookup (key_is q) es ≡ lookup (key_is q) fs
    each (Some v) b e f = e ∙ sym (found_too es fs p k q v e)
    each None (Some w) e f = found_too fs es (IsPermutation-sym es fs p) d q w f ∙ sym f
    each None None e f = e ∙ sym f

-- ---- no two columns have one name, nor one key

-- whether two keys are of one name
abbrev pub same_name : ColumnKey → ColumnKey → Bool
same_name a b = nat_eq (kind_place (kind_of a.type)) (kind_place (kind_of b.type)) && bytes_eq a.path b.path

pub same_name-sym : (a b : ColumnKey) → same_name a b ≡ same_name b a
same_name-sym a b = λ j.
    nat_eq-sym (kind_place (kind_of a.type)) (kind_place (kind_of b.type)) j && bytes_eq-sym a.path b.path j

name_apart : (count : ℕ) (path : List ℕ) (t : ColumnType) (cs : List ColumnRecord) → AreOfKind cs
    → NoneNamed path (kind_of t) cs
    → AllByRecursion (λ k. same_name (keyed path t) k ≡ false) (keys_of (entries_in count cs))
name_apart count path t [] of none = tt
name_apart count path t (c ∷ cs) of none =
    by (is_there c.recording) (column_type_of c.recording)
    (λ u e. typed_kind c.recording.kind c.recording.declared (map (λ v. v.value) c.recording.values) u of.0 e)
    (name_apart count path t cs of.1 none.1)
  where
    by : (b : Bool) (o : Option ColumnType) → ((u : ColumnType) → o ≡ Some u → kind_of u ≡ c.recording.kind)
        → AllByRecursion (λ k. same_name (keyed path t) k ≡ false) (keys_of (entries_in count cs))
        → AllByRecursion (λ k. same_name (keyed path t) k ≡ false)
        (keys_of (cond b (typed_entry count c o) [] ++ entries_in count cs))
    by false o kind rest = rest
    by true None kind rest = rest
    by true (Some u) kind rest =
        ((λ j. nat_eq (kind_place (kind_of t)) (kind_place (kind u refl j)) && bytes_eq path c.path) ∙ none.0, rest)

pub names_distinct : (count : ℕ) (cs : List ColumnRecord) → AreOfKind cs → AreApart cs
    → IsDistinct same_name (keys_of (entries_in count cs))
unfolding IsDistinct
names_distinct count [] of apart = tt
names_distinct count (c ∷ cs) of apart =
    by (is_there c.recording) (column_type_of c.recording)
    (λ u e. typed_kind c.recording.kind c.recording.declared (map (λ v. v.value) c.recording.values) u of.0 e)
    (names_distinct count cs of.1 apart.1)
  where
    by : (b : Bool) (o : Option ColumnType) → ((u : ColumnType) → o ≡ Some u → kind_of u ≡ c.recording.kind)
        → IsDistinct same_name (keys_of (entries_in count cs))
        → IsDistinct same_name (keys_of (cond b (typed_entry count c o) [] ++ entries_in count cs))
    by false o kind rest = rest
    by true None kind rest = rest
    by true (Some u) kind rest = (
      name_apart count c.path u cs of.1 (subst (λ k. NoneNamed c.path k cs) (sym (kind u refl)) apart.0),
      rest,
    )

-- keys of different names differ
keys_apart : (k : ColumnKey) (ks : List ColumnKey) → AllByRecursion (λ m. same_name k m ≡ false) ks
    → AllByRecursion (λ m. key_is k m ≡ false) ks
keys_apart k [] apart = tt
keys_apart k (m ∷ ks) apart = (by (key_is k m) refl, keys_apart k ks apart.1)
  where
    itself : same_name k k ≡ true
    itself = λ j. (Decides-eqb (kind_place (kind_of k.type)) (kind_place (kind_of k.type))).1 refl j
        && (bytes_decides k.path k.path).1 refl j

    by : (b : Bool) → key_is k m ≡ b → b ≡ false
    by true e = absurd (false≢true (sym apart.0 ∙ ap (same_name k) (sym (same_column k m e)) ∙ itself))
    by false e = refl

keys_distinct : (ks : List ColumnKey) → IsDistinct same_name ks → IsDistinct key_is ks
unfolding IsDistinct
keys_distinct [] distinct = tt
keys_distinct (k ∷ ks) distinct = (keys_apart k ks distinct.0, keys_distinct ks distinct.1)

entries_distinct : (count : ℕ) (cs : List ColumnRecord) → AllByRecursion (IsGood count) cs → AreApart cs
    → IsDistinct key_is (keys_of (entries_in count cs))
entries_distinct count cs good apart =
    keys_distinct (keys_of (entries_in count cs)) (names_distinct count cs (kinds_of count cs good) apart)

-- ---- nothing is elsewhere

pub all_fail : (q : ColumnKey) (path : List ℕ) (t : ColumnType) → list_any (key_is q) (keys_with path all_types) ≡ false
    → key_is q (record { path = path; type = t }) ≡ false
all_fail q path types.I64 e = fails_at (key_is q) (keys_with path all_types) 0 q e (omega arith)
all_fail q path types.U64 e = fails_at (key_is q) (keys_with path all_types) 1 q e (omega arith)
all_fail q path types.Bytes e = fails_at (key_is q) (keys_with path all_types) 2 q e (omega arith)
all_fail q path types.Str e = fails_at (key_is q) (keys_with path all_types) 3 q e (omega arith)
all_fail q path types.Bool e = fails_at (key_is q) (keys_with path all_types) 4 q e (omega arith)
all_fail q path types.IpAddr e = fails_at (key_is q) (keys_with path all_types) 5 q e (omega arith)
all_fail q path types.DateTime e = fails_at (key_is q) (keys_with path all_types) 6 q e (omega arith)

find_outside : (count : ℕ) (q : ColumnKey) (cs : List ColumnRecord) → is_among column_cmp (keys_in cs) q ≡ false
    → find column_cmp q (entries_in count cs) ≡ None
find_outside count q [] none = refl
find_outside count q (c ∷ cs) none =
    let both : (list_any (key_is q) (keys_with c.path all_types) || is_among column_cmp (keys_in cs) q) ≡ false =
    sym (list_any-append (key_is q) (keys_with c.path all_types) (keys_in cs)) ∙ none in
    by (is_there c.recording) (column_type_of c.recording)
    (first_false (list_any (key_is q) (keys_with c.path all_types)) (is_among column_cmp (keys_in cs) q) both)
    (find_outside count q cs
    (second_false (list_any (key_is q) (keys_with c.path all_types)) (is_among column_cmp (keys_in cs) q) both))
  where
    by : (b : Bool) (o : Option ColumnType) → list_any (key_is q) (keys_with c.path all_types) ≡ false
        → find column_cmp q (entries_in count cs) ≡ None
        → find column_cmp q (cond b (typed_entry count c o) [] ++ entries_in count cs) ≡ None
    by false o none rest = rest
    by true None none rest = rest
    by true (Some t) none rest =
        ap (λ (b : Bool). cond b (Some (rows_in count c.recording)) (find column_cmp q (entries_in count cs)))
        (all_fail q c.path t none) ∙ rest

-- ---- the whole

module _ (count : ℕ) (cs : List ColumnRecord) (good : AllByRecursion (IsGood count) cs) (apart : AreApart cs) where
  abbrev here : ColumnKey → Option Rows
  here q = column_at (declared_in cs) q (rows_at count cs q)

  abbrev keys : List ColumnKey
  keys = declared_in cs ++ keys_in cs

  complete : IsComplete column_cmp_total columns_apart here keys
  complete = record {
    outside = λ q none.
        sym (found_at count q.path q.type cs good apart)
        ∙ find_outside count q cs (second_false (is_among column_cmp (declared_in cs) q)
        (is_among column_cmp (keys_in cs) q)
        (sym (list_any-append (key_is q) (declared_in cs) (keys_in cs)) ∙ none));
  }

  unmixed : list_any (λ q. is_mixed (declared_in cs) q (rows_at count cs q)) keys ≡ false
  unmixed = list_any-none (λ q. is_mixed (declared_in cs) q (rows_at count cs q))
      (λ q. not_mixed count q.path q.type cs good apart) keys

  -- what was recorded is the map of its columns, in whatever order these come
  pub recorded_is : (es : Entries) → IsPermutation (entries_in count cs) es → recorded_columns count cs ≡ Some (from_entries es)
  recorded_is es moved =
      let distinct = entries_distinct count cs good apart in
      let still = IsDistinct-IsPermutation key_is (λ x y. (eq_by_cmp_equiv column_cmp_total).symm x y)
      (keys_of (entries_in count cs)) (keys_of es)
      (IsPermutation-map (λ (e : ColumnKey × Rows). e.0) (entries_in count cs) es moved) distinct in
      ap (λ b. cond b None (Some (tabulated here keys))) unmixed
      ∙ ap Some (sym (table_from_gets column_cmp_total columns_apart here keys complete (from_entries es) (λ q.
      get-from_entries column_cmp_total es q ∙ find_is_lookup q es
      ∙ sym (lookup-permuted (entries_in count cs) es moved distinct still q)
      ∙ sym (find_is_lookup q (entries_in count cs)) ∙ found_at count q.path q.type cs good apart)))
