-- The values that a row of one file has at a key.
use Rattle.std.proofs.Common.{◌≡◌, ℕ, zero, suc, ◌+◌, ◌<◌, Bool, true, false, cond, List, [], ◌∷◌, ◌++◌, length, map, filter, get_or, Option, Some, None, refl, sym, ap, subst, inl, inr, ◌⊎◌, ◌∙◌, arith}
use Rattle.std.specs.Prelude.{◌&&◌, not, is_some, nat_eq, replicate, unwrap_or}
use Rattle.std.specs.Cmp.Lexicographic.{slice_cmp}
use Rattle.std.specs.FinMap.Entries.{find}
use Rattle.std.specs.List.{AllByRecursion, flat_map, list_any}
use Rattle.std.specs.List.Sorted.{IsStrictlySortedBy}
use Rattle.std.specs.Ordering.{eq_by_cmp, is_eq, nat_cmp, ordering_then}
use Rattle.std.specs.declared.cmp.Ordering.{Ordering}
use Rattle.std.specs.declared.cmp.Ordering.TheVariants.{Less, Equal, Greater}
use Rattle.std.proofs.lemmas.Bool.{true≢false}
use Rattle.std.proofs.lemmas.Cmp.{nat_list_cmp_total}
use Rattle.std.proofs.lemmas.List.{append-nil, length-replicate}
use Rattle.std.specs.FinMap.{nat_cmp-IsAntisymmetric}
use Rattle.seg_common.proofs.TabulatedMaps.{texts_apart}
use Rattle.seg_model.proofs.Exports.{column_cmp_total}
use Rattle.seg_common.specs.TabulatedMaps.{is_among}
use Rattle.seg_common.specs.declared.column_type.ColumnType.{ColumnType}
use Rattle.seg_common.specs.declared.column_type.ColumnType.TheVariants.{I64, U64, Bytes, Str, Bool as Boolean, IpAddr, DateTime}
use Rattle.seg_common.proofs.Numbers.{is_equal, then_first, then_second}
use Rattle.seg_column_file.specs.ColumnFiles.{NamedColumn}
use Rattle.seg_column_format.specs.ModelColumns.{column_key}
use Rattle.seg_column_merge.specs.MergedColumns.{values_in_row}
use Rattle.seg_model.specs.Columns.{ColumnKey, ColumnValue, column_cmp, is_number}
use Rattle.seg_model.specs.Join.{side_by_side, joined_keys}
use Rattle.seg_column_format.proofs.Exports.{Rows, entry, is_other, kind_cmp, kind_place, kind_total, rows_at, same_column, ties, signed_key, unsigned_key}
use Rattle.seg_column_merge.proofs.ColumnKeys.{among, among_is}

-- ---- keys of a path and a kind

same_kind : (o : Ordering) (t u : ColumnType)
    → among o t u ≡ is_eq (ordering_then o (nat_cmp (kind_place u) (kind_place t)))
same_kind Less I64 u = refl
same_kind Less _ u = refl
same_kind Greater I64 u = refl
same_kind Greater _ u = refl
same_kind Equal I64 I64 = refl
same_kind Equal I64 _ = refl
same_kind Equal U64 I64 = refl
same_kind Equal U64 _ = refl
same_kind Equal Bytes I64 = refl
same_kind Equal Bytes _ = refl
same_kind Equal Str I64 = refl
same_kind Equal Str _ = refl
same_kind Equal Boolean I64 = refl
same_kind Equal Boolean _ = refl
same_kind Equal IpAddr I64 = refl
same_kind Equal IpAddr _ = refl
same_kind Equal DateTime I64 = refl
same_kind Equal DateTime _ = refl

pub among_keys : (k q : ColumnKey) → is_among column_cmp (joined_keys k) q ≡ is_eq (kind_cmp q k)
among_keys k q = among_is q.path k.path k.type q.type ∙ same_kind (slice_cmp nat_cmp q.path k.path) k.type q.type

-- a key that ties with one, which is below others, ties with none of these
below : (k q y : ColumnKey) → kind_cmp q k ≡ Equal → kind_cmp k y ≡ Less → kind_cmp q y ≡ Less
below k q y tie less = kind_total.congr q k y tie ∙ less

-- ---- columns that tie with a key

abbrev test : ColumnKey → NamedColumn → Bool
test q c = is_among column_cmp (joined_keys (column_key c)) q

test_is : (q : ColumnKey) (c : NamedColumn) → test q c ≡ is_eq (kind_cmp q (column_key c))
test_is q c = among_keys (column_key c) q

-- none does
none_ties : (k q : ColumnKey) → kind_cmp q k ≡ Equal → (cs : List NamedColumn)
    → AllByRecursion (λ y. kind_cmp k y ≡ Less) (map column_key cs) → filter (test q) cs ≡ []
none_ties k q tie [] all = refl
none_ties k q tie (c ∷ cs) all =
    ap (λ b. cond b (c ∷ filter (test q) cs) (filter (test q) cs)) (test_is q c ∙ ap is_eq (below k q (column_key c) tie all.0))
    ∙ none_ties k q tie cs all.1

-- and none is found
none_found : (k q : ColumnKey) → kind_cmp q k ≡ Equal → (cs : List NamedColumn)
    → AllByRecursion (λ y. kind_cmp k y ≡ Less) (map column_key cs) → find column_cmp q (map entry cs) ≡ None
none_found k q tie [] all = refl
none_found k q tie (c ∷ cs) all =
    ap (λ b. cond b (Some (rows_at c)) (find column_cmp q (map entry cs))) (other (eq_by_cmp column_cmp q (column_key c)) refl)
    ∙ none_found k q tie cs all.1
  where
    equal_less : Equal ≡ Less → ⊥
    equal_less e = cc e

    other : (b : Bool) → eq_by_cmp column_cmp q (column_key c) ≡ b → eq_by_cmp column_cmp q (column_key c) ≡ false
    other false e = e
    other true e = absurd (equal_less (sym (ties kind_total q)
        ∙ (ap (kind_cmp q) (same_column q (column_key c) e) ∙ below k q (column_key c) tie all.0)))

-- ---- a key that ties with a column

-- of another kind than numbers it is the column's
abbrev of_kind : ℕ → ColumnType
of_kind zero = I64
of_kind (suc zero) = I64
of_kind (suc (suc zero)) = Bytes
of_kind (suc (suc (suc zero))) = Str
of_kind (suc (suc (suc (suc zero)))) = Boolean
of_kind (suc (suc (suc (suc (suc zero))))) = IpAddr
of_kind (suc (suc (suc (suc (suc (suc n)))))) = DateTime

kind_read : (t : ColumnType) → is_number t ≡ false → of_kind (kind_place t) ≡ t
kind_read I64 h = absurd (true≢false h)
kind_read U64 h = absurd (true≢false h)
kind_read Bytes h = refl
kind_read Str h = refl
kind_read Boolean h = refl
kind_read IpAddr h = refl
kind_read DateTime h = refl

not_one : (t : ColumnType) → is_number t ≡ false → kind_place t ≡ 1 → ⊥
not_one I64 h e = true≢false h
not_one U64 h e = true≢false h
not_one Bytes h e = omega (arith, e)
not_one Str h e = omega (arith, e)
not_one Boolean h e = omega (arith, e)
not_one IpAddr h e = omega (arith, e)
not_one DateTime h e = omega (arith, e)

own_type : (t u : ColumnType) → is_number t ≡ false → kind_place t ≡ kind_place u → t ≡ u
own_type t I64 h e = absurd (not_one t h e)
own_type t U64 h e = absurd (not_one t h e)
own_type t Bytes h e = sym (kind_read t h) ∙ ap of_kind e
own_type t Str h e = sym (kind_read t h) ∙ ap of_kind e
own_type t Boolean h e = sym (kind_read t h) ∙ ap of_kind e
own_type t IpAddr h e = sym (kind_read t h) ∙ ap of_kind e
own_type t DateTime h e = sym (kind_read t h) ∙ ap of_kind e

own_key : (q k : ColumnKey) → is_number q.type ≡ false → kind_cmp q k ≡ Equal → q ≡ k
own_key q k h tie = λ i. record {
  path = texts_apart q.path k.path (then_first (slice_cmp nat_cmp q.path k.path) (nat_cmp (kind_place q.type) (kind_place k.type)) tie) i;
  type = own_type q.type k.type h (nat_cmp-IsAntisymmetric (kind_place q.type) (kind_place k.type)
      (then_second (slice_cmp nat_cmp q.path k.path) (nat_cmp (kind_place q.type) (kind_place k.type)) tie)) i;
}

-- of numbers it is one of both
one_of : (path other : List ℕ) (t : ColumnType) → path ≡ other → nat_cmp 1 (kind_place t) ≡ Equal
    → (record { path = other; type = t } ≡ signed_key path) ⊎ (record { path = other; type = t } ≡ unsigned_key path)
one_of path other I64 same tie = inl (λ i. record { path = sym same i; type = I64 })
one_of path other U64 same tie = inr (λ i. record { path = sym same i; type = U64 })
one_of path other Bytes same tie = cc tie
one_of path other Str same tie = cc tie
one_of path other Boolean same tie = cc tie
one_of path other IpAddr same tie = cc tie
one_of path other DateTime same tie = cc tie

number_cases : (path : List ℕ) (k : ColumnKey) → kind_cmp (signed_key path) k ≡ Equal → (k ≡ signed_key path) ⊎ (k ≡ unsigned_key path)
number_cases path k tie = one_of path k.path k.type
    (texts_apart path k.path (then_first (slice_cmp nat_cmp path k.path) (nat_cmp 1 (kind_place k.type)) tie))
    (then_second (slice_cmp nat_cmp path k.path) (nat_cmp 1 (kind_place k.type)) tie)

-- ---- rows without values

empty_row : (count row : ℕ) → (let rows : Rows = replicate count [] in get_or rows row []) ≡ []
empty_row zero row = refl
empty_row (suc count) zero = refl
empty_row (suc count) (suc row) = empty_row count row

beside_none : (rows : Rows) (count : ℕ) → length rows ≡ count → side_by_side rows (replicate count []) ≡ rows
beside_none [] zero long = refl
beside_none [] (suc count) long = absurd (omega (arith, long))
beside_none (r ∷ rows) zero long = absurd (omega (arith, long))
beside_none (r ∷ rows) (suc count) long = λ j. append-nil r j ∷ beside_none rows count (omega (arith, long)) j

none_beside : (rows : Rows) (count : ℕ) → length rows ≡ count → side_by_side (replicate count []) rows ≡ rows
none_beside [] zero long = refl
none_beside [] (suc count) long = absurd (omega (arith, long))
none_beside (r ∷ rows) zero long = absurd (omega (arith, long))
none_beside (r ∷ rows) (suc count) long = ap (λ l. r ∷ l) (none_beside rows count (omega (arith, long)))

-- ---- all columns of a file

abbrev values_of : ColumnKey → ℕ → List NamedColumn → List ColumnValue
values_of q row found = flat_map (λ c. get_or (rows_at c) row []) found

module _ (count : ℕ) where
  -- the rows of the column at a key, which may be missing
  abbrev pub found_at : List NamedColumn → ColumnKey → Rows
  found_at cs q = unwrap_or (find column_cmp q (map entry cs)) (replicate count [])

  skipped : (q : ColumnKey) (c : NamedColumn) (cs : List NamedColumn) → eq_by_cmp column_cmp q (column_key c) ≡ false
      → found_at (c ∷ cs) q ≡ found_at cs q
  skipped q c cs off = ap (λ b. unwrap_or (cond b (Some (rows_at c)) (find column_cmp q (map entry cs))) (replicate count [])) off

  here : (q : ColumnKey) (c : NamedColumn) (cs : List NamedColumn) → eq_by_cmp column_cmp q (column_key c) ≡ true
      → found_at (c ∷ cs) q ≡ rows_at c
  here q c cs on = ap (λ b. unwrap_or (cond b (Some (rows_at c)) (find column_cmp q (map entry cs))) (replicate count [])) on

  gone : (k q : ColumnKey) → kind_cmp q k ≡ Equal → (cs : List NamedColumn)
      → AllByRecursion (λ y. kind_cmp k y ≡ Less) (map column_key cs) → found_at cs q ≡ replicate count []
  gone k q tie cs all = ap (λ (o : Option Rows). unwrap_or o (replicate count [])) (none_found k q tie cs all)

  not_tied : (q : ColumnKey) (c : NamedColumn) → is_eq (kind_cmp q (column_key c)) ≡ false → eq_by_cmp column_cmp q (column_key c) ≡ false
  not_tied q c off = by (eq_by_cmp column_cmp q (column_key c)) refl
    where
      by : (b : Bool) → eq_by_cmp column_cmp q (column_key c) ≡ b → eq_by_cmp column_cmp q (column_key c) ≡ false
      by false e = e
      by true e = absurd (true≢false (sym (ap is_eq (ties kind_total q)) ∙ (ap (λ y. is_eq (kind_cmp q y)) (same_column q (column_key c) e) ∙ off)))

  -- of the values of a row: a column that doesn't tie adds none, and one that does all
  passed_by : (q : ColumnKey) (c : NamedColumn) (cs : List NamedColumn) (row : ℕ) → is_eq (kind_cmp q (column_key c)) ≡ false
      → values_in_row q (c ∷ cs) row ≡ values_in_row q cs row
  passed_by q c cs row off =
      ap (λ b. values_of q row (cond b (c ∷ filter (test q) cs) (filter (test q) cs))) (test_is q c ∙ off)

  alone : (q : ColumnKey) (c : NamedColumn) (cs : List NamedColumn) (row : ℕ) → is_eq (kind_cmp q (column_key c)) ≡ true
      → AllByRecursion (λ y. kind_cmp (column_key c) y ≡ Less) (map column_key cs)
      → values_in_row q (c ∷ cs) row ≡ get_or (rows_at c) row []
  alone q c cs row on less =
      ap (λ b. values_of q row (cond b (c ∷ filter (test q) cs) (filter (test q) cs))) (test_is q c ∙ on)
      ∙ (ap (λ l. values_of q row (c ∷ l)) (none_ties (column_key c) q (is_equal (kind_cmp q (column_key c)) on) cs less)
      ∙ append-nil (get_or (rows_at c) row []))

  -- ---- columns of another kind than numbers

  pub plain_values : (q : ColumnKey) → is_number q.type ≡ false → (cs : List NamedColumn)
      → IsStrictlySortedBy kind_cmp (map column_key cs) → (row : ℕ) → values_in_row q cs row ≡ get_or (found_at cs q) row []
  unfolding IsStrictlySortedBy
  plain_values q off [] up row = sym (empty_row count row)
  plain_values q off (c ∷ cs) up row = by (is_eq (kind_cmp q (column_key c))) refl (plain_values q off cs up.1 row)
    where
      by : (b : Bool) → is_eq (kind_cmp q (column_key c)) ≡ b → values_in_row q cs row ≡ get_or (found_at cs q) row []
          → values_in_row q (c ∷ cs) row ≡ get_or (found_at (c ∷ cs) q) row []
      by false e rest = passed_by q c cs row e ∙ (rest ∙ ap (λ (l : Rows). get_or l row []) (sym (skipped q c cs (not_tied q c e))))
      by true e rest =
          let same = own_key q (column_key c) off (is_equal (kind_cmp q (column_key c)) e) in
          alone q c cs row e up.0
          ∙ ap (λ (l : Rows). get_or l row []) (sym (here q c cs
          (ap (λ y. eq_by_cmp column_cmp y (column_key c)) same ∙ ap is_eq (ties column_cmp_total (column_key c)))))

  -- ---- columns of numbers

  module _ (path : List ℕ) where
    abbrev pub numbers_at : List NamedColumn → Rows
    numbers_at cs = side_by_side (found_at cs (signed_key path)) (found_at cs (unsigned_key path))

    own : (q : ColumnKey) (c : NamedColumn) → column_key c ≡ q → eq_by_cmp column_cmp q (column_key c) ≡ true
    own q c is = ap (eq_by_cmp column_cmp q) is ∙ ap is_eq (ties column_cmp_total q)

    apart_types : I64 ≡ U64 → ⊥
    apart_types e = cc e

    not_own : (q k : ColumnKey) (c : NamedColumn) → column_key c ≡ k → (q ≡ k → ⊥) → eq_by_cmp column_cmp q (column_key c) ≡ false
    not_own q k c is other = by (eq_by_cmp column_cmp q (column_key c)) refl
      where
        by : (b : Bool) → eq_by_cmp column_cmp q (column_key c) ≡ b → eq_by_cmp column_cmp q (column_key c) ≡ false
        by false e = e
        by true e = absurd (other (same_column q (column_key c) e ∙ is))

    tie_with : (q : ColumnKey) (c : NamedColumn) → kind_cmp (signed_key path) (column_key c) ≡ Equal → kind_cmp q (signed_key path) ≡ Equal
        → kind_cmp q (column_key c) ≡ Equal
    tie_with q c tie same = kind_total.congr q (signed_key path) (column_key c) same ∙ tie

    both_tie : kind_cmp (unsigned_key path) (signed_key path) ≡ Equal
    both_tie = ap (λ o. ordering_then o Equal) (ties nat_list_cmp_total path)

    pub number_values : (cs : List NamedColumn) → IsStrictlySortedBy kind_cmp (map column_key cs)
        → AllByRecursion (λ c. length (rows_at c) ≡ count) cs → (row : ℕ)
        → values_in_row (signed_key path) cs row ≡ get_or (numbers_at cs) row []
    unfolding IsStrictlySortedBy
    number_values [] up sized row =
        sym (ap (λ (l : Rows). get_or l row []) (beside_none (replicate count []) count (length-replicate count [])) ∙ empty_row count row)
    number_values (c ∷ cs) up sized row =
        by (is_eq (kind_cmp (signed_key path) (column_key c))) refl (number_values cs up.1 sized.1 row)
      where
        by : (b : Bool) → is_eq (kind_cmp (signed_key path) (column_key c)) ≡ b
            → values_in_row (signed_key path) cs row ≡ get_or (numbers_at cs) row []
            → values_in_row (signed_key path) (c ∷ cs) row ≡ get_or (numbers_at (c ∷ cs)) row []
        by false e rest =
            passed_by (signed_key path) c cs row e
            ∙ (rest ∙ (λ j. get_or (side_by_side (sym (skipped (signed_key path) c cs (not_tied (signed_key path) c e)) j)
            (sym (skipped (unsigned_key path) c cs (not_tied (unsigned_key path) c e)) j)) row []))
        by true e rest =
            alone (signed_key path) c cs row e up.0
            ∙ ap (λ (l : Rows). get_or l row []) (sym (one (number_cases path (column_key c) tie)))
          where
            tie : kind_cmp (signed_key path) (column_key c) ≡ Equal
            tie = is_equal (kind_cmp (signed_key path) (column_key c)) e

            one : (column_key c ≡ signed_key path) ⊎ (column_key c ≡ unsigned_key path) → numbers_at (c ∷ cs) ≡ rows_at c
            one (inl is) =
                (λ j. side_by_side (here (signed_key path) c cs (own (signed_key path) c is) j)
                ((skipped (unsigned_key path) c cs (not_own (unsigned_key path) (signed_key path) c is (λ e. apart_types (sym (ap (λ (k : ColumnKey). k.type) e))))
                ∙ gone (column_key c) (unsigned_key path) (tie_with (unsigned_key path) c tie both_tie) cs up.0) j))
                ∙ beside_none (rows_at c) count sized.0
            one (inr is) =
                (λ j. side_by_side ((skipped (signed_key path) c cs (not_own (signed_key path) (unsigned_key path) c is (λ e. apart_types (ap (λ (k : ColumnKey). k.type) e)))
                ∙ gone (column_key c) (signed_key path) tie cs up.0) j)
                (here (unsigned_key path) c cs (own (unsigned_key path) c is) j))
                ∙ none_beside (rows_at c) count sized.0

    pub unsigned_values : (cs : List NamedColumn) (row : ℕ) → values_in_row (unsigned_key path) cs row ≡ values_in_row (signed_key path) cs row
    unsigned_values cs row =
        λ j. flat_map (λ c. get_or (rows_at c) row []) (filter (λ c. (test_is (unsigned_key path) c ∙ sym (test_is (signed_key path) c)) j) cs)
