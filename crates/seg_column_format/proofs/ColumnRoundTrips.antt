-- A column is read from the bytes that were written of it.
use Rattle.std.proofs.Common.{◌≡◌, ℕ, zero, suc, ◌+◌, ◌*◌, ◌^◌, ◌<◌, List, [], ◌∷◌, ◌++◌, length, take, drop, map, get_or, Option, Some, refl, sym, ap, subst, ◌∙◌, arith, append_assoc, append-nil, mul-add, mul-zero}
use Rattle.std.specs.Prelude.{IsSome}
use Rattle.std.specs.List.{flat_map, filter_map, range_with_len, cons_option, AllByRecursion}
use Rattle.std.proofs.lemmas.List.{length-append, length-map, drop_at, get_or-map, map-id}
use Rattle.std.proofs.lemmas.List.FromFn.{fill_by_all}
use Rattle.std.proofs.lemmas.List.Concat.{flat_map-append}
use Rattle.seg_common.proofs.Lists.{all_both, all_taken, all_at}
use Rattle.seg_columns.specs.Ends.{start_at}
use Rattle.seg_columns.specs.Columns.{AreKnown, IsColumn, row_of, rows_of, value_at}
use Rattle.seg_column_format.specs.ColumnBytes.{IsReadAs, IsReadBack, column_bytes, ends_from, number_bytes, total}
use Rattle.seg_column_format.proofs.PartEnds.{apart, flat_split, last_end, length-number_bytes, range_of, start_at-parts, starts_rise}

module _ {S T : Type 0} (width : ℕ) (decoded : List ℕ → Option T) (encoded : S → List ℕ) (seen : S → T) where
  -- ---- values after others

  value_after : (front back : List ℕ) (k : ℕ) (value : S) → length front ≡ width * k
      → IsReadAs width decoded encoded seen value
      → value_at width decoded (front ++ (encoded value ++ back)) k ≡ Some (seen value)
  unfolding value_at
  value_after front back k value at read =
      ap decoded (range_of front (encoded value) back (width * k) (width * k + width) at
      (ap (λ (n : ℕ). width * k + n) (sym read.wide))) ∙ read.read

  pub length-values : (values : List S) → AllByRecursion (IsReadAs width decoded encoded seen) values
      → length (flat_map encoded values) ≡ width * length values
  length-values [] read = sym (mul-zero width)
  length-values (value ∷ values) read =
      omega (
        arith,
        length-append (encoded value) (flat_map encoded values),
        read.0.wide,
        length-values values read.1,
        mul-add width 1 (length values),
      )

  regrouped : (front back : List ℕ) (value : S) (values : List S)
      → front ++ (flat_map encoded (value ∷ values) ++ back)
      ≡ (front ++ encoded value) ++ (flat_map encoded values ++ back)
  regrouped front back value values =
      ap (λ (l : List ℕ). front ++ l) (append_assoc (encoded value) (flat_map encoded values) back)
      ∙ sym (append_assoc front (encoded value) (flat_map encoded values ++ back))

  head : (front back : List ℕ) (k : ℕ) (value : S) (values : List S) → length front ≡ width * k
      → IsReadAs width decoded encoded seen value
      → value_at width decoded (front ++ (flat_map encoded (value ∷ values) ++ back)) k ≡ Some (seen value)
  head front back k value values at read =
      ap (λ (l : List ℕ). value_at width decoded (front ++ l) k)
      (append_assoc (encoded value) (flat_map encoded values) back)
      ∙ value_after front (flat_map encoded values ++ back) k value at read

  next : (front : List ℕ) (k : ℕ) (value : S) → length front ≡ width * k
      → IsReadAs width decoded encoded seen value → length (front ++ encoded value) ≡ width * (k + 1)
  next front k value at read = omega (arith, length-append front (encoded value), read.wide, at, mul-add width k 1)

  values_after : (front back : List ℕ) (k : ℕ) (values : List S) → length front ≡ width * k
      → AllByRecursion (IsReadAs width decoded encoded seen) values
      → filter_map (value_at width decoded (front ++ (flat_map encoded values ++ back)))
      (range_with_len k (length values)) ≡ map seen values
  values_after front back k [] at read = refl
  values_after front back k (value ∷ values) at read =
      let rest =
      ap (λ (l : List ℕ). filter_map (value_at width decoded l) (range_with_len (k + 1) (length values)))
      (regrouped front back value values)
      ∙ values_after (front ++ encoded value) back (k + 1) values (next front k value at read.0) read.1 in
      (λ i. cons_option (head front back k value values at read.0 i) (rest i))

  known_after : (front back : List ℕ) (k : ℕ) (values : List S) → length front ≡ width * k
      → AllByRecursion (IsReadAs width decoded encoded seen) values → (i j : ℕ) → i < length values → k + i ≡ j
      → IsSome (value_at width decoded (front ++ (flat_map encoded values ++ back)) j)
  known_after front back k [] at read i j lt is = absurd (omega (arith, lt))
  known_after front back k (value ∷ values) at read zero j lt is =
      let e : k ≡ j = omega (arith, is) in
      subst (λ (n : ℕ). IsSome (value_at width decoded (front ++ (flat_map encoded (value ∷ values) ++ back)) n)) e
      (subst (λ (r : Option T). IsSome r) (sym (head front back k value values at read.0)) refl)
  known_after front back k (value ∷ values) at read (suc i) j lt is =
      subst (λ (l : List ℕ). IsSome (value_at width decoded l j)) (sym (regrouped front back value values))
      (known_after (front ++ encoded value) back (k + 1) values (next front k value at read.0) read.1 i j
      (omega (arith, lt)) (omega (arith, is)))

  -- ---- all rows

  in_a_row : (rows : List (List S)) → flat_map (flat_map encoded) rows ≡ flat_map encoded (flat_map (λ row. row) rows)
  in_a_row [] = refl
  in_a_row (row ∷ rows) =
      ap (λ (l : List ℕ). flat_map encoded row ++ l) (in_a_row rows)
      ∙ sym (flat_map-append encoded row (flat_map (λ r. r) rows))

  length-in_a_row : (rows : List (List S)) → length (flat_map (λ row. row) rows) ≡ total rows
  length-in_a_row [] = refl
  length-in_a_row (row ∷ rows) =
      length-append row (flat_map (λ r. r) rows) ∙ ap (λ (n : ℕ). length row + n) (length-in_a_row rows)

  all_in_a_row : (rows : List (List S)) → AllByRecursion (AllByRecursion (IsReadAs width decoded encoded seen)) rows
      → AllByRecursion (IsReadAs width decoded encoded seen) (flat_map (λ row. row) rows)
  all_in_a_row [] read = tt
  all_in_a_row (row ∷ rows) read =
      all_both (IsReadAs width decoded encoded seen) row (flat_map (λ r. r) rows) read.0 (all_in_a_row rows read.1)

  pub length-rows : (rows : List (List S)) → AllByRecursion (AllByRecursion (IsReadAs width decoded encoded seen)) rows
      → length (flat_map (flat_map encoded) rows) ≡ width * total rows
  length-rows rows read =
      ap length (in_a_row rows) ∙ length-values (flat_map (λ row. row) rows) (all_in_a_row rows read)
      ∙ ap (λ (n : ℕ). width * n) (length-in_a_row rows)

  module _ (rows : List (List S)) (few : total rows < 2 ^ 64)
      (read : AllByRecursion (AllByRecursion (IsReadAs width decoded encoded seen)) rows) where
    ends : List ℕ
    ends = number_bytes (ends_from 0 rows)

    values : List ℕ
    values = flat_map (flat_map encoded) rows

    after_ends : drop (8 * length rows) (number_bytes (ends_from 0 rows) ++ flat_map (flat_map encoded) rows)
        ≡ flat_map (flat_map encoded) rows
    after_ends = drop_at (number_bytes (ends_from 0 rows)) (flat_map (flat_map encoded) rows) (8 * length rows)
        (length-number_bytes rows few [])

    known : AreKnown width decoded
        (drop (8 * length rows) (number_bytes (ends_from 0 rows) ++ flat_map (flat_map encoded) rows))
        (start_at (number_bytes (ends_from 0 rows) ++ flat_map (flat_map encoded) rows) (length rows))
    known k lt =
        let all : List S = flat_map (λ row. row) rows in
        let same : flat_map encoded all ++ [] ≡ drop (8 * length rows)
        (number_bytes (ends_from 0 rows) ++ flat_map (flat_map encoded) rows) =
        append-nil (flat_map encoded all) ∙ sym (after_ends ∙ in_a_row rows) in
        subst (λ (l : List ℕ). IsSome (value_at width decoded l k)) same
        (known_after [] [] 0 all (sym (mul-zero width)) (all_in_a_row rows read) k k
        (omega (arith, lt, last_end rows few (flat_map (flat_map encoded) rows), length-in_a_row rows)) (omega arith))

    pub is_column : IsColumn width decoded (length rows) (column_bytes encoded rows)
    unfolding column_bytes
    is_column = record {
      ends = omega (
        arith,
        length-append (number_bytes (ends_from 0 rows)) (flat_map (flat_map encoded) rows),
        length-number_bytes rows few [],
      );
      rise = starts_rise rows few (flat_map (flat_map encoded) rows);
      fill =
          let last = ap (λ (n : ℕ). width * n) (last_end rows few (flat_map (flat_map encoded) rows)) in
          omega (
            arith,
            length-append (number_bytes (ends_from 0 rows)) (flat_map (flat_map encoded) rows),
            length-number_bytes rows few [],
            length-rows rows read,
            last,
          );
      known = known;
    }

    row : (i : ℕ) → i < length rows
        → get_or (map (map seen) rows) i []
        ≡ row_of width decoded (length rows) (number_bytes (ends_from 0 rows) ++ flat_map (flat_map encoded) rows) i
    unfolding row_of
    row i lt =
        let here : List S = get_or rows i [] in
        let front : List ℕ = flat_map (flat_map encoded) (take i rows) in
        let back : List ℕ = flat_map (flat_map encoded) (drop (i + 1) rows) in
        let bytes = after_ends ∙ flat_split (flat_map encoded) rows i [] lt in
        let start = start_at-parts rows few (flat_map (flat_map encoded) rows) i (omega (arith, lt)) in
        let count = apart rows few (flat_map (flat_map encoded) rows) i lt in
        get_or-map (map seen) rows i [] [] lt
        ∙ sym ((λ j. filter_map (value_at width decoded (bytes j)) (range_with_len (start j) (count j)))
        ∙ values_after front back (total (take i rows)) here (length-rows (take i rows)
        (all_taken (AllByRecursion (IsReadAs width decoded encoded seen)) i rows read))
        (all_at (AllByRecursion (IsReadAs width decoded encoded seen)) rows i [] read lt))

    pub rows_read_as : rows_of width decoded (length rows) (column_bytes encoded rows) ≡ map (map seen) rows
    unfolding column_bytes
    rows_read_as = sym (fill_by_all
        (row_of width decoded (length rows) (number_bytes (ends_from 0 rows) ++ flat_map (flat_map encoded) rows))
        (map (map seen) rows) (length rows) [] (length-map rows (map seen)) row)

-- values that are seen as they are
module _ {T : Type 0} (width : ℕ) (decoded : List ℕ → Option T) (encoded : T → List ℕ) (rows : List (List T))
    (few : total rows < 2 ^ 64) (read : AllByRecursion (AllByRecursion (IsReadBack width decoded encoded)) rows) where
  as_they_are : (rs : List (List T)) → map (map (λ (v : T). v)) rs ≡ rs
  as_they_are [] = refl
  as_they_are (r ∷ rs) = λ j. map-id r j ∷ as_they_are rs j

  pub rows_read : rows_of width decoded (length rows) (column_bytes encoded rows) ≡ rows
  rows_read = rows_read_as width decoded encoded (λ v. v) rows few read ∙ as_they_are rows
