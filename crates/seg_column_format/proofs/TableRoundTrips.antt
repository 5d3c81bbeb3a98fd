-- The table of a file of columns is read back from its bytes.
use Rattle.std.proofs.Common.{◌≡◌, ℕ, zero, suc, ◌+◌, ◌^◌, ◌<◌, ◌≤◌, true, List, [], ◌∷◌, ◌++◌, length, take, drop, get_or, refl, sym, ap, subst, ◌∙◌, arith, append_assoc, append-nil, add-one}
use Rattle.std.specs.Prelude.{IsUtf8, ◌||◌, ◌&&◌}
use Rattle.std.specs.Ordering.{nat_cmp, is_eq, is_lt}
use Rattle.std.specs.Cmp.Lexicographic.{slice_cmp}
use Rattle.std.specs.Int.{w64, to_le_bytes}
use Rattle.std.proofs.lemmas.List.{length-append, take_more, take_all}
use Rattle.std.proofs.lemmas.List.Concat.{flat_map-append}
use Rattle.seg_common.specs.declared.column_type.ColumnType.TheVariants as types
use Rattle.seg_common.proofs.Lists.{all_at}
use Rattle.seg_column_file.specs.ColumnTable.{AreEntries, IsEntry, are_apart, code_in, column_start, end_in, may_follow, next_place, path_in, place_of}
use Rattle.seg_column_format.specs.FileBytes.{AreColumns, AreInOrder, IsWritten, WrittenColumn, code_of, data_bytes, entries_bytes, entry_bytes, may_stand_after, table_bytes}
use Rattle.seg_column_format.proofs.EntryRoundTrips as entry
use Rattle.seg_column_format.proofs.EntryRoundTrips.{code_known, length-entry, type_read}
use Rattle.seg_column_format.proofs.PartEnds.{flat_split, split}

abbrev pub nothing : WrittenColumn
nothing = record { path = []; type = types.I64; bytes = [] }

in_order_at : (columns : List WrittenColumn) → AreInOrder columns → (k : ℕ) → k + 1 < length columns
    → may_stand_after (get_or columns k nothing) (get_or columns (suc k) nothing) ≡ true
in_order_at [] order k lt = absurd (omega (arith, lt))
in_order_at (c ∷ []) order k lt = absurd (omega (arith, lt))
in_order_at (c ∷ d ∷ columns) order zero lt = order.0
in_order_at (c ∷ d ∷ columns) order (suc k) lt = in_order_at (d ∷ columns) order.1 k (omega (arith, lt))

pub entries-append : (before : ℕ) (some more : List WrittenColumn)
    → entries_bytes before (some ++ more)
    ≡ entries_bytes before some ++ entries_bytes (before + length (data_bytes some)) more
entries-append before [] more =
    let e : before ≡ before + 0 = omega arith in
    ap (λ (n : ℕ). entries_bytes n more) e
entries-append before (c ∷ some) more =
    let end : ℕ = before + length c.bytes in
    let e : end + length (data_bytes some) ≡ before + length (data_bytes (c ∷ some)) =
    omega (arith, length-append c.bytes (data_bytes some)) in
    ap (λ (l : List ℕ). entry_bytes end c.path c.type ++ l)
    (entries-append end some more
    ∙ ap (λ (n : ℕ). entries_bytes end some ++ entries_bytes n more) e)
    ∙ sym (append_assoc (entry_bytes end c.path c.type) (entries_bytes end some) (entries_bytes
    (before + length (data_bytes (c ∷ some))) more))

module _ (columns : List WrittenColumn) (short : length (table_bytes columns) < 2 ^ 64)
    (few : length (data_bytes columns) < 2 ^ 64) where
  abbrev pub table : List ℕ
  table = to_le_bytes w64 (length columns) ++ entries_bytes 0 columns

  -- the columns before a place, the one at it, and where its bytes end
  abbrev pub front : ℕ → List WrittenColumn
  front k = take k columns

  abbrev pub at : ℕ → WrittenColumn
  at k = get_or columns k nothing

  abbrev pub back : ℕ → List WrittenColumn
  back k = drop (k + 1) columns

  abbrev pub start : ℕ → ℕ
  start k = length (data_bytes (front k))

  abbrev pub end : ℕ → ℕ
  end k = start k + length (at k).bytes

  abbrev pub done : ℕ → List ℕ
  done k = to_le_bytes w64 (length columns) ++ entries_bytes 0 (front k)

  abbrev pub place : ℕ → ℕ
  place k = 8 + length (entries_bytes 0 (front k))

  pub is_table : table_bytes columns ≡ table
  unfolding table_bytes
  is_table = refl

  few_listed : length table < 2 ^ 64
  few_listed = subst (λ (l : List ℕ). length l < 2 ^ 64) is_table short

  length-entries : (before : ℕ) (some : List WrittenColumn) → length some ≤ length (entries_bytes before some)
  length-entries before [] = omega arith
  length-entries before (c ∷ some) =
      let end : ℕ = before + length c.bytes in
      omega (
        arith,
        length-append (entry_bytes end c.path c.type) (entries_bytes end some),
        length-entry end c,
        length-entries end some,
      )

  pub few_columns : length columns < 2 ^ 64
  few_columns =
      omega (
        arith,
        few_listed,
        length-entries 0 columns,
        length-append (to_le_bytes w64 (length columns)) (entries_bytes 0 columns),
      )

  table_split : (k : ℕ) → k < length columns
      → table ≡ done k ++ (entry_bytes (end k) (at k).path (at k).type ++ entries_bytes (end k) (back k))
  table_split k lt =
      ap (λ (l : List ℕ). to_le_bytes w64 (length columns) ++ l)
      (ap (entries_bytes 0) (split columns k nothing lt)
      ∙ entries-append 0 (front k) (at k ∷ back k)
      ∙ ap (λ (n : ℕ). entries_bytes 0 (front k)
      ++ (entry_bytes (n + length (at k).bytes) (at k).path (at k).type
      ++ entries_bytes (n + length (at k).bytes) (back k)))
      (omega arith))
      ∙ sym (append_assoc (to_le_bytes w64 (length columns)) (entries_bytes 0 (front k))
      (entry_bytes (end k) (at k).path (at k).type ++ entries_bytes (end k) (back k)))

  length-done : (k : ℕ) → length (done k) ≡ place k
  length-done k =
      let eight : length (to_le_bytes w64 (length columns)) ≡ 8 = refl in
      omega (arith, length-append (to_le_bytes w64 (length columns)) (entries_bytes 0 (front k)), eight)

  -- how far the columns before a place reach
  pub start-next : (k : ℕ) → k < length columns → start (k + 1) ≡ end k
  start-next k lt =
      let one = length-append (at k).bytes [] in
      ap (λ (l : List WrittenColumn). length (data_bytes l)) (take_more columns k nothing lt)
      ∙ ap length (flat_map-append (λ c. c.bytes) (front k) (at k ∷ []))
      ∙ length-append (data_bytes (front k)) ((at k).bytes ++ [])
      ∙ ap (λ (l : List ℕ). start k + length l) (append-nil (at k).bytes)

  place-next : (k : ℕ) → k < length columns
      → place (k + 1) ≡ place k + length (entry_bytes (end k) (at k).path (at k).type)
  place-next k lt =
      let grown = ap (entries_bytes 0) (take_more columns k nothing lt)
      ∙ entries-append 0 (front k) (at k ∷ [])
      ∙ ap (λ (n : ℕ). entries_bytes 0 (front k)
      ++ (entry_bytes (n + length (at k).bytes) (at k).path (at k).type ++ [])) (omega arith)
      ∙ ap (λ (l : List ℕ). entries_bytes 0 (front k) ++ l)
      (append-nil (entry_bytes (end k) (at k).path (at k).type)) in
      omega (
        arith,
        ap length grown,
        length-append (entries_bytes 0 (front k)) (entry_bytes (end k) (at k).path (at k).type),
      )

  pub data_split : (k : ℕ) → k < length columns
      → data_bytes columns ≡ data_bytes (front k) ++ ((at k).bytes ++ data_bytes (back k))
  data_split k lt = flat_split (λ c. c.bytes) columns k nothing lt

  end_within : (k : ℕ) → k < length columns → end k ≤ length (data_bytes columns)
  end_within k lt =
      omega (
        arith,
        ap length (data_split k lt),
        length-append (data_bytes (front k)) ((at k).bytes ++ data_bytes (back k)),
        length-append (at k).bytes (data_bytes (back k)),
      )

  next_within : (k : ℕ) → k < length columns
      → place k + length (entry_bytes (end k) (at k).path (at k).type) ≤ length table
  next_within k lt =
      omega (
        arith,
        ap length (table_split k lt),
        length-append (done k) (entry_bytes (end k) (at k).path (at k).type ++ entries_bytes (end k) (back k)),
        length-append (entry_bytes (end k) (at k).path (at k).type) (entries_bytes (end k) (back k)),
        length-done k,
      )

  short_path : (k : ℕ) → k < length columns → length (at k).path < 2 ^ 64
  short_path k lt = omega (arith, next_within k lt, length-entry (end k) (at k), few_listed)

  few_before : (k : ℕ) → k < length columns → end k < 2 ^ 64
  few_before k lt = omega (arith, end_within k lt, few)

  -- ---- what is read at a place

  module _ (k : ℕ) (lt : k < length columns) where
    pub path_at : path_in table (place k) ≡ (at k).path
    path_at = entry.path_is table (done k) (entries_bytes (end k) (back k)) (at k) (end k) (place k)
        (table_split k lt) (length-done k) (short_path k lt) (few_before k lt)

    pub code_at : code_in table (place k) ≡ code_of (at k).type
    code_at = entry.code_is table (done k) (entries_bytes (end k) (back k)) (at k) (end k) (place k)
        (table_split k lt) (length-done k) (short_path k lt) (few_before k lt)

    pub end_at : end_in table (place k) ≡ end k
    end_at = entry.end_is table (done k) (entries_bytes (end k) (back k)) (at k) (end k) (place k)
        (table_split k lt) (length-done k) (short_path k lt) (few_before k lt)

    pub next_at : next_place table (place k) ≡ place (k + 1)
    next_at = entry.next_is table (done k) (entries_bytes (end k) (back k)) (at k) (end k) (place k)
        (table_split k lt) (length-done k) (short_path k lt) (few_before k lt) ∙ sym (place-next k lt)

  pub place_at : (k : ℕ) → k ≤ length columns → place_of table k ≡ place k
  unfolding place_of
  place_at zero le = omega arith
  place_at (suc k) le =
      let lt : k < length columns = omega (arith, le) in
      ap (next_place table) (place_at k (omega (arith, le))) ∙ next_at k lt
      ∙ ap place (add-one k)

  pub start_at : (k : ℕ) → k ≤ length columns → column_start table k ≡ start k
  unfolding column_start
  start_at zero le = refl
  start_at (suc k) le =
      let lt : k < length columns = omega (arith, le) in
      ap (end_in table) (place_at k (omega (arith, le))) ∙ end_at k lt ∙ sym (start-next k lt) ∙ ap start (add-one k)

  -- ---- the table

  module _ (rows : ℕ) (are : AreColumns rows columns) where
    abbrev written : (k : ℕ) → k < length columns → IsWritten rows (at k)
    written k lt = all_at (IsWritten rows) columns k nothing are.each lt

    is_entry : (k : ℕ) → k < length columns → IsEntry table (place_of table k)
    is_entry k lt = subst (IsEntry table) (sym (place_at k (omega (arith, lt)))) (record {
      within = omega (arith, next_at k lt, place-next k lt, next_within k lt);
      known = omega (arith, code_at k lt, code_known (at k).type);
      utf8 = subst IsUtf8 (sym (path_at k lt)) (written k lt).utf8;
    })

    -- the order of two entries that were read
    same_order : (k m : ℕ) → k < length columns → m < length columns
        → may_follow table (place k) (place m) ≡ may_stand_after (at k) (at m)
    unfolding may_follow
    same_order k m lt next = λ j.
        is_lt (slice_cmp nat_cmp (path_at k lt j) (path_at m next j))
        || (is_eq (slice_cmp nat_cmp (path_at k lt j) (path_at m next j))
        && are_apart (code_at k lt j) (code_at m next j))

    follows : (k : ℕ) → k + 1 < length columns → may_follow table (place_of table k) (place_of table (k + 1)) ≡ true
    follows k lt =
        let first : k < length columns = omega (arith, lt) in
        let le : k ≤ length columns = omega (arith, lt) in
        let next : k + 1 ≤ length columns = omega (arith, lt) in
        (λ j. may_follow table (place_at k le j) (place_at (k + 1) next j))
        ∙ same_order k (k + 1) first lt
        ∙ ap (λ (n : ℕ). may_stand_after (at k) (at n)) (add-one k) ∙ in_order_at columns are.order k lt

    pub are_entries : AreEntries table (length columns)
    are_entries = record {
      each = is_entry;
      fill =
          let all : front (length columns) ≡ columns = take_all (length columns) columns (omega arith) in
          place_at (length columns) (omega arith) ∙ sym (length-done (length columns))
          ∙ ap (λ (l : List WrittenColumn). length (to_le_bytes w64 (length columns) ++ entries_bytes 0 l)) all;
      follow = follows;
    }
