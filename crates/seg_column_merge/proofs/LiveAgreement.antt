-- A merge may be asked for: its rows are there, and numbers under declared names are of their types.
use Rattle.std.proofs.Common.{◌≡◌, ◌⊎◌, ℕ, zero, suc, ◌+◌, ◌<◌, ◌^◌, Bool, true, false, cond, ◌||◌, List, [], ◌∷◌, ◌++◌, length, map, get_or, All, Option, Some, None, refl, sym, ap, subst, inl, inr, ◌∙◌, arith}
use Rattle.std.specs.Prelude.{◌&&◌, is_some, nat_eq}
use Rattle.std.specs.FinMap.{get}
use Rattle.std.specs.List.{flat_map, list_any, range_with_len, slice_get}
use Rattle.std.specs.Ordering.{eq_by_cmp, is_eq}
use Rattle.std.specs.Str.{bytes_eq}
use Rattle.std.proofs.lemmas.Bool.{false≢true, true≢false, and_parts}
use Rattle.std.proofs.lemmas.Bool.Decides.{nat_tests}
use Rattle.std.proofs.lemmas.List.{get_or-map, length-map}
use Rattle.std.proofs.lemmas.List.Elements.{All-append, All-cons}
use Rattle.std.proofs.lemmas.Map.Keys.{any_passes_from_place}
use Rattle.std.proofs.lemmas.Option.{same_Some}
use Rattle.seg_common.specs.Marks.{kept}
use Rattle.seg_common.specs.TabulatedMaps.{is_among}
use Rattle.seg_common.specs.declared.column_type.ColumnType.{ColumnType}
use Rattle.seg_common.specs.declared.column_type.ColumnType.TheVariants.{I64, U64, Bytes, Str, Bool as Boolean, IpAddr, DateTime}
use Rattle.seg_column_file.specs.ColumnFiles.{ColumnFile, NamedColumn}
use Rattle.seg_column_file.specs.RowOrders.{IsRow, Place}
use Rattle.seg_column_merge.specs.MergedColumns.{AgreesWith, CanMerge}
use Rattle.seg_column_format.specs.ModelColumns.{column_key, columns_in}
use Rattle.seg_model.proofs.Exports.{column_cmp_total}
use Rattle.seg_model.specs.Columns.{ColumnKey, Columns, column_cmp, declared_columns, declared_type, is_declared, is_number, type_place}
use Rattle.seg_model.specs.Fields.{Schema}
use Rattle.seg_model.specs.Join.{Part}
use Rattle.seg_values.proofs.Exports.{unnamed}
use Rattle.seg_values.specs.FieldNames.{field_named}
use Rattle.seg_values.specs.SchemaRules.{is_schema}
use Rattle.seg_values.specs.declared.schema.FieldEntry.{FieldEntry}
use Rattle.seg_column_format.proofs.Exports.{Passing, alone, declared_is, entry, is_there, passing, same_type, ties, signed_key, unsigned_key}
use Rattle.seg_column_format.specs.SchemaColumns.{SuitColumns, declares, is_type}
use Rattle.seg_column_merge.specs.LiveColumns.{HasColumnsOf, HaveColumnsOf, live_rows}

-- ---- declared names

found : (name : List ℕ) (es : List FieldEntry) → list_any (λ e. bytes_eq e.name name) es ≡ true
    → (n : ℕ) × (field_named es name ≡ Some n)
found name es any = by (field_named es name) refl
  where
    by : (o : Option ℕ) → field_named es name ≡ o → (n : ℕ) × (field_named es name ≡ Some n)
    by (Some n) e = (n, e)
    by None e = absurd (true≢false (sym any ∙ unnamed name es e))

one_declared : (t u : ColumnType) (d : Option ColumnType) → is_type t d ≡ true → is_type u d ≡ true → t ≡ u
one_declared t u None h k = absurd (false≢true h)
one_declared t u (Some d) h k = same_type t u (grind (arith, nat_tests, h, k))

module _ (schema : Schema) (valid : is_schema schema ≡ true) where
  abbrev declared : List ColumnKey
  declared = declared_columns schema

  pub same_declared : (r k : ColumnKey) → is_declared declared r ≡ true → is_declared declared k ≡ true → k.path ≡ r.path → k.type ≡ r.type
  same_declared r k h g same =
      let a = passing (declares r.path r.type) schema (sym (declared_is schema r) ∙ h) in
      let b = passing (declares k.path k.type) schema (sym (declared_is schema k) ∙ g) in
      let own = and_parts (bytes_eq a.item.name r.path) _ a.passes in
      let other = and_parts (bytes_eq b.item.name k.path) _ b.passes in
      let named : bytes_eq b.item.name r.path ≡ true = ap (bytes_eq b.item.name) (sym same) ∙ other.0 in
      let at = found r.path schema (any_passes_from_place (λ e. bytes_eq e.name r.path) schema a.place a.item a.at own.0) in
      let first : a.place ≡ at.0 = grind (arith, nat_tests, sym (alone r.path schema valid at.0 at.1 a.place a.item a.at) ∙ own.0) in
      let second : b.place ≡ at.0 = grind (arith, nat_tests, sym (alone r.path schema valid at.0 at.1 b.place b.item b.at) ∙ named) in
      let one : b.item ≡ a.item = same_Some b.item a.item (sym b.at ∙ (ap (slice_get schema) (second ∙ sym first) ∙ a.at)) in
      let its = and_parts b.item.fast _ other.1 in
      let own_type = and_parts a.item.fast _ own.1 in
      one_declared k.type r.type (declared_type a.item.kind)
      (ap (λ (e : FieldEntry). is_type k.type (declared_type e.kind)) (sym one) ∙ its.1) own_type.1

  -- ---- columns of one file

  not_both : (path : List ℕ) → is_declared declared (signed_key path) ≡ true → is_declared declared (unsigned_key path) ≡ true → ⊥
  not_both path h g = apart (same_declared (signed_key path) (unsigned_key path) h g refl)
    where
      apart : U64 ≡ I64 → ⊥
      apart e = cc e

  module _ (documents : ℕ) (columns : Columns) (suit : SuitColumns schema documents columns) where
    at_types : (path : List ℕ) (t u : ColumnType) → is_number t ≡ true → is_number u ≡ true
        → is_some (get columns (record { path = path; type = t })) ≡ true
        → is_some (get columns (record { path = path; type = u })) ≡ true → u ≡ t
    at_types path I64 I64 h k a b = refl
    at_types path U64 U64 h k a b = refl
    at_types path I64 U64 h k a b = let two = suit.one_number_type path a b in absurd (not_both path two.0 two.1)
    at_types path U64 I64 h k a b = let two = suit.one_number_type path b a in absurd (not_both path two.0 two.1)
    at_types path I64 Bytes h k a b = absurd (false≢true k)
    at_types path I64 Str h k a b = absurd (false≢true k)
    at_types path I64 Boolean h k a b = absurd (false≢true k)
    at_types path I64 IpAddr h k a b = absurd (false≢true k)
    at_types path I64 DateTime h k a b = absurd (false≢true k)
    at_types path U64 Bytes h k a b = absurd (false≢true k)
    at_types path U64 Str h k a b = absurd (false≢true k)
    at_types path U64 Boolean h k a b = absurd (false≢true k)
    at_types path U64 IpAddr h k a b = absurd (false≢true k)
    at_types path U64 DateTime h k a b = absurd (false≢true k)
    at_types path Bytes u h k a b = absurd (false≢true h)
    at_types path Str u h k a b = absurd (false≢true h)
    at_types path Boolean u h k a b = absurd (false≢true h)
    at_types path IpAddr u h k a b = absurd (false≢true h)
    at_types path DateTime u h k a b = absurd (false≢true h)

    agrees : (r k : ColumnKey) → is_declared declared r ≡ true → is_some (get columns k) ≡ true → AgreesWith r k
    agrees r k h there = λ own other same.
        at_types r.path r.type k.type own other (suit.declared r h)
        (ap (λ (path : List ℕ). is_some (get columns (record { path = path; type = k.type }))) (sym same) ∙ there)

  -- ---- all keys

  at_among : (ks : List ColumnKey) (i : ℕ) (d : ColumnKey) → i < length ks → is_among column_cmp ks (get_or ks i d) ≡ true
  at_among [] i d lt = absurd (omega (arith, lt))
  at_among (k ∷ ks) zero d lt = ap (λ b. b || is_among column_cmp ks k) (ap is_eq (ties column_cmp_total k))
  at_among (k ∷ ks) (suc i) d lt = second (eq_by_cmp column_cmp (get_or ks i d) k) _ (at_among ks i d (omega (arith, lt)))
    where
      second : (a b : Bool) → b ≡ true → (a || b) ≡ true
      second true b h = refl
      second false b h = h

  in_files : (r : ColumnKey) → is_declared declared r ≡ true → (files : List ColumnFile) (parts : List Part) → HaveColumnsOf schema files parts
      → All (AgreesWith r) (flat_map (λ f. map column_key f.columns) files)
  in_files r h [] parts have = λ i d lt. absurd (omega (arith, lt))
  in_files r h (f ∷ files) [] have = absurd have
  in_files r h (f ∷ files) (p ∷ parts) have =
      All-append (AgreesWith r) (map column_key f.columns) (flat_map (λ f. map column_key f.columns) files)
      (λ i d lt. agrees f.rows (columns_in f) have.0.suit r (get_or (map column_key f.columns) i d) h
      (is_there f.columns (get_or (map column_key f.columns) i d) ∙ at_among (map column_key f.columns) i d lt))
      (in_files r h files parts have.1)

  pub types_agree : (files : List ColumnFile) (parts : List Part) → HaveColumnsOf schema files parts
      → All (λ r. All (AgreesWith r) (declared ++ flat_map (λ f. map column_key f.columns) files)) declared
  types_agree files parts have = λ i d lt.
      let r = get_or declared i d in
      let h = at_among declared i d lt in
      All-append (AgreesWith r) declared (flat_map (λ f. map column_key f.columns) files)
      (λ j e less. λ own other same. same_declared r (get_or declared j e) h (at_among declared j e less) same)
      (in_files r h files parts have)

-- ---- rows

kept_below : (alive : List Bool) (low n top : ℕ) → low + n ≡ top → All (λ r. r < top) (kept alive (range_with_len low n))
kept_below [] low n top is = λ i d lt. absurd (omega (arith, lt))
kept_below (b ∷ alive) low zero top is = λ i d lt. absurd (omega (arith, lt))
kept_below (true ∷ alive) low (suc n) top is =
    All-cons (λ r. r < top) low (kept alive (range_with_len (low + 1) n)) (omega (arith, is)) (kept_below alive (low + 1) n top (omega (arith, is)))
kept_below (false ∷ alive) low (suc n) top is = kept_below alive (low + 1) n top (omega (arith, is))

module _ (schema : Schema) (counts : List ℕ) where
  pub rows_there : (offset : ℕ) (files : List ColumnFile) (parts : List Part) → HaveColumnsOf schema files parts
      → ((i : ℕ) → get_or counts (offset + i) 0 ≡ get_or (map (λ f. f.rows) files) i 0)
      → All (IsRow counts) (live_rows offset parts)
  rows_there offset [] [] have same = λ i d lt. absurd (omega (arith, lt))
  rows_there offset [] (p ∷ parts) have same = absurd have
  rows_there offset (f ∷ files) [] have same = absurd have
  rows_there offset (f ∷ files) (p ∷ parts) have same =
      All-append (IsRow counts) (map (λ row. (offset, row)) (kept p.alive (range_with_len 0 (length p.alive)))) (live_rows (offset + 1) parts)
      first (rows_there (offset + 1) files parts have.1 (λ i. ap (λ n. get_or counts n 0) (one_more offset i) ∙ same (suc i)))
    where
      one_more : (n i : ℕ) → n + 1 + i ≡ n + suc i
      one_more n i = omega arith

      own : get_or counts offset 0 ≡ f.rows
      own = ap (λ n. get_or counts n 0) (zero_more offset) ∙ same 0
        where
          zero_more : (n : ℕ) → n ≡ n + 0
          zero_more n = omega arith

      rows : List ℕ
      rows = kept p.alive (range_with_len 0 (length p.alive))

      below : All (λ r. r < f.rows) rows
      below = kept_below p.alive 0 (length p.alive) f.rows (omega (arith, have.0.marked))

      first : All (IsRow counts) (map (λ row. (offset, row)) rows)
      first = λ i d lt.
          let less : i < length rows = omega (arith, lt, length-map rows (λ (row : ℕ). (let p : Place = (offset, row) in p))) in
          subst (IsRow counts) (sym (get_or-map (λ (row : ℕ). (let p : Place = (offset, row) in p)) rows i 0 d less))
          (subst (λ n. get_or rows i 0 < n) (sym own) (below i 0 less))

pub can_merge : (schema : Schema) (files : List ColumnFile) (parts : List Part) → is_schema schema ≡ true
    → HaveColumnsOf schema files parts → length (live_rows 0 parts) < 2 ^ 32
    → CanMerge (declared_columns schema) files (live_rows 0 parts)
can_merge schema files parts valid have few = record {
  rows = rows_there schema (map (λ f. f.rows) files) 0 files parts have (λ i. ap (λ n. get_or (map (λ f. f.rows) files) n 0) (from_zero i));
  few = few;
  types = types_agree schema valid files parts have;
}
  where
    from_zero : (i : ℕ) → 0 + i ≡ i
    from_zero i = omega arith
