-- A merged column of texts or bytes, from the columns of its files.
use Rattle.std.proofs.Common.{◌≡◌, ℕ, zero, suc, ◌+◌, ◌<◌, ◌≤◌, Bool, true, false, ◌||◌, List, [], ◌∷◌, length, map, get_or, slice_get, Option, Some, None, ◌⊎◌, inl, inr, refl, sym, ap, subst, ◌∙◌, arith}
use Rattle.std.specs.Prelude.{◌&&◌, All, Vec, nat_eq, replicate}
use Rattle.std.specs.declared.alloc.Global.{Global}
use Rattle.std.specs.List.{AllByRecursion, AllZip, list_any}
use Rattle.std.specs.List.Sorted.{IsStrictlySortedBy}
use Rattle.std.specs.Ordering.{nat_cmp}
use Rattle.std.specs.declared.cmp.Ordering.TheVariants.{Less, Equal}
use Rattle.std.specs.Cmp.Lexicographic.{slice_cmp, nat_list_cmp_total}
use Rattle.std.proofs.lemmas.Bool.{and_parts, cases_lt, false≢true}
use Rattle.std.proofs.lemmas.Bool.Decides.{nat_tests}
use Rattle.std.proofs.lemmas.Cmp.{tied_itself}
use Rattle.std.proofs.lemmas.List.{get_or_past, length-replicate}
use Rattle.std.proofs.lemmas.List.Elements.{All-from_recursion, All-get_or, recursion_from_All}
use Rattle.std.proofs.lemmas.Map.Keys.{Less-from_sorted}
use Rattle.std.proofs.lemmas.Option.{get_or_from_slice_get, none-some, same_Some, slice_get_within}
use Rattle.seg_common.proofs.Lists.{list_any-map, get_or-map_map}
use Rattle.seg_common.specs.declared.column_type.ColumnType.{ColumnType}
use Rattle.seg_common.specs.declared.column_type.ColumnType.TheVariants.{I64, U64, Bytes, Str, Bool as Boolean, IpAddr, DateTime}
use Rattle.seg_common.proofs.Numbers.{nat_eq-itself}
use Rattle.seg_model.specs.Columns.{ColumnValue, bytes_value, text_value, type_place}
use Rattle.seg_columns.specs.DynamicColumns.{numbers_of, type_of}
use Rattle.seg_columns.specs.declared.dynamic_column.DynamicColumn.{DynamicColumn}
use Rattle.seg_columns.specs.declared.dynamic_column.DynamicColumn.TheVariants as columns
use Rattle.seg_column_format.specs.ModelColumns.{column_rows}
use Rattle.seg_columns.specs.TermColumns.{UsesEach}
use Rattle.seg_column_merge_parts.specs.ColumnSources.{number_source, source_of}
use Rattle.seg_column_merge_parts.specs.JoinedNumbers.{IsNumeric, joined_numbers, row_numbers}
use Rattle.seg_column_merge_parts.specs.KeptColumns.{row_count_of}
use Rattle.seg_column_file.specs.KeptRows.{AreMarks, kept_values}
use Rattle.seg_column_merge_parts.specs.MergedTerms.{AreMerged, AreNumbers, AreRowNumbers, kept_ords, ords_in, row_terms, terms_in}
use Rattle.seg_column_file.specs.RowOrders.{Place}
use Rattle.seg_column_merge_parts.specs.SourceRows.{CanMap, CanPut, IsPut}
use Rattle.seg_column_merge_parts.specs.TermSources.{AreTermSources, MapsTo}
use Rattle.seg_column_merge_parts.specs.declared.number_map.NumberMap.{NumberMap}
use Rattle.seg_column_merge_parts.specs.declared.number_map.NumberMap.TheVariants.{Same, Raised, Lowered, Ordinals}
use Rattle.seg_column_merge_parts.specs.declared.source.Source.{Source}
use Rattle.seg_column_merge_parts.specs.declared.source.Source.TheVariants.{Nothing, Numbers}
use Rattle.seg_column_merge_parts.specs.declared.tables.FileColumn.{FileColumn}
use Rattle.seg_column_merge_parts.specs.declared.tables.TableRow.{TableRow}
use Rattle.seg_column_merge_parts.proofs.Exports.{any_kept, kept_at}
use Rattle.seg_column_file.proofs.Exports.{file_below}
use Rattle.seg_column_merge.proofs.KeptPlaces.{IsKept, any_follows, any_image, all_where, map_where}
use Rattle.seg_column_merge.proofs.SourceRows.{FilesRise, IsFrom, all_replicate, all_with_maps, column_cells, is_from, length-with_maps, nothing_at, source_at, values_in}

-- a column whose values are terms, by their ordinals
pub record HasTerms (value : List ℕ → ColumnValue) (column : DynamicColumn) : Type 0 where
  pub numbers : numbers_of column ≡ Some (ords_in column)
  pub long : row_count_of column ≡ length (ords_in column)
  pub values : (row : ℕ) → get_or (column_rows column) row []
      ≡ map (λ ord. value (get_or (terms_in column) ord [])) (get_or (ords_in column) row [])

other_type : (t u : ColumnType) → nat_eq (type_place t) (type_place u) ≡ false → t ≡ u → ⊥
other_type t u other same =
    false≢true (sym other ∙ sym (ap (λ (v : ColumnType). nat_eq (type_place t) (type_place v)) same)
    ∙ nat_eq-itself (type_place t))

pub texts_are : (column : DynamicColumn) → type_of column ≡ Str → HasTerms text_value column
texts_are (columns.Str c) is = record {
  numbers = refl;
  long = refl;
  values = λ row. get_or-map_map (λ ord. text_value (get_or c.terms ord [])) c.ords row;
}
texts_are (columns.I64 rows) is = absurd (other_type I64 Str refl is)
texts_are (columns.U64 rows) is = absurd (other_type U64 Str refl is)
texts_are (columns.Bytes c) is = absurd (other_type Bytes Str refl is)
texts_are (columns.Bool rows) is = absurd (other_type Boolean Str refl is)
texts_are (columns.IpAddr rows) is = absurd (other_type IpAddr Str refl is)
texts_are (columns.DateTime rows) is = absurd (other_type DateTime Str refl is)

pub bytes_are : (column : DynamicColumn) → type_of column ≡ Bytes → HasTerms bytes_value column
bytes_are (columns.Bytes c) is = record {
  numbers = refl;
  long = refl;
  values = λ row. get_or-map_map (λ ord. bytes_value (get_or c.terms ord [])) c.ords row;
}
bytes_are (columns.I64 rows) is = absurd (other_type I64 Bytes refl is)
bytes_are (columns.U64 rows) is = absurd (other_type U64 Bytes refl is)
bytes_are (columns.Str c) is = absurd (other_type Str Bytes refl is)
bytes_are (columns.Bool rows) is = absurd (other_type Boolean Bytes refl is)
bytes_are (columns.IpAddr rows) is = absurd (other_type IpAddr Bytes refl is)
bytes_are (columns.DateTime rows) is = absurd (other_type DateTime Bytes refl is)

-- ---- what is written for a column

record IsWritten (c : FileColumn) (ordinals : List ℕ) (m : NumberMap) : Type 0 where
  vector : Vec ℕ Global
  is : m ≡ Ordinals vector
  items : vector.items ≡ ordinals
  below : All (All (λ ord. ord < length (terms_in (c.handle).column))) (ords_in (c.handle).column)

is_written : (c : FileColumn) (ordinals : List ℕ) (m : NumberMap) → MapsTo (Some c) ordinals m → IsWritten c ordinals m
is_written c ordinals Same maps = absurd maps
is_written c ordinals Raised maps = absurd maps
is_written c ordinals Lowered maps = absurd maps
is_written c ordinals (Ordinals v) maps = record { vector = v; is = refl; items = maps.0; below = maps.1 }

there : {X : Type 0} (xs : List (Option X)) (at : ℕ) (x : X) → get_or xs at None ≡ Some x → at < length xs
there xs at x is = by (cases_lt at (length xs))
  where
    by : (at < length xs) ⊎ (length xs ≤ at) → at < length xs
    by (inl lt) = lt
    by (inr le) = absurd (none-some x (sym (get_or_past xs at None le) ∙ is))

-- the numbers of a column's terms
numbers_at : (kept : List (List Bool)) (table : List (List ℕ)) (rows : List TableRow) (ns : List (List ℕ))
    → AllZip (AreRowNumbers kept table) rows ns → (at : ℕ) (c : FileColumn)
    → get_or (map (λ r. r.column) rows) at None ≡ Some c
    → AreNumbers table (row_terms (Some c)) (kept_ords kept (Some c)) (get_or ns at [])
numbers_at kept table [] ns are at c is = absurd (none-some c is)
numbers_at kept table (r ∷ rs) [] are at c is = absurd are
numbers_at kept table (r ∷ rs) (n ∷ ns) are zero c is =
    subst (λ (o : Option FileColumn). AreNumbers table (row_terms o) (kept_ords kept o) n) is are.0
numbers_at kept table (r ∷ rs) (n ∷ ns) are (suc at) c is = numbers_at kept table rs ns are.1 at c is

-- a term stands at one place
one_place : (terms : List (List ℕ)) → IsStrictlySortedBy (slice_cmp nat_cmp) terms → (i j : ℕ) → i < length terms
    → j < length terms → get_or terms i [] ≡ get_or terms j [] → i ≡ j
one_place terms sorted i j lt below same =
    elim (cases_lt i j) [
      | inl first ↦ absurd (apart (get_or terms i []) (get_or terms j []) same
          (Less-from_sorted (slice_cmp nat_cmp) terms i j [] sorted first below))
      | inr le ↦ elim (cases_lt j i) [
        | inl second ↦ absurd (apart (get_or terms j []) (get_or terms i []) (sym same)
            (Less-from_sorted (slice_cmp nat_cmp) terms j i [] sorted second lt))
        | inr other ↦ omega (arith, le, other)
      ]
    ]
  where
    apart : (x y : List ℕ) → x ≡ y → slice_cmp nat_cmp x y ≡ Less → ⊥
    apart x y e less =
        let tied : slice_cmp nat_cmp x y ≡ Equal = ap (slice_cmp nat_cmp x) (sym e)
        ∙ tied_itself nat_list_cmp_total x in
        let clash : Equal ≡ Less = sym tied ∙ less in
        cc

-- a column has all rows of its file
pub rows_of_file : (counts : List ℕ) (first : ℕ) (cs : List (Option FileColumn)) → FilesRise counts first cs
    → (at : ℕ) (c : FileColumn) → get_or cs at None ≡ Some c → row_count_of (c.handle).column ≡ get_or counts c.file 0
rows_of_file counts first [] rise at c is = absurd (none-some c is)
rows_of_file counts first (None ∷ cs) rise zero c is = absurd (none-some c is)
rows_of_file counts first (None ∷ cs) rise (suc at) c is = rows_of_file counts first cs rise at c is
rows_of_file counts first (Some d ∷ cs) rise zero c is =
    subst (λ (e : FileColumn). row_count_of (e.handle).column ≡ get_or counts e.file 0) (same_Some d c is) rise.2
rows_of_file counts first (Some d ∷ cs) rise (suc at) c is = rows_of_file counts (d.file + 1) cs rise.3 at c is

first_or_later : (P : ℕ → Type 0) (x y : ℕ) (ys : List ℕ) → P y → (list_any (nat_eq x) ys ≡ true → P x) → (b : Bool)
    → nat_eq x y ≡ b → (b || list_any (nat_eq x) ys) ≡ true → P x
first_or_later P x y ys here later true e any =
    let same : y ≡ x = grind (arith, nat_tests, e) in
    subst P same here
first_or_later P x y ys here later false e any = later any

member_by : (P : ℕ → Type 0) (xs : List ℕ) → AllByRecursion P xs → (x : ℕ) → list_any (nat_eq x) xs ≡ true → P x
member_by P [] all x any = absurd (false≢true any)
member_by P (y ∷ ys) all x any =
    first_or_later P x y ys all.0 (λ rest. member_by P ys all.1 x rest) (nat_eq x y) refl any

member_of : (P : ℕ → Type 0) (xs : List ℕ) → All P xs → (x : ℕ) → list_any (nat_eq x) xs ≡ true → P x
member_of P xs all x any = member_by P xs (recursion_from_All P xs all) x any

map_map : {Y : Type 0} (f : ℕ → ℕ) (g : ℕ → Y) (xs : List ℕ) → map g (map f xs) ≡ map (λ x. g (f x)) xs
map_map f g [] = refl
map_map {Y = Y} f g (x ∷ xs) = ap (λ (l : List Y). g (f x) ∷ l) (map_map f g xs)

all_map : (P : ℕ → Type 0) (f : ℕ → ℕ) (xs : List ℕ) → AllByRecursion (λ x. P (f x)) xs → AllByRecursion P (map f xs)
all_map P f [] all = tt
all_map P f (x ∷ xs) all = (all.0, all_map P f xs all.1)

module _ (counts : List ℕ) (places : List Place) (kept : List (List Bool)) (marks : AreMarks counts places kept)
    (rows : List TableRow) (rise : FilesRise counts 0 (map (λ r. r.column) rows)) (terms ordinals : List (List ℕ))
    (merged : AreMerged kept rows terms ordinals) (value : List ℕ → ColumnValue)
    (typed : (at : ℕ) (c : FileColumn) → get_or (map (λ r. r.column) rows) at None ≡ Some c
    → HasTerms value (c.handle).column) where
  abbrev row_columns : List (Option FileColumn)
  row_columns = map (λ (r : TableRow). r.column) rows

  abbrev start : List Source
  start = replicate (length counts) Nothing

  module _ (sources : List Source) (are : AreTermSources start row_columns ordinals sources) where
    long : length sources ≡ length counts
    long = ap length are.are ∙ length-with_maps row_columns are.written start ∙ length-replicate (length counts) Nothing

    -- ---- one column

    module _ (at : ℕ) (c : FileColumn) (is : get_or row_columns at None ≡ Some c) where
      abbrev ords : List (List ℕ)
      ords = ords_in (c.handle).column

      written : IsWritten c (get_or ordinals at []) (get_or are.written at Same)
      written = is_written c (get_or ordinals at []) (get_or are.written at Same)
          (subst (λ (o : Option FileColumn). MapsTo o (get_or ordinals at []) (get_or are.written at Same)) is
          (are.maps at (there row_columns at c is)))

      abbrev new : ℕ → ℕ
      new ord = get_or written.vector.items ord 0

      source_written : source_of (get_or are.written at Same) (c.handle).column
          ≡ Numbers (record { numbers = ords; written = Ordinals written.vector })
      source_written =
          ap (λ (m : NumberMap). source_of m (c.handle).column) written.is
          ∙ ap (number_source (Ordinals written.vector) (c.handle).column) (typed at c is).numbers

      -- a source that is this column's
      abbrev IsIts : Source → Type 0
      IsIts s = s ≡ source_of (get_or are.written at Same) (c.handle).column

      numbers_are : (s : Source) (row : ℕ) → IsIts s → row_numbers s row ≡ map new (get_or ords row [])
      numbers_are s row its = ap (λ (t : Source). row_numbers t row) (its ∙ source_written)

      numbered : AreNumbers terms (terms_in (c.handle).column) (kept_ords kept (Some c)) (get_or ordinals at [])
      numbered = numbers_at kept terms rows ordinals merged.added.numbered at c is

      module _ (p : Place) (kept_here : IsKept counts places p) (file : c.file ≡ p.0) where
        within : p.1 < length ords
        within =
            let count : row_count_of (c.handle).column ≡ get_or counts p.0 0 =
            rows_of_file counts 0 row_columns rise at c is ∙ ap (λ (f : ℕ). get_or counts f 0) file in
            omega (arith, kept_here.row, count, (typed at c is).long)

        row_kept : get_or (get_or kept c.file []) p.1 false ≡ true
        row_kept =
            ap (λ (f : ℕ). get_or (get_or kept f []) p.1 false) file
            ∙ marks.marks p.0 p.1 kept_here.row ∙ kept_here.kept

        is_used : (ord : ℕ) → list_any (nat_eq ord) (get_or ords p.1 []) ≡ true
            → list_any (nat_eq ord) (kept_values (get_or kept c.file []) ords) ≡ true
        is_used ord any = kept_at (nat_eq ord) (get_or kept c.file []) ords p.1 within row_kept any

        ord_below : (ord : ℕ) → list_any (nat_eq ord) (get_or ords p.1 []) ≡ true
            → ord < length (terms_in (c.handle).column)
        ord_below ord any = member_of (λ n. n < length (terms_in (c.handle).column)) (get_or ords p.1 [])
            (All-get_or (All (λ n. n < length (terms_in (c.handle).column))) ords p.1 [] within written.below) ord any

        placed : (ord : ℕ) → list_any (nat_eq ord) (get_or ords p.1 []) ≡ true
            → slice_get terms (new ord) ≡ Some (get_or (terms_in (c.handle).column) ord [])
        placed ord any =
            ap (λ (l : List ℕ). slice_get terms (get_or l ord 0)) written.items
            ∙ numbered.each ord (ord_below ord any) (is_used ord any)

        pub can_put : (s : Source) → IsIts s → CanPut s p.1
        can_put s its =
            subst (λ (t : Source). CanPut t p.1) (sym (its ∙ source_written)) (
              within,
              All-from_recursion (CanMap (Ordinals written.vector)) (get_or ords p.1 [])
                  (all_where (CanMap (Ordinals written.vector)) (get_or ords p.1 [])
                  (λ ord any. omega (arith, ord_below ord any, numbered.many, ap length written.items))),
            )

        pub column_read : (s : Source) → IsIts s
            → map (λ n. value (get_or terms n [])) (row_numbers s p.1) ≡ values_in c p.1
        column_read s its =
            ap (map (λ (n : ℕ). value (get_or terms n []))) (numbers_are s p.1 its)
            ∙ map_map new (λ n. value (get_or terms n [])) (get_or ords p.1 [])
            ∙ map_where (λ ord. value (get_or terms (new ord) []))
            (λ ord. value (get_or (terms_in (c.handle).column) ord [])) (get_or ords p.1 [])
            (λ ord any. ap value (get_or_from_slice_get terms (new ord) (get_or (terms_in (c.handle).column) ord []) []
            (placed ord any)))
            ∙ sym ((typed at c is).values p.1)

        pub numbers_below : (s : Source) → IsIts s → AllByRecursion (λ n. n < length terms) (row_numbers s p.1)
        numbers_below s its =
            subst (AllByRecursion (λ n. n < length terms)) (sym (numbers_are s p.1 its))
            (all_map (λ n. n < length terms) new (get_or ords p.1 [])
            (all_where (λ ord. new ord < length terms) (get_or ords p.1 [])
            (λ ord any. slice_get_within terms (new ord) (get_or (terms_in (c.handle).column) ord [])
            (placed ord any))))

    -- ---- one place

    module _ (p : Place) (kept_here : IsKept counts places p) where
      from : IsFrom row_columns are.written (get_or sources p.0 Nothing) p
      from = subst (λ (ss : List Source). IsFrom row_columns are.written (get_or ss p.0 Nothing) p) (sym are.are)
          (is_from counts p 0 row_columns are.written start rise are.many (length-replicate (length counts) Nothing)
          (λ file le. nothing_at (length counts) file) (omega arith))

      pub is_put : IsPut sources p
      is_put = record {
        file = omega (arith, file_below counts p.0 p.1 kept_here.row, long);
        row = by from;
      }
        where
          by : IsFrom row_columns are.written (get_or sources p.0 Nothing) p → CanPut (get_or sources p.0 Nothing) p.1
          by (inl i) = can_put i.at i.column i.there p kept_here i.file (get_or sources p.0 Nothing) i.source_is
          by (inr i) = subst (λ (s : Source). CanPut s p.1) (sym i.source_is) tt

      pub place_read : map (λ n. value (get_or terms n [])) (row_numbers (get_or sources p.0 Nothing) p.1)
          ≡ column_cells row_columns p
      place_read = by from
        where
          by : IsFrom row_columns are.written (get_or sources p.0 Nothing) p
              → map (λ n. value (get_or terms n [])) (row_numbers
              (get_or sources p.0 Nothing) p.1) ≡ column_cells row_columns p
          by (inl i) =
              column_read i.at i.column i.there p kept_here i.file (get_or sources p.0 Nothing) i.source_is
              ∙ sym i.cell_is
          by (inr i) =
              ap (λ (s : Source). map (λ n. value (get_or terms n [])) (row_numbers s p.1)) i.source_is ∙ sym i.cell_is

      place_below : AllByRecursion (λ n. n < length terms) (row_numbers (get_or sources p.0 Nothing) p.1)
      place_below = by from
        where
          by : IsFrom row_columns are.written (get_or sources p.0 Nothing) p
              → AllByRecursion (λ n. n < length terms) (row_numbers (get_or sources p.0 Nothing) p.1)
          by (inl i) = numbers_below i.at i.column i.there p kept_here i.file (get_or sources p.0 Nothing) i.source_is
          by (inr i) =
              subst (λ (s : Source). AllByRecursion (λ n. n < length terms) (row_numbers s p.1)) (sym i.source_is) tt

    -- ---- all places

    pub all_put : (ps : List Place) → AllByRecursion (IsKept counts places) ps → AllByRecursion (IsPut sources) ps
    all_put [] here = tt
    all_put (p ∷ ps) here = (is_put p here.0, all_put ps here.1)

    pub all_read : (ps : List Place) → AllByRecursion (IsKept counts places) ps
        → map (map (λ n. value (get_or terms n []))) (joined_numbers sources ps) ≡ map (column_cells row_columns) ps
    all_read [] here = refl
    all_read (p ∷ ps) here = λ j. place_read p here.0 j ∷ all_read ps here.1 j

    all_below : (ps : List Place) → AllByRecursion (IsKept counts places) ps
        → AllByRecursion (All (λ n. n < length terms)) (joined_numbers sources ps)
    all_below [] here = tt
    all_below (p ∷ ps) here = (
      All-from_recursion (λ n. n < length terms) (row_numbers (get_or sources p.0 Nothing) p.1) (place_below p here.0),
      all_below ps here.1,
    )

    -- each term is that of a row
    module _ (here : AllByRecursion (IsKept counts places) places) (k : ℕ) (lt : k < length terms) where
      abbrev has : Place → Bool
      has p = list_any (nat_eq k) (row_numbers (get_or sources p.0 Nothing) p.1)

      of_column : (at : ℕ) (c : FileColumn) (is : get_or row_columns at None ≡ Some c) (ord : ℕ)
          → list_any (nat_eq ord) (kept_values (get_or kept c.file []) (ords_in (c.handle).column)) ≡ true
          → get_or terms k [] ≡ get_or (terms_in (c.handle).column) ord []
          → list_any has places ≡ true
      of_column at c is ord used same =
          any_follows (IsKept counts places) (λ p. nat_eq c.file p.0 && list_any (nat_eq ord)
          (get_or (ords_in (c.handle).column) p.1 [])) has places
          here hits
          (sym (any_kept (nat_eq ord) c.file (ords_in (c.handle).column) counts places kept marks
          (sym (typed at c is).long ∙ rows_of_file counts 0 row_columns rise at c is)) ∙ used)
        where
          hits : (p : Place) → IsKept counts places p
              → (nat_eq c.file p.0 && list_any (nat_eq ord) (get_or (ords_in (c.handle).column) p.1 [])) ≡ true
              → has p ≡ true
          hits p kept_here both =
              let parts = and_parts (nat_eq c.file p.0)
              (list_any (nat_eq ord) (get_or (ords_in (c.handle).column) p.1 [])) both in
              let file : c.file ≡ p.0 = grind (arith, nat_tests, parts.0) in
              let its : get_or sources p.0 Nothing ≡ source_of (get_or are.written at Same) (c.handle).column =
              ap (λ (ss : List Source). get_or ss p.0 Nothing) are.are
              ∙ source_at counts p 0 row_columns are.written start rise are.many
              (length-replicate (length counts) Nothing) at c is file in
              let here_is = placed at c is p kept_here file ord parts.1 in
              let place : new at c is ord ≡ k =
              one_place terms merged.ascend (new at c is ord) k
              (slice_get_within terms (new at c is ord) (get_or (terms_in (c.handle).column) ord []) here_is) lt
              (get_or_from_slice_get terms (new at c is ord) (get_or (terms_in (c.handle).column) ord []) [] here_is
              ∙ sym same) in
              ap (list_any (nat_eq k)) (numbers_are at c is (get_or sources p.0 Nothing) p.1 its)
              ∙ any_image (new at c is) (get_or (ords_in (c.handle).column) p.1 []) ord k place parts.1

      pub has_each : list_any has places ≡ true
      has_each =
          let each = merged.added.each k [] lt in
          by each.place (get_or row_columns each.place None) refl each.ord each.within each.used each.is
        where
          by : (at : ℕ) (o : Option FileColumn) → get_or row_columns at None ≡ o → (ord : ℕ)
              → ord < length (row_terms (get_or row_columns at None))
              → list_any (nat_eq ord) (kept_ords kept (get_or row_columns at None)) ≡ true
              → get_or terms k [] ≡ get_or (row_terms (get_or row_columns at None)) ord [] → list_any has places ≡ true
          by at None is ord within used same =
              absurd (omega (arith, subst (λ (o : Option FileColumn). ord < length (row_terms o)) is within))
          by at (Some c) is ord within used same =
              of_column at c is ord (sym (ap (λ (o : Option FileColumn). list_any (nat_eq ord) (kept_ords kept o)) is)
              ∙ used)
              (same ∙ ap (λ (o : Option FileColumn). get_or (row_terms o) ord []) is)

    pub uses_each : AllByRecursion (IsKept counts places) places
        → UsesEach (length terms) (joined_numbers sources places)
    uses_each here = record {
      below = All-from_recursion (All (λ ord. ord < length terms)) (joined_numbers sources places)
          (all_below places here);
      used = λ k lt. list_any-map (list_any (nat_eq k)) (λ p. row_numbers (get_or sources p.0 Nothing) p.1) places
          ∙ has_each here k lt;
    }

    pub are_numeric : AllByRecursion IsNumeric sources
    are_numeric = subst (AllByRecursion IsNumeric) (sym are.are)
        (all_with_maps IsNumeric row_columns are.written start (all_replicate IsNumeric (length counts) Nothing tt)
        (λ at c m is. subst IsNumeric (sym (ap (number_source m (c.handle).column) (typed at c is).numbers)) tt))
