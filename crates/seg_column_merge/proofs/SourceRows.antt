-- What a file has of a merged column, by the columns of its path and kind.
use Rattle.std.proofs.Common.{◌≡◌, ℕ, zero, suc, ◌+◌, ◌<◌, ◌≤◌, Bool, true, false, List, [], ◌∷◌, ◌++◌, length, map, get_or, set, Option, Some, None, ◌⊎◌, inl, inr, refl, sym, ap, subst, ◌∙◌, arith}
use Rattle.std.specs.Prelude.{if◌then◌else◌, nat_eq, replicate}
use Rattle.std.specs.List.{AllByRecursion, flat_map}
use Rattle.std.proofs.lemmas.Bool.{cases_lt}
use Rattle.std.proofs.lemmas.Bool.Decides.{nat_tests}
use Rattle.std.proofs.lemmas.List.{append-nil, get_or-set_same, get_or-set_other, length-set}
use Rattle.std.proofs.lemmas.Option.{none-some, same_Some}
use Rattle.seg_model.specs.Columns.{ColumnValue}
use Rattle.seg_column_format.specs.ModelColumns.{column_rows}
use Rattle.seg_column_merge.specs.Cells.{cell, row_cell}
use Rattle.seg_column_merge_parts.specs.ColumnSources.{source_of, with_maps}
use Rattle.seg_column_merge.specs.Groups.{AreOfFiles, FileFits}
use Rattle.seg_column_merge_parts.specs.KeptColumns.{row_count_of}
use Rattle.seg_column_file.specs.RowOrders.{Place}
use Rattle.seg_column_merge_parts.specs.Tables.{column_in, row_of}
use Rattle.seg_column_merge_parts.specs.declared.number_map.NumberMap.{NumberMap}
use Rattle.seg_column_merge_parts.specs.declared.number_map.NumberMap.TheVariants.{Same}
use Rattle.seg_column_merge_parts.specs.declared.source.Source.{Source}
use Rattle.seg_column_merge_parts.specs.declared.source.Source.TheVariants.{Nothing}
use Rattle.seg_column_merge_parts.specs.declared.tables.FileColumn.{FileColumn}
use Rattle.seg_column_merge_parts.specs.declared.tables.TableRow.{TableRow}

-- the values of a column in a row
abbrev pub values_in : FileColumn → ℕ → List ColumnValue
values_in c row = get_or (column_rows (c.handle).column) row []

-- those of a column that may be there, at a place
abbrev pub column_cell : Place → Option FileColumn → List ColumnValue
column_cell p None = []
column_cell p (Some c) = if nat_eq c.file p.0 then values_in c p.1 else []

abbrev pub column_cells : List (Option FileColumn) → Place → List ColumnValue
column_cells columns p = flat_map (column_cell p) columns

-- columns of rising files, each with all rows of its file
abbrev pub FilesRise : List ℕ → ℕ → List (Option FileColumn) → Type 0
FilesRise counts first [] = Unit {0}
FilesRise counts first (None ∷ cs) = FilesRise counts first cs
FilesRise counts first (Some c ∷ cs) =
    (first ≤ c.file) × (c.file < length counts) × (row_count_of (c.handle).column ≡ get_or counts c.file 0)
    × FilesRise counts (c.file + 1) cs

one_more : (counts : List ℕ) (first next : ℕ) (o : Option FileColumn) (cs : List (Option FileColumn))
    → FileFits counts first o next → FilesRise counts next cs → FilesRise counts first (o ∷ cs)
one_more counts first next None cs fits rise = subst (λ (n : ℕ). FilesRise counts n cs) fits rise
one_more counts first next (Some c) cs fits rise =
    (fits.0, fits.1, fits.2, subst (λ (n : ℕ). FilesRise counts n cs) fits.3 rise)

pub files_rise : (counts : List ℕ) (first : ℕ) (rows : List TableRow) → AreOfFiles counts first rows
    → FilesRise counts first (map (λ r. r.column) rows)
files_rise counts first [] are = tt
files_rise counts first (r ∷ rs) are =
    one_more counts first are.0 r.column (map (λ (t : TableRow). t.column) rs) are.1 (files_rise counts are.0 rs are.2)

-- the values at a place are those of its columns
same_cell : (p : Place) (o : Option FileColumn) → row_cell p (column_in o) ≡ column_cell p o
same_cell p None = refl
same_cell p (Some c) = refl

pub cell_by_columns : (rows : List TableRow) (p : Place)
    → cell (map row_of rows) p ≡ column_cells (map (λ r. r.column) rows) p
cell_by_columns [] p = refl
cell_by_columns (r ∷ rs) p = λ j. same_cell p r.column j ++ cell_by_columns rs p j

-- ---- the source of a place

-- a place is in the file of one of the columns, whose values there are all
pub record IsOfColumn (columns : List (Option FileColumn)) (maps : List NumberMap) (source : Source)
    (p : Place) : Type 0 where
  pub at : ℕ
  pub column : FileColumn
  pub there : get_or columns at None ≡ Some column
  pub file : column.file ≡ p.0
  pub source_is : source ≡ source_of (get_or maps at Same) (column.handle).column
  pub cell_is : column_cells columns p ≡ values_in column p.1

-- or in the file of none
pub record IsOfNone (columns : List (Option FileColumn)) (source : Source) (p : Place) : Type 0 where
  pub source_is : source ≡ Nothing
  pub cell_is : column_cells columns p ≡ []

abbrev pub IsFrom : List (Option FileColumn) → List NumberMap → Source → Place → Type 0
IsFrom columns maps source p = IsOfColumn columns maps source p ⊎ IsOfNone columns source p

module _ (counts : List ℕ) (p : Place) where
  cell_more : (c : FileColumn) (cs : List (Option FileColumn)) → nat_eq c.file p.0 ≡ false
      → column_cells (Some c ∷ cs) p ≡ column_cells cs p
  cell_more c cs other = ap (λ (b : Bool). (if b then values_in c p.1 else []) ++ column_cells cs p) other

  -- files that come later have nothing there
  pub later_files : (first : ℕ) (cs : List (Option FileColumn)) → FilesRise counts first cs → p.0 < first
      → column_cells cs p ≡ []
  later_files first [] rise lt = refl
  later_files first (None ∷ cs) rise lt = later_files first cs rise lt
  later_files first (Some c ∷ cs) rise lt =
      let other : nat_eq c.file p.0 ≡ false = grind (arith, nat_tests, rise.0, lt) in
      cell_more c cs other ∙ later_files (c.file + 1) cs rise.3 (omega (arith, rise.0, lt))

  -- and leave the sources of those before as they are
  sources_stay : (first : ℕ) (cs : List (Option FileColumn)) (maps : List NumberMap) (sources : List Source)
      → FilesRise counts first cs → p.0 < first
      → get_or (with_maps sources cs maps) p.0 Nothing ≡ get_or sources p.0 Nothing
  sources_stay first [] maps sources rise lt = refl
  sources_stay first (o ∷ cs) [] sources rise lt = refl
  sources_stay first (None ∷ cs) (m ∷ ms) sources rise lt = sources_stay first cs ms sources rise lt
  sources_stay first (Some c ∷ cs) (m ∷ ms) sources rise lt =
      let other : p.0 ≡ c.file → ⊥ = λ e. omega (arith, e, rise.0, lt) in
      sources_stay (c.file + 1) cs ms (set sources c.file (source_of m (c.handle).column)) rise.3
      (omega (arith, rise.0, lt))
      ∙ get_or-set_other sources c.file p.0 (source_of m (c.handle).column) Nothing other

  after_none : (cs : List (Option FileColumn)) (m : NumberMap) (ms : List NumberMap) (s : Source) → IsFrom cs ms s p
      → IsFrom (None ∷ cs) (m ∷ ms) s p
  after_none cs m ms s (inl is) = inl (record {
    at = suc is.at;
    column = is.column;
    there = is.there;
    file = is.file;
    source_is = is.source_is;
    cell_is = is.cell_is;
  })
  after_none cs m ms s (inr is) = inr (record { source_is = is.source_is; cell_is = is.cell_is })

  later : (c : FileColumn) (cs : List (Option FileColumn)) (m : NumberMap) (ms : List NumberMap) (s : Source)
      → nat_eq c.file p.0 ≡ false → IsFrom cs ms s p → IsFrom (Some c ∷ cs) (m ∷ ms) s p
  later c cs m ms s other (inl is) = inl (record {
    at = suc is.at;
    column = is.column;
    there = is.there;
    file = is.file;
    source_is = is.source_is;
    cell_is = cell_more c cs other ∙ is.cell_is;
  })
  later c cs m ms s other (inr is) = inr (record {
    source_is = is.source_is;
    cell_is = cell_more c cs other ∙ is.cell_is;
  })

  module _ (c : FileColumn) (cs : List (Option FileColumn)) (m : NumberMap) (ms : List NumberMap)
      (sources : List Source)
      (first : ℕ) (rise : FilesRise counts first (Some c ∷ cs)) (long : length sources ≡ length counts) where
    abbrev after : List Source
    after = set sources c.file (source_of m (c.handle).column)

    here : c.file ≡ p.0 → IsFrom (Some c ∷ cs) (m ∷ ms) (get_or (with_maps after cs ms) p.0 Nothing) p
    here same =
        let this : nat_eq c.file p.0 ≡ true = grind (arith, nat_tests, same) in
        let within : c.file < length sources = omega (arith, rise.1, long) in
        inl (record {
          at = 0;
          column = c;
          there = refl;
          file = same;
          source_is = sources_stay (c.file + 1) cs ms after rise.3 (omega (arith, same))
              ∙ ap (λ (n : ℕ). get_or after n Nothing) (sym same)
              ∙ get_or-set_same sources c.file (source_of m (c.handle).column) Nothing within;
          cell_is = ap (λ (b : Bool). (if b then values_in c p.1 else []) ++ column_cells cs p) this
              ∙ ap (λ (l : List ColumnValue). values_in c p.1 ++ l)
              (later_files (c.file + 1) cs rise.3 (omega (arith, same)))
              ∙ append-nil (values_in c p.1);
        })

    earlier : p.0 < c.file → get_or sources p.0 Nothing ≡ Nothing
        → IsFrom (Some c ∷ cs) (m ∷ ms) (get_or (with_maps after cs ms) p.0 Nothing) p
    earlier lt none =
        let other : nat_eq c.file p.0 ≡ false = grind (arith, nat_tests, lt) in
        let apart : p.0 ≡ c.file → ⊥ = λ e. omega (arith, e, lt) in
        inr (record {
          source_is = sources_stay (c.file + 1) cs ms after rise.3 (omega (arith, lt))
              ∙ get_or-set_other sources c.file p.0 (source_of m (c.handle).column) Nothing apart ∙ none;
          cell_is = cell_more c cs other ∙ later_files (c.file + 1) cs rise.3 (omega (arith, lt));
        })

    none_after : ((file : ℕ) → first ≤ file → get_or sources file Nothing ≡ Nothing) → (file : ℕ) → c.file + 1 ≤ file
        → get_or after file Nothing ≡ Nothing
    none_after none file le =
        let apart : file ≡ c.file → ⊥ = λ e. omega (arith, e, le) in
        get_or-set_other sources c.file file (source_of m (c.handle).column) Nothing apart
        ∙ none file (omega (arith, rise.0, le))

  pub is_from : (first : ℕ) (cs : List (Option FileColumn)) (ms : List NumberMap) (sources : List Source)
      → FilesRise counts first cs → length cs ≡ length ms → length sources ≡ length counts
      → ((file : ℕ) → first ≤ file → get_or sources file Nothing ≡ Nothing) → first ≤ p.0
      → IsFrom cs ms (get_or (with_maps sources cs ms) p.0 Nothing) p
  is_from first [] ms sources rise many long none le = inr (record { source_is = none p.0 le; cell_is = refl })
  is_from first (o ∷ cs) [] sources rise many long none le = absurd (omega (arith, many))
  is_from first (None ∷ cs) (m ∷ ms) sources rise many long none le =
      after_none cs m ms (get_or (with_maps sources cs ms) p.0 Nothing)
      (is_from first cs ms sources rise (omega (arith, many)) long none le)
  is_from first (Some c ∷ cs) (m ∷ ms) sources rise many long none le =
      elim (cases_lt p.0 c.file) [
        | inl lt ↦ earlier c cs m ms sources first rise long lt (none p.0 le)
        | inr ge ↦ elim (cases_lt c.file p.0) [
          | inl lt ↦
              let other : nat_eq c.file p.0 ≡ false = grind (arith, nat_tests, lt) in
              let after = set sources c.file (source_of m (c.handle).column) in
              later c cs m ms (get_or (with_maps after cs ms) p.0 Nothing) other
              (is_from (c.file + 1) cs ms after rise.3 (omega (arith, many))
              (length-set sources c.file (source_of m (c.handle).column) ∙ long)
              (none_after c cs m ms sources first rise long none) (omega (arith, lt)))
          | inr lt ↦ here c cs m ms sources first rise long (omega (arith, ge, lt))
        ]
      ]

  -- the source of a column is in the place of its file
  pub source_at : (first : ℕ) (cs : List (Option FileColumn)) (ms : List NumberMap) (sources : List Source)
      → FilesRise counts first cs → length cs ≡ length ms → length sources ≡ length counts
      → (at : ℕ) (c : FileColumn) → get_or cs at None ≡ Some c → c.file ≡ p.0
      → get_or (with_maps sources cs ms) p.0 Nothing ≡ source_of (get_or ms at Same) (c.handle).column
  source_at first [] ms sources rise many long at c is file = absurd (none-some c is)
  source_at first (o ∷ cs) [] sources rise many long at c is file = absurd (omega (arith, many))
  source_at first (None ∷ cs) (m ∷ ms) sources rise many long zero c is file = absurd (none-some c is)
  source_at first (None ∷ cs) (m ∷ ms) sources rise many long (suc at) c is file =
      source_at first cs ms sources rise (omega (arith, many)) long at c is file
  source_at first (Some d ∷ cs) (m ∷ ms) sources rise many long zero c is file =
      let same : d ≡ c = same_Some d c is in
      let here : d.file ≡ p.0 = ap (λ (e : FileColumn). e.file) same ∙ file in
      sources_stay (d.file + 1) cs ms (set sources d.file (source_of m (d.handle).column)) rise.3 (omega (arith, here))
      ∙ ap (λ (n : ℕ). get_or (set sources d.file (source_of m (d.handle).column)) n Nothing) (sym here)
      ∙ get_or-set_same sources d.file (source_of m (d.handle).column) Nothing (omega (arith, rise.1, long))
      ∙ ap (λ (e : FileColumn). source_of m (e.handle).column) same
  source_at first (Some d ∷ cs) (m ∷ ms) sources rise many long (suc at) c is file =
      source_at (d.file + 1) cs ms (set sources d.file (source_of m (d.handle).column)) rise.3 (omega (arith, many))
      (length-set sources d.file (source_of m (d.handle).column) ∙ long) at c is file

-- ---- sources of numbers

module _ (P : Source → Type 0) where
  all_set : (sources : List Source) (i : ℕ) (s : Source) → AllByRecursion P sources → P s
      → AllByRecursion P (set sources i s)
  all_set [] i s all is = tt
  all_set (t ∷ ts) zero s all is = (is, all.1)
  all_set (t ∷ ts) (suc i) s all is = (all.0, all_set ts i s all.1 is)

  -- what holds of the source of each column holds of all
  pub all_with_maps : (cs : List (Option FileColumn)) (ms : List NumberMap) (sources : List Source)
      → AllByRecursion P sources
      → ((at : ℕ) (c : FileColumn) (m : NumberMap) → get_or cs at None ≡ Some c → P (source_of m (c.handle).column))
      → AllByRecursion P (with_maps sources cs ms)
  all_with_maps [] ms sources all each = all
  all_with_maps (o ∷ cs) [] sources all each = all
  all_with_maps (None ∷ cs) (m ∷ ms) sources all each =
      all_with_maps cs ms sources all (λ at c n is. each (suc at) c n is)
  all_with_maps (Some c ∷ cs) (m ∷ ms) sources all each =
      all_with_maps cs ms (set sources c.file (source_of m (c.handle).column))
      (all_set sources c.file (source_of m (c.handle).column) all (each 0 c m refl)) (λ at d n is. each (suc at) d n is)

pub all_replicate : (P : Source → Type 0) (n : ℕ) (s : Source) → P s → AllByRecursion P (replicate n s)
all_replicate P zero s is = tt
all_replicate P (suc n) s is = (is, all_replicate P n s is)

pub length-with_maps : (cs : List (Option FileColumn)) (ms : List NumberMap) (sources : List Source)
    → length (with_maps sources cs ms) ≡ length sources
length-with_maps [] ms sources = refl
length-with_maps (o ∷ cs) [] sources = refl
length-with_maps (None ∷ cs) (m ∷ ms) sources = length-with_maps cs ms sources
length-with_maps (Some c ∷ cs) (m ∷ ms) sources =
    length-with_maps cs ms (set sources c.file (source_of m (c.handle).column))
    ∙ length-set sources c.file (source_of m (c.handle).column)

pub nothing_at : (n file : ℕ) → get_or (replicate n Nothing) file Nothing ≡ Nothing
nothing_at zero file = refl
nothing_at (suc n) zero = refl
nothing_at (suc n) (suc file) = nothing_at n file
