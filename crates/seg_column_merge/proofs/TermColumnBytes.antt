-- The bytes of a merged column of texts or bytes.
use Rattle.std.proofs.Common.{◌≡◌, ℕ, zero, suc, ◌<◌, ◌^◌, List, [], ◌∷◌, ◌++◌, length, map, get_or, Option, Some, None, refl, sym, ap, subst, ◌∙◌, append_assoc}
use Rattle.std.specs.Prelude.{All, Bool, IsUtf8, replicate}
use Rattle.std.specs.List.{AllByRecursion}
use Rattle.std.proofs.lemmas.List.{length-map}
use Rattle.std.proofs.lemmas.List.Elements.{All-from_recursion}
use Rattle.std.proofs.lemmas.Option.{none-some}
use Rattle.seg_common.specs.declared.column_type.ColumnType.{ColumnType}
use Rattle.seg_common.specs.declared.column_type.ColumnType.TheVariants.{Bytes, Str}
use Rattle.seg_model.specs.Columns.{ColumnValue, bytes_value, text_value}
use Rattle.seg_columns.specs.DynamicColumns.{IsColumnOf, type_of}
use Rattle.seg_columns.specs.TermColumns.{TermColumn, UsesEach, term_column_of}
use Rattle.seg_column_format.specs.ColumnBytes.{column_bytes, dictionary_bytes, term_column_bytes, total}
use Rattle.seg_column_format.specs.ModelColumns.{terms_at}
use Rattle.seg_column_format.proofs.TermColumnRoundTrips.{is_bytes_column, is_str_column, term_column_read}
use Rattle.seg_column_merge.specs.Cells.{cells}
use Rattle.seg_column_merge.specs.Groups.{AreOfFiles}
use Rattle.seg_column_merge_parts.specs.JoinedNumbers.{IsNumeric, joined_numbers, row_numbers}
use Rattle.seg_column_file.specs.KeptRows.{AreMarks}
use Rattle.seg_column_merge.specs.MergedBytes.{AddsMerged, HasType, IsTermType}
use Rattle.seg_column_merge_parts.specs.MergedTerms.{AreMerged, HasTexts}
use Rattle.seg_column_file.specs.RowOrders.{Place, IsRow}
use Rattle.seg_column_merge_parts.specs.SourceRows.{IsPut, joined}
use Rattle.seg_column_merge_parts.specs.Tables.{row_of}
use Rattle.seg_column_merge_parts.specs.TermSources.{AreTermSources}
use Rattle.seg_column_merge_parts.specs.declared.source.Source.{Source}
use Rattle.seg_column_merge_parts.specs.declared.source.Source.TheVariants.{Nothing}
use Rattle.seg_column_merge_parts.specs.declared.tables.FileColumn.{FileColumn}
use Rattle.seg_column_merge_parts.specs.declared.tables.TableRow.{TableRow}
use Rattle.seg_column_merge_parts.proofs.Exports.{joined_bytes, joined_total}
use Rattle.seg_column_merge.proofs.KeptPlaces.{IsKept, all_kept}
use Rattle.seg_column_merge.proofs.SourceRows.{FilesRise, cell_by_columns, column_cells, files_rise}
use Rattle.seg_column_merge.proofs.TermColumns.{HasTerms, all_put, all_read, are_numeric, bytes_are, texts_are, uses_each}

-- the type of a column, by the types of all rows
pub type_at : (type : ColumnType) (rows : List TableRow) → AllByRecursion (λ r. HasType type r.column) rows → (at : ℕ)
    (c : FileColumn) → get_or (map (λ r. r.column) rows) at None ≡ Some c → type_of (c.handle).column ≡ type
type_at type [] all at c is = absurd (none-some c is)
type_at type (r ∷ rs) all zero c is = subst (HasType type) is all.0
type_at type (r ∷ rs) all (suc at) c is = type_at type rs all.1 at c is

with_texts : (o : Option FileColumn) → HasType Str o → HasTexts o
with_texts None is = tt
with_texts (Some c) is = is

all_texts : (rows : List TableRow) → AllByRecursion (λ r. HasType Str r.column) rows
    → AllByRecursion (λ r. HasTexts r.column) rows
all_texts [] all = tt
all_texts (r ∷ rs) all = (with_texts r.column all.0, all_texts rs all.1)

pub cells_are : (rows : List TableRow) (places : List Place)
    → map (column_cells (map (λ r. r.column) rows)) places ≡ cells (map row_of rows) places
cells_are rows [] = refl
cells_are rows (p ∷ ps) = λ j. sym (cell_by_columns rows p) j ∷ cells_are rows ps j

module _ (counts : List ℕ) (places : List Place) (kept : List (List Bool)) (marks : AreMarks counts places kept)
    (there : AllByRecursion (IsRow counts) places) (rows : List TableRow) (files : AreOfFiles counts 0 rows)
    (terms ordinals : List (List ℕ)) (merged : AreMerged kept rows terms ordinals) (sources : List Source)
    (are : AreTermSources (replicate (length counts) Nothing) (map (λ r. r.column) rows) ordinals sources) where
  abbrev rise : FilesRise counts 0 (map (λ (r : TableRow). r.column) rows)
  rise = files_rise counts 0 rows files

  abbrev here : AllByRecursion (IsKept counts places) places
  here = all_kept counts places there

  abbrev IsTyped : (List ℕ → ColumnValue) → Type 0
  IsTyped value = (at : ℕ) (c : FileColumn) → get_or (map (λ (r : TableRow). r.column) rows) at None ≡ Some c
      → HasTerms value (c.handle).column

  module _ (value : List ℕ → ColumnValue) (typed : IsTyped value) where
    pub sources_put : AllByRecursion (IsPut sources) places
    sources_put = all_put counts places kept marks rows rise terms ordinals merged value typed sources are places here

    numeric : AllByRecursion IsNumeric sources
    numeric = are_numeric counts places kept marks rows rise terms ordinals merged value typed sources are

    uses : UsesEach (length terms) (joined_numbers sources places)
    uses = uses_each counts places kept marks rows rise terms ordinals merged value typed sources are here

    values_are : map (map (λ n. value (get_or terms n []))) (joined_numbers sources places)
        ≡ cells (map row_of rows) places
    values_are =
        all_read counts places kept marks rows rise terms ordinals merged value typed sources are places here
        ∙ cells_are rows places

    abbrev ords : List (List ℕ)
    ords = joined_numbers sources places

    abbrev bytes : List ℕ
    bytes = column_bytes {T = List ℕ} (λ code. code) (joined sources places) ++ dictionary_bytes terms

    same_bytes : term_column_bytes ords terms ≡ bytes
    unfolding term_column_bytes
    same_bytes = ap (λ (l : List ℕ). l ++ dictionary_bytes terms) (sym (joined_bytes sources places numeric))

    as_many : length ords ≡ length places
    as_many = length-map places (λ (p : Place). row_numbers (get_or sources p.0 Nothing) p.1)

    module _ (few : total (joined sources places) < 2 ^ 64) (some : length terms < 2 ^ 64)
        (short : total terms < 2 ^ 64) where
      few_ords : total ords < 2 ^ 64
      few_ords = subst (λ (n : ℕ). n < 2 ^ 64) (joined_total sources places numeric) few

      abbrev read_back : TermColumn
      read_back = record { terms = terms; ords = ords }

      column_read : term_column_of (length places) bytes ≡ read_back
      column_read =
          (λ j. term_column_of (sym as_many j) (sym same_bytes j))
          ∙ term_column_read ords terms some short few_ords uses

      pub is_column : (type : ColumnType) → IsColumnOf type (length ords) (term_column_bytes ords terms)
          → IsColumnOf type (length places) bytes
      is_column type is =
          subst (λ (n : ℕ). IsColumnOf type n bytes) as_many
          (subst (IsColumnOf type (length ords)) same_bytes is)

      pub reads : terms_at value (term_column_of (length places) bytes).terms
          (term_column_of (length places) bytes).ords
          ≡ cells (map row_of rows) places
      reads = ap (λ (c : TermColumn). terms_at value c.terms c.ords) column_read ∙ values_are

      pub bytes_column : IsColumnOf Bytes (length places) bytes
      bytes_column = is_column Bytes (is_bytes_column ords terms some short few_ords uses merged.ascend)

      pub texts_column : All IsUtf8 terms → IsColumnOf Str (length places) bytes
      texts_column utf8 = is_column Str (is_str_column ords terms some short few_ords uses merged.ascend utf8)

  -- ---- by type

  module _ (out : List ℕ) (few : total (joined sources places) < 2 ^ 64) (some : length terms < 2 ^ 64)
      (short : total terms < 2 ^ 64) where
    pub column_added : (type : ColumnType) → IsTermType type → AllByRecursion (λ r. HasType type r.column) rows
        → (new : List ℕ)
        → new ≡ (out ++ column_bytes {T = List ℕ} (λ code. code) (joined sources places)) ++ dictionary_bytes terms
        → AddsMerged type (map row_of rows) places out new
    column_added Str is types new added =
        let typed : IsTyped text_value = λ at c e. texts_are (c.handle).column (type_at Str rows types at c e) in
        let utf8 : All IsUtf8 terms =
        merged.added.texts (All-from_recursion (λ (r : TableRow). HasTexts r.column) rows (all_texts rows types)) in
        record {
          bytes = bytes text_value typed;
          added = added ∙ append_assoc out (column_bytes {T = List ℕ} (λ code. code) (joined sources places))
              (dictionary_bytes terms);
          column = texts_column text_value typed few some short utf8;
          read = reads text_value typed few some short;
        }
    column_added Bytes is types new added =
        let typed : IsTyped bytes_value = λ at c e. bytes_are (c.handle).column (type_at Bytes rows types at c e) in
        record {
          bytes = bytes bytes_value typed;
          added = added ∙ append_assoc out (column_bytes {T = List ℕ} (λ code. code) (joined sources places))
              (dictionary_bytes terms);
          column = bytes_column bytes_value typed few some short;
          read = reads bytes_value typed few some short;
        }
    column_added _ is types new added = absurd is

  -- sources that can be put, whichever type
  pub all_put_by_type : (type : ColumnType) → IsTermType type → AllByRecursion (λ r. HasType type r.column) rows
      → AllByRecursion (IsPut sources) places
  all_put_by_type Str is types =
      sources_put text_value (λ at c e. texts_are (c.handle).column (type_at Str rows types at c e))
  all_put_by_type Bytes is types =
      sources_put bytes_value (λ at c e. bytes_are (c.handle).column (type_at Bytes rows types at c e))
  all_put_by_type _ is types = absurd is
