-- The columns of segments are merged by the rows of documents that are alive.
use Rattle.std.proofs.Common.{◌≡◌, ◌∙◌, ℕ, ◌+◌, ◌-◌, ◌<◌, ◌^◌, Bool, true, false, List, [], ◌∷◌, ◌++◌, Option, length, map, refl, sym, ap, subst, arith, length-append}
use Rattle.std.specs.Prelude.{cond}
use Rattle.std.specs.List.{AllByRecursion, list_all, range_with_len}
use Rattle.std.proofs.lemmas.Bool.{and_parts}
use Rattle.std.proofs.lemmas.List.{length-map, map-append}
use Rattle.std.proofs.lemmas.List.FromFn.{length-range_with_len}
use Rattle.std.proofs.lemmas.Simd.{map-map}
use Rattle.seg_bits.specs.BitSets.{numbers_from}
use Rattle.seg_columns.specs.declared.error.ColumnError.{ColumnError}
use Rattle.seg_column_file.specs.ColumnFiles.{ColumnFile, column_file_of}
use Rattle.seg_column_file.specs.declared.row_addr.RowAddr.{RowAddr}
use Rattle.seg_column_format.specs.ModelColumns.{columns_in}
use Rattle.seg_column_format.specs.SchemaColumns.{SuitColumns}
use Rattle.seg_column_file.specs.RowOrders.{Place, place_of, rows_from, rows_in_order, stacked}
use Rattle.seg_column_file.specs.declared.row_order.MergeRowOrder.{MergeRowOrder}
use Rattle.seg_column_merge.specs.MergedColumns.{CanMerge, IsMerged, MergeFails, merged_columns}
use Rattle.seg_column_merge.specs.LiveColumns.{HasColumnsOf, HaveColumnsOf, live_rows}
use Rattle.seg_model.specs.Columns.{ColumnKey, Columns, declared_columns}
use Rattle.seg_model.specs.Fields.{Schema}
use Rattle.seg_model.specs.Join.{joined_columns}
use Rattle.seg_model.specs.Operations.{kept}
use Rattle.seg_open.specs.OpenSegment.{IsOfSchema, OpenSegment, kept_count, part_of}
use Rattle.seg_merger.specs.declared.doc_id_mapping.MappingType.TheVariants.{Stacked}
use Rattle.seg_merger.specs.DocIdMapping.{all_alive, live_places, places_in, type_of}
use Rattle.seg_merger.specs.JoinedColumns.{HasJoinedColumns, HasOwnColumns}
use Rattle.seg_merger.proofs.MovedIds.{kept_counted}

-- ---- the rows

pub in_order : (number : ℕ) (parts : List OpenSegment) → map place_of (live_places number parts) ≡ live_rows number (map part_of parts)
in_order number [] = refl
in_order number (p ∷ ps) =
    let address : ℕ → RowAddr = λ id. record { segment_ord = number; row_id = id } in
    map-append place_of (places_in number p.alive) (live_places (number + 1) ps)
    ∙ ap (λ rows. rows ++ map place_of (live_places (number + 1) ps)) (map-map place_of address (numbers_from 0 p.alive))
    ∙ ap (λ rows. map (λ row. (number, row)) (numbers_from 0 p.alive) ++ rows) (in_order (number + 1) ps)

pub as_many : (number : ℕ) (parts : List OpenSegment) → length (live_rows number (map part_of parts)) ≡ kept_count parts
as_many number [] = refl
as_many number (p ∷ ps) =
    let ids = range_with_len 0 (length p.alive) in
    let place : ℕ → Place = λ row. (number, row) in
    let both = length-append (map place (kept p.alive ids)) (live_rows (number + 1) (map part_of ps)) in
    let first = length-map (kept p.alive ids) place in
    let one = kept_counted p.alive ids (sym (length-range_with_len 0 (length p.alive))) in
    let rest = as_many (number + 1) ps in
    omega (arith, both, first, one, rest)

-- ---- the columns

has_columns : (schema : Schema) (p : OpenSegment) → IsOfSchema schema p → HasOwnColumns p → HasColumnsOf schema p.columns (part_of p)
has_columns schema p is own =
    let suit : SuitColumns schema p.documents (columns_in p.columns) = record {
      declared = is.1.declared;
      free = is.1.free;
      rows = is.1.rows;
      one_number_type = is.1.one_number_type;
    } in
    record {
      of_file = own.of_file;
      columns = refl;
      documents = sym own.rows;
      marked = own.marked ∙ sym own.rows;
      suit = subst (λ (n : ℕ). SuitColumns schema n (columns_in p.columns)) (sym own.rows) suit;
    }

abbrev columnars : List OpenSegment → List ColumnFile
columnars parts = map (λ p. p.columns) parts

pub have_columns : (schema : Schema) (parts : List OpenSegment) → AllByRecursion (IsOfSchema schema) parts → AllByRecursion HasOwnColumns parts → HaveColumnsOf schema (columnars parts) (map part_of parts)
have_columns schema [] are own = tt
have_columns schema (p ∷ ps) are own = (has_columns schema p are.0 own.0, have_columns schema ps are.1 own.1)

pub few_rows : (parts : List OpenSegment) → kept_count parts < 2 ^ 31 → length (live_rows 0 (map part_of parts)) < 2 ^ 32
few_rows parts few = let many = as_many 0 parts in omega (arith, many, few)

-- ---- where all are alive, their files are stacked

pub is_stacked : (b : Bool) → type_of b ≡ Stacked → b ≡ true
is_stacked true e = refl
is_stacked false e = cc

all_marked : {X : Type 0} (marks : List Bool) (xs : List X) → length marks ≡ length xs → list_all (λ b. b) marks ≡ true → kept marks xs ≡ xs
all_marked [] [] long all = refl
all_marked [] (x ∷ xs) long all = absurd (omega (arith, long))
all_marked (b ∷ bs) [] long all = refl
all_marked (b ∷ bs) (x ∷ xs) long all =
    let parts = and_parts b (list_all (λ c. c) bs) all in
    ap (λ c. cond c (x ∷ kept bs xs) (kept bs xs)) parts.0
    ∙ ap (λ ys. x ∷ ys) (all_marked bs xs (omega (arith, long)) parts.1)

pub all_stacked : (number : ℕ) (parts : List OpenSegment) → AllByRecursion HasOwnColumns parts → all_alive parts ≡ true → stacked number (map (λ f. f.rows) (columnars parts)) ≡ live_rows number (map part_of parts)
all_stacked number [] own alive = refl
all_stacked number (p ∷ ps) own alive =
    let parts = and_parts (list_all (λ b. b) p.alive) (all_alive ps) alive in
    let place : ℕ → Place = λ row. (number, row) in
    let ids = range_with_len 0 (length p.alive) in
    let rows : p.columns.rows - 0 ≡ length p.alive = omega (arith, own.0.rows, own.0.marked) in
    let here : rows_from number 0 p.columns.rows ≡ map place (kept p.alive ids) =
    ap (λ n. map place (range_with_len 0 n)) rows
    ∙ ap (map place) (sym (all_marked p.alive ids (sym (length-range_with_len 0 (length p.alive))) parts.0)) in
    λ i. here i ++ all_stacked (number + 1) ps own.1 parts.1 i

-- the rows of files that are those of segments
pub alive_rows : (parts : List OpenSegment) (files : List ColumnFile) (order : MergeRowOrder) → files ≡ columnars parts
    → rows_in_order (map (λ f. f.rows) (columnars parts)) order ≡ live_rows 0 (map part_of parts)
    → rows_in_order (map (λ f. f.rows) files) order ≡ live_rows 0 (map part_of parts)
alive_rows parts files order read alive =
    ap (λ (fs : List ColumnFile). rows_in_order (map (λ f. f.rows) fs) order) read ∙ alive

-- ---- what a merge of them makes

module _ (schema : Schema) (parts : List OpenSegment) (required : List ColumnKey) (files : List ColumnFile) (places : List Place) (declared : required ≡ declared_columns schema) (read : files ≡ columnars parts) (alive : places ≡ live_rows 0 (map part_of parts)) where
  pub may_merge : CanMerge (declared_columns schema) (columnars parts) (live_rows 0 (map part_of parts)) → CanMerge required files places
  may_merge can =
      subst (λ (keys : List ColumnKey). CanMerge keys files places) (sym declared)
      (subst (λ (fs : List ColumnFile). CanMerge (declared_columns schema) fs places) (sym read)
      (subst (λ (ps : List Place). CanMerge (declared_columns schema) (columnars parts) ps) (sym alive) can))

  module _ (law : merged_columns (declared_columns schema) (columnars parts) (live_rows 0 (map part_of parts)) ≡ joined_columns schema (map part_of parts)) where
    same : merged_columns required files places ≡ joined_columns schema (map part_of parts)
    same = (λ i. merged_columns (declared i) (read i) (alive i)) ∙ law

    pub has_joined : (file : List ℕ) → IsMerged required files places file → HasJoinedColumns schema parts file
    has_joined file merged = record {
      columns = columns_in (column_file_of file);
      joined = sym same ∙ merged.columns;
      have = record { file = merged.file; rows = merged.rows ∙ ap length alive ∙ as_many 0 parts; are = refl };
    }

    pub fails : (error : ColumnError) → MergeFails (merged_columns required files places) error → MergeFails (joined_columns schema (map part_of parts)) error
    fails error h = subst (λ (o : Option Columns). MergeFails o error) same h
