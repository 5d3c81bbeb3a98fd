use Rattle.std.proofs.Common.{◌≡◌, sym, ap, ◌∙◌, rules}
use Rattle.std.specs.Prelude.{Bool, Option, Some, None, false, if◌then◌else◌}
use Rattle.std.proofs.lemmas.Result.{MatchResult-weaker}
use Rattle.seg_common.specs.declared.column_type.ColumnType.{ColumnType}
use Rattle.seg_column_merge.specs.Cells.{is_absent}
use Rattle.seg_column_merge.specs.MergedBytes.{places_of}
use Rattle.seg_column_merge_parts.specs.Tables.{column_in}
use Rattle.seg_column_merge.proofs.MergedTypes.{number_decides, present_is, value_decides}
use Rattle.seg_column_merge.proofs.RowFiles.{all_have_rows}
use Rattle.seg_column_merge.proofs.decisions.merged_type.Goals as goal

pub number_range-requires : goal.number_range-requires
number_range-requires c =
    let merge = c.args.merge.now in
    all_have_rows merge.counts.now (places_of merge) merge.kept.now c.requires.merge.marks c.args.rows.now
    c.requires.rows.files

pub any_kept_value-requires : goal.any_kept_value-requires
any_kept_value-requires c =
    let merge = c.args.merge.now in
    all_have_rows merge.counts.now (places_of merge) merge.kept.now c.requires.merge.marks c.args.rows.now
    c.requires.rows.files

pub returns-then-is_number_type : goal.returns-then-is_number_type
returns-then-is_number_type c =
    let merge = c.args.merge.now in
    let r = c.index-rows-0.result in
    let present : is_absent (column_in r.column) ≡ false = present_is r.column (search rules) in
    let same = number_decides merge.counts.now (places_of merge) merge.kept.now c.requires.merge.marks c.args.rows.now
    c.requires.rows r c.requires.some c.index-rows-0.is present (sym c.is_number_type.ensures
    ∙ c.if-is_number_type.true)
    c.number_range.result c.number_range.ensures in
    MatchResult-weaker c.free_number_type.result c.free_number_type.ensures (λ t h. sym same ∙ h)
    (λ e h. (h.0, sym same ∙ h.1))

pub returns-then-any_kept_value : goal.returns-then-any_kept_value
returns-then-any_kept_value c =
    let merge = c.args.merge.now in
    let r = c.index-rows-0.result in
    let present : is_absent (column_in r.column) ≡ false = present_is r.column (search rules) in
    let nothing : Option ColumnType = None in
    value_decides merge.counts.now (places_of merge) merge.kept.now c.requires.merge.marks c.args.rows.now
    c.requires.rows r c.requires.some c.index-rows-0.is present (sym c.is_number_type.ensures
    ∙ c.if-is_number_type.false)
    c.any_kept_value.result c.any_kept_value.ensures
    ∙ ap (λ (b : Bool). if b then Some (Some r.column_type) else Some nothing) c.if-any_kept_value.true

pub returns : goal.returns
returns c =
    let merge = c.args.merge.now in
    let r = c.index-rows-0.result in
    let present : is_absent (column_in r.column) ≡ false = present_is r.column (search rules) in
    let nothing : Option ColumnType = None in
    value_decides merge.counts.now (places_of merge) merge.kept.now c.requires.merge.marks c.args.rows.now
    c.requires.rows r c.requires.some c.index-rows-0.is present (sym c.is_number_type.ensures
    ∙ c.if-is_number_type.false)
    c.any_kept_value.result c.any_kept_value.ensures
    ∙ ap (λ (b : Bool). if b then Some (Some r.column_type) else Some nothing) c.if-any_kept_value.false
