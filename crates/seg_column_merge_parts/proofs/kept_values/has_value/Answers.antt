use Rattle.std.proofs.Common.{◌<◌, ◌≤◌, [], Bool, false, ◌||◌, ◌+◌, length, drop, ap, sym, ◌∙◌, arith}
use Rattle.std.specs.List.{list_any}
use Rattle.seg_column_merge_parts.specs.KeptColumns.{there}
use Rattle.seg_column_file.specs.KeptRows.{kept_values}
use Rattle.seg_column_merge_parts.proofs.KeptRowValues.{last_kept, there_from}
use Rattle.seg_column_merge_parts.proofs.kept_values.has_value.Goals as goal

pub loop-row-preserved : goal.loop-row-preserved
loop-row-preserved g c =
    let kept = c.args.kept.now in
    let rows = c.args.column.now in
    let row = c.loop-row.row in
    let rest : Bool = list_any there (kept_values (drop (row + 1) kept) (drop (row + 1) rows)) in
    let lt : row < length kept = omega (arith, c.loop-row-test.true, c.num_docs-row-end.ensures, c.requires) in
    sym (there_from kept rows row false [] lt c.requires
    ∙ ap (λ (b : Bool). b || rest) (sym c.row_has_value-found.ensures ∙ c.if-found.false))
    ∙ c.loop-row.invariant

pub returns-then-found : goal.returns-then-found
returns-then-found g c =
    let kept = c.args.kept.now in
    let rows = c.args.column.now in
    let row = c.loop-row.row in
    let rest : Bool = list_any there (kept_values (drop (row + 1) kept) (drop (row + 1) rows)) in
    let lt : row < length kept = omega (arith, c.loop-row-test.true, c.num_docs-row-end.ensures, c.requires) in
    sym (sym c.loop-row.invariant ∙ there_from kept rows row false [] lt c.requires
    ∙ ap (λ (b : Bool). b || rest) (sym c.row_has_value-found.ensures ∙ c.if-found.true))

pub returns : goal.returns
returns g c =
    let le : length c.args.kept.now ≤ c.loop-row.row =
    omega (arith, c.loop-row-test.false, c.num_docs-row-end.ensures, c.requires) in
    sym (ap (list_any there) (last_kept c.args.kept.now c.args.column.now c.loop-row.row le)) ∙ c.loop-row.invariant
