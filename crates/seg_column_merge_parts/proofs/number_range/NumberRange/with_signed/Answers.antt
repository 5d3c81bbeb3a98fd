use Rattle.std.proofs.Common.{[], cond, false, get_or, ap, sym, ◌∙◌, arith}
use Rattle.seg_column_merge_parts.specs.NumberRanges.{with_all, with_signed}
use Rattle.seg_column_merge_parts.proofs.KeptRowValues.{with_row, with_last}
use Rattle.seg_column_merge_parts.proofs.number_range.NumberRange.with_signed.Goals as goal

pub loop-row-preserved : goal.loop-row-preserved
loop-row-preserved c =
    let kept = c.args.kept.now in
    let row = c.loop-row.row in
    with_row with_signed kept c.args.column.now row c.loop-row.range c.with_signed_row-range.result false []
    (omega (arith, c.loop-row-test.true, c.num_docs-row-end.ensures, c.requires)) c.requires
    (c.with_signed_row-range.ensures
    ∙ ap (λ values. with_all with_signed c.loop-row.range (cond (get_or kept row false) values []))
    c.values_for_doc.ensures)
    ∙ c.loop-row.invariant

pub returns : goal.returns
returns c =
    sym (with_last with_signed c.args.kept.now c.args.column.now c.loop-row.row c.loop-row.range
    (omega (arith, c.loop-row-test.false, c.num_docs-row-end.ensures, c.requires)))
    ∙ c.loop-row.invariant
