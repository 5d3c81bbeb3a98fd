use Rattle.std.proofs.Common.{sym, arith}
use Rattle.seg_column_format.proofs.FilledColumns.{none_filled}
use Rattle.seg_column_format.proofs.values.is_used.Goals as goal

pub returns : goal.returns
returns g c = sym (none_filled c.args.column.now c.loop-doc.doc
    (omega (arith, c.loop-doc-test.false, c.num_docs-doc-end.ensures)) c.loop-doc.invariant)
