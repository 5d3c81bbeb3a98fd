use Rattle.std.proofs.Common.{sym, ◌∙◌, arith}
use Rattle.seg_directory.proofs.CompositeTables.{composite-cut, composite-by, IsSplit}
use Rattle.seg_directory.proofs.composite_file.checked_count.Goals as goal

pub returns-then-bytes-lt-COUNT : goal.returns-then-bytes-lt-COUNT
returns-then-bytes-lt-COUNT c = composite-cut c.args.bytes.now (omega arith)

pub returns-then-bytes-tail : goal.returns-then-bytes-tail
returns-then-bytes-tail c = composite-cut c.args.bytes.now (omega arith)

pub returns-then-is_table : goal.returns-then-is_table
returns-then-is_table c =
    let s : IsSplit c.args.bytes.now c.split_at.result.1.now c.u32_at-count.result = record { count = c.u32_at-count.ensures; long = c.if-bytes-tail.false; table_is = c.split_at.ensures.back } in
    (composite-by _ _ _ s ∙ sym c.is_table.ensures ∙ c.if-is_table.true, c.u32_at-count.ensures)

pub returns-else-is_table : goal.returns-else-is_table
returns-else-is_table c =
    let s : IsSplit c.args.bytes.now c.split_at.result.1.now c.u32_at-count.result = record { count = c.u32_at-count.ensures; long = c.if-bytes-tail.false; table_is = c.split_at.ensures.back } in
    composite-by _ _ _ s ∙ sym c.is_table.ensures ∙ c.if-is_table.false
