use Rattle.std.proofs.Common.{arith}
use Rattle.seg_directory.proofs.CompositeEntries.{first_entry, later_entry}
use Rattle.seg_directory.proofs.composite_file.entry_range.Goals as goal

pub returns-then-place-eq0 : goal.returns-then-place-eq0
returns-then-place-eq0 c = first_entry c.args.count c.args.table.now c.args.place c.args.total c.u64_at-end.result c.requires.good c.requires.place c.if-place-eq0.true c.u64_at-end.ensures

pub returns-else-place-eq0 : goal.returns-else-place-eq0
returns-else-place-eq0 c = later_entry c.args.count c.args.table.now c.args.place c.args.total c.u64_at-start.result c.u64_at-end.result c.requires.good c.requires.place (omega (arith, c.if-place-eq0.false)) c.u64_at-start.ensures c.u64_at-end.ensures
