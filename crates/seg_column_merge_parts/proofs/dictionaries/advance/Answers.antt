use Rattle.std.proofs.Common.{◌+◌, arith}
use Rattle.seg_column_file.proofs.Exports.{on_ok_so}
use Rattle.seg_column_merge_parts.proofs.HeadCalls.{goes_on, next_within}
use Rattle.seg_column_merge_parts.proofs.dictionaries.advance.Goals as goal

pub used_after-requires : goal.used_after-requires
used_after-requires c = omega (arith, c.requires, c.are_marked.ensures.long)

pub push_head-requires : goal.push_head-requires
push_head-requires c =
    next_within c.args.column.now (c.args.ord + 1) c.used_after.result c.used_after.ensures c.are_marked.ensures.long

pub returns : goal.returns
returns c =
    on_ok_so c.push_head.result c.push_head.ensures
    (goes_on c.args.column.now (c.args.ord + 1) c.args.place c.used_after.result c.args.heads.now c.push_head.new.heads
    c.used_after.ensures c.are_marked.ensures.ascend c.are_marked.ensures.long)
