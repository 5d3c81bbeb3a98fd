use Rattle.seg_column_file.proofs.Exports.{on_ok_so}
use Rattle.seg_column_merge_parts.proofs.HeadCalls.{goes_on, next_within}
use Rattle.seg_column_merge_parts.proofs.dictionaries.begin.Goals as goal

pub push_head-requires : goal.push_head-requires
push_head-requires c =
    next_within c.args.column.now 0 c.next_used.result c.next_used.ensures c.are_marked.ensures.long

pub returns : goal.returns
returns c =
    on_ok_so c.push_head.result c.push_head.ensures
    (goes_on c.args.column.now 0 c.args.place c.next_used.result c.args.heads.now c.push_head.new.heads
    c.next_used.ensures c.are_marked.ensures.ascend c.are_marked.ensures.long)
