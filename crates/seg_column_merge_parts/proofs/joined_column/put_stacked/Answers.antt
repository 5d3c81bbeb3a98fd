use Rattle.std.proofs.Common.{◌<◌, ◌++◌, length, arith}
use Rattle.seg_column_file.specs.RowOrders.{stacked}
use Rattle.seg_column_merge_parts.specs.SourceRows.{joined}
use Rattle.seg_column_merge_parts.proofs.FirstRows.{left_files, no_more_files, one_more_file, puts_file, row_bytes}
use Rattle.seg_column_merge_parts.proofs.joined_column.put_stacked.Goals as goal

pub put_file-requires : goal.put_file-requires
put_file-requires c =
    let counts = c.args.counts.now in
    let lt : c.loop-file.file < length counts = omega (arith, c.loop-file-test.true) in
    puts_file c.args.sources.now counts c.loop-file.file lt c.loop-file.invariant.left

pub loop-file-preserved : goal.loop-file-preserved
loop-file-preserved c =
    let counts = c.args.counts.now in
    let sources = c.args.sources.now in
    let file = c.loop-file.file in
    let lt : file < length counts = omega (arith, c.loop-file-test.true) in
    record {
      left = left_files sources counts file lt c.loop-file.invariant.left;
      all = one_more_file sources counts file lt c.loop-file.out.items c.put_file.new.out.items
          (c.args.out.now.items ++ row_bytes (joined sources (stacked 0 counts))) c.in_ok-put_file.ensures
          c.loop-file.invariant.all;
    }

pub returns : goal.returns
returns c =
    no_more_files c.args.sources.now c.args.counts.now c.loop-file.file c.loop-file.out.items
    (c.args.out.now.items ++ row_bytes (joined c.args.sources.now (stacked 0 c.args.counts.now)))
    (omega (arith, c.loop-file-test.false)) c.loop-file.invariant.all
