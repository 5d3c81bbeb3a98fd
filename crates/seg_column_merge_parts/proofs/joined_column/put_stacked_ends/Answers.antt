use Rattle.std.proofs.Common.{◌<◌, ◌≤◌, ◌^◌, ◌++◌, ℕ, length, subst, arith}
use Rattle.seg_column_format.specs.ColumnBytes.{ends_from, number_bytes, total}
use Rattle.seg_column_file.specs.RowOrders.{stacked}
use Rattle.seg_column_merge_parts.specs.SourceRows.{joined}
use Rattle.seg_column_merge_parts.proofs.FirstRows.{left_files, puts_file}
use Rattle.seg_column_merge_parts.proofs.RowEnds.{all_counted, all_ends, ends_of_file, total_of_file}
use Rattle.seg_column_merge_parts.proofs.joined_column.put_stacked_ends.Goals as goal

pub put_file_ends-requires : goal.put_file_ends-requires
put_file_ends-requires c =
    let counts = c.args.counts.now in
    let lt : c.loop-file.file < length counts = omega (arith, c.loop-file-test.true) in
    puts_file c.args.sources.now counts c.loop-file.file lt c.loop-file.invariant.left

pub loop-file-preserved : goal.loop-file-preserved
loop-file-preserved c =
    let counts = c.args.counts.now in
    let sources = c.args.sources.now in
    let file = c.loop-file.file in
    let so_far = c.loop-file.invariant in
    let adds = c.in_ok-end.ensures in
    let lt : file < length counts = omega (arith, c.loop-file-test.true) in
    record {
      left = left_files sources counts file lt so_far.left;
      all = ends_of_file sources counts file lt _ _ c.loop-file.out.items c.put_file_ends.new.out.items
          (c.args.out.now.items ++ number_bytes (ends_from 0 (joined sources (stacked 0 counts)))) adds so_far.all;
      sum = total_of_file sources counts file lt _ _ (total (joined sources (stacked 0 counts))) c.loop-file.out.items
          c.put_file_ends.new.out.items adds so_far.sum;
      fits = adds.fits;
    }

pub returns : goal.returns
returns c =
    let counts = c.args.counts.now in
    let sources = c.args.sources.now in
    let file = c.loop-file.file in
    let so_far = c.loop-file.invariant in
    let last : length counts ≤ file = omega (arith, c.loop-file-test.false) in
    record {
      ok = all_ends sources counts file last c.loop-file.end c.loop-file.out.items
          (c.args.out.now.items ++ number_bytes (ends_from 0 (joined sources (stacked 0 counts)))) so_far.all;
      few = subst (λ (n : ℕ). n < 2 ^ 64)
          (all_counted sources counts file last c.loop-file.end (total (joined sources (stacked 0 counts))) so_far.sum)
          so_far.fits;
    }
