use Rattle.std.proofs.Common.{arith}
use Rattle.seg_column_merge.proofs.GroupSteps.{whole_file}
use Rattle.seg_column_merge.proofs.merged_file.MergedFile.finish.Goals as goal

pub returns : goal.returns
returns c = λ columns is. (
  whole_file columns c.args.self c.args.num_rows c.as_slice.result.now c.put_table.new.out.items is
      c.as_slice.ensures.value c.in_ok-put_table.ensures,
  omega (arith, c.len-length.ensures),
)
