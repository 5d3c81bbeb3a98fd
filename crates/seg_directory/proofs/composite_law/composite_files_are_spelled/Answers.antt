use Rattle.std.proofs.Common.{arith}
use Rattle.seg_directory.proofs.CompositeBytes.{spelled-read, reads_spelled}
use Rattle.seg_directory.proofs.composite_law.composite_files_are_spelled.Goals as goal

pub returns : goal.returns
returns c parts = (
  λ read. reads_spelled c.args.bytes.now parts (λ i. omega (arith, c.type_inv.bytes i)) (omega arith) read,
  λ spelled. spelled-read c.args.bytes.now parts spelled,
)
