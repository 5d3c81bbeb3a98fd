use Rattle.std.proofs.Common.{true, ◌∙◌}
use Rattle.seg_common.specs.MappableValues.{lowered, raised}
use Rattle.seg_common.specs.MappableLaws.{raised-lowered}
use Rattle.seg_columns.proofs.StoredNumbers.{are_numbers, numbers_stand}
use Rattle.seg_columns.proofs.lenient.signed_numbers.Goals as goal

pub of_checked-requires : goal.of_checked-requires
of_checked-requires c = are_numbers (λ _. true) lowered raised (λ n always. raised-lowered n) c.args.num_docs c.args.bytes c.requires

pub returns : goal.returns
returns c = c.of_checked.ensures
    ∙ numbers_stand (λ _. true) lowered raised (λ n always. raised-lowered n) c.args.num_docs c.args.bytes c.requires
