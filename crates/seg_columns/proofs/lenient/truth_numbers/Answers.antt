use Rattle.std.proofs.Common.{◌∙◌}
use Rattle.seg_common.specs.MappableValues.{bit, is_bit, is_one}
use Rattle.seg_columns.proofs.StoredNumbers.{are_numbers, bit-is_one, numbers_stand}
use Rattle.seg_columns.proofs.lenient.truth_numbers.Goals as goal

pub of_checked-requires : goal.of_checked-requires
of_checked-requires c = are_numbers is_bit is_one bit bit-is_one c.args.num_docs c.args.bytes c.requires

pub returns : goal.returns
returns c = c.of_checked.ensures ∙ numbers_stand is_bit is_one bit bit-is_one c.args.num_docs c.args.bytes c.requires
