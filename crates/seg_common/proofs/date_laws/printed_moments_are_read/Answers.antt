use Rattle.seg_common.proofs.PrintedDates.{printed_moments_are_read}
use Rattle.seg_common.proofs.date_laws.printed_moments_are_read.Goals as goal

pub returns : goal.returns
returns c = printed_moments_are_read
