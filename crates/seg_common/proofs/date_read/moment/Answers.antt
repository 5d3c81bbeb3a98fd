use Rattle.std.proofs.Common.{arith}
use Rattle.jiff_core.proofs.SignedLemmas.{signed_arith}
use Rattle.seg_common.specs.ParsedDates.{utc_nanos}
use Rattle.seg_common.proofs.ParsedDates.{moment_told, moment_lost}
use Rattle.seg_common.proofs.date_read.moment.Goals as goal

pub returns-in-Ok : goal.returns-in-Ok
returns-in-Ok c =
    moment_told c.from_timestamp_nanos.result c.in-Ok.nanos _ (utc_nanos c.args.day c.args.seconds c.args.nanos c.args.offset) c.from_timestamp_nanos.ensures c.in-Ok.ensures
    (omega (arith, signed_arith, c.from.ensures, c.from-2.ensures, c.from-3.ensures))

pub returns-in-Err : goal.returns-in-Err
returns-in-Err c =
    moment_lost _ (utc_nanos c.args.day c.args.seconds c.args.nanos c.args.offset) c.in-Err.ensures
    (omega (arith, signed_arith, c.from.ensures, c.from-2.ensures, c.from-3.ensures))
