use Rattle.std.proofs.Common.{◌≡◌, ◌+◌, ◌^◌, ◌<◌, ◌≤◌, drop}
use Rattle.seg_common.specs.DateDigits.{parts_of}
use Rattle.seg_common.proofs.date_numeral.nanos_of.Given as goal

abbrev pub invariant-loop-digit : goal.invariant-loop-digit
invariant-loop-digit l = record {
  value : l.nanos + parts_of l.unit (drop l.digit-index l.digits) ≡ parts_of (10 ^ 9) l.digits;
  bound : l.nanos < 10 ^ 9;
  room : l.nanos + l.unit ≤ 10 ^ 9;
}
