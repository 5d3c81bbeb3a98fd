use Rattle.std.proofs.Common.{◌≡◌}
use Rattle.seg_columns.specs.Ends.{EndsRise, start_at}
use Rattle.seg_columns.proofs.ends.ends_rise.Given as goal

abbrev pub invariant-loop-part : goal.invariant-loop-part
invariant-loop-part l = record {
  before : l.before ≡ start_at l.ends l.part;
  rise : EndsRise l.ends l.part;
}
