use Rattle.std.proofs.Common.{◌≤◌, length}
use Rattle.seg_surface.proofs.samples.fields.schema.Given as goal

abbrev pub invariant-loop-place : goal.invariant-loop-place
invariant-loop-place l = length l.builder ≤ l.place
