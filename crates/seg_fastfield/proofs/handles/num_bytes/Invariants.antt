use Rattle.std.proofs.Common.{◌≡◌, ◌+◌, ◌<◌, ◌^◌, ◌-◌, drop, min, sum_by}
use Rattle.seg_fastfield.specs.OpenFastFields.{bytes_in}
use Rattle.seg_fastfield.proofs.handles.num_bytes.Given as goal

-- the bytes so far, with those of the columns that are left, are all
abbrev pub invariant-loop-handle : goal.invariant-loop-handle
invariant-loop-handle l = record {
  all : min (2 ^ 64 - 1) (l.total + sum_by (λ c. c.size) (drop l.handle-index l.handles)) ≡ bytes_in l.handles;
  fits : l.total < 2 ^ 64;
}
