use Rattle.std.proofs.Common.{◌≡◌, drop}
use Rattle.seg_model.specs.DocumentCheck.{first_of}
use Rattle.seg_fastfield.specs.OpenFastFields.{lenient}
use Rattle.seg_fastfield.proofs.lenient.first_numbers.Given as goal

-- the first one is among those that are left
abbrev pub invariant-loop-handle : goal.invariant-loop-handle
invariant-loop-handle l = first_of (lenient l.types) (drop l.handle-index l.handles) ≡ first_of (lenient l.types) l.handles
