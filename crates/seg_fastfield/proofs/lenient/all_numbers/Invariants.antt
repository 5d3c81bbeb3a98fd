use Rattle.std.proofs.Common.{◌≡◌, ◌++◌, drop, filter_map}
use Rattle.seg_fastfield.specs.OpenFastFields.{lenient}
use Rattle.seg_fastfield.proofs.lenient.all_numbers.Given as goal

-- those so far, with those of the columns that are left, are all
abbrev pub invariant-loop-handle : goal.invariant-loop-handle
invariant-loop-handle l =
    l.all.items ++ filter_map (lenient l.types) (drop l.handle-index l.handles) ≡ filter_map (lenient l.types) l.handles
