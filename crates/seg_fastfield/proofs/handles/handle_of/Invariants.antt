use Rattle.std.proofs.Common.{◌≡◌}
use Rattle.std.specs.Vec.Iter.{into_iter_items}
use Rattle.seg_model.specs.DocumentCheck.{first_of}
use Rattle.seg_fastfield.specs.OpenFastFields.{of_type}
use Rattle.seg_fastfield.proofs.handles.handle_of.Given as goal

-- the first one is among those that are left
abbrev pub invariant-loop-handle : goal.invariant-loop-handle
invariant-loop-handle l =
    first_of (of_type l.column_type) (into_iter_items l.handle-iterator) ≡ first_of (of_type l.column_type) l.fn.handles.items
