use Rattle.std.proofs.Common.{◌≡◌, drop}
use Rattle.seg_model.specs.DocumentCheck.{first_of}
use Rattle.seg_fastfield.specs.OpenFastFields.{bytes_column}
use Rattle.seg_fastfield.proofs.typed_columns.first_byte_strings.Given as goal

-- the first one is among those that are left
abbrev pub invariant-loop-handle : goal.invariant-loop-handle
invariant-loop-handle l =
    first_of (λ c. bytes_column c.column) (drop l.handle-index l.handles) ≡ first_of (λ c. bytes_column c.column) l.handles
