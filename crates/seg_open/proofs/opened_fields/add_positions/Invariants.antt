use Rattle.std.proofs.Common.{◌≡◌, ℕ, Option, Some, length}
use Rattle.std.specs.List.{slice_get}
use Rattle.seg_postings.specs.OpenedFields.{FirstParts, OpenField}
use Rattle.seg_open.specs.OpenedTermFiles.{AddsPositions, GoesOn}
use Rattle.seg_open.proofs.opened_fields.add_positions.Given as goal

-- this many fields are open
abbrev pub invariant-loop-place : goal.invariant-loop-place
invariant-loop-place l = record {
  number : length l.opened.items ≡ l.place;
  each : (field : ℕ) (x : Option FirstParts) (y : Option OpenField) → slice_get l.fields field ≡ Some x → slice_get l.opened.items field ≡ Some y → GoesOn (AddsPositions l.parts field) x y;
}
