use Rattle.std.proofs.Common.{◌≡◌, ℕ, Option, Some, length}
use Rattle.std.specs.List.{slice_get}
use Rattle.seg_postings.specs.OpenedFields.{FirstPart, FirstParts}
use Rattle.seg_open.specs.OpenedTermFiles.{AddsPostings, GoesOn}
use Rattle.seg_open.proofs.opened_postings.add_postings.Given as goal

-- this many fields have their postings
abbrev pub invariant-loop-place : goal.invariant-loop-place
invariant-loop-place l = record {
  number : length l.opened.items ≡ l.place;
  each : (field : ℕ) (x : Option FirstPart) (y : Option FirstParts) → slice_get l.fields field ≡ Some x → slice_get l.opened.items field ≡ Some y → GoesOn (AddsPostings l.parts field) x y;
}
