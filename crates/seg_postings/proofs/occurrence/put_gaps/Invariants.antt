use Rattle.std.proofs.Common.{◌≡◌, ◌++◌, drop, length, take}
use Rattle.std.specs.List.{flat_map}
use Rattle.seg_common.specs.Varint.{varint}
use Rattle.seg_postings.specs.PostingsBytes.{differences}
use Rattle.seg_postings.specs.WritablePostings.{Rise}
use Rattle.seg_postings.proofs.occurrence.put_gaps.Given as goal

-- what is so far, with what is left, is all
abbrev pub invariant-loop-place : goal.invariant-loop-place
invariant-loop-place l = record {
  all : l.positions.items ++ flat_map varint (differences l.before (drop l.place-index l.places)) ≡ l.fn.positions.items ++ flat_map varint (differences 0 l.places);
  begins : take (length l.fn.positions.items) l.positions.items ≡ l.fn.positions.items;
  rise : Rise l.before (drop l.place-index l.places);
}
