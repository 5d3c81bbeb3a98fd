use Rattle.std.proofs.Common.{◌≡◌, ◌++◌, drop}
use Rattle.seg_postings.specs.PostingsBytes.{positions_after}
use Rattle.seg_postings.specs.WritablePostings.{Rise}
use Rattle.seg_postings.proofs.field_serializer.set_positions.Given as goal

-- what is so far, with what is left, is all
abbrev pub invariant-loop-delta : goal.invariant-loop-delta
invariant-loop-delta l =
    let left = positions_after l.position (drop l.delta-index l.deltas) in
    record { all : l.positions.items ++ left ≡ positions_after 0 l.deltas; rise : Rise l.position left }
