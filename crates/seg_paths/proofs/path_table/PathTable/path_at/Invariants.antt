use Rattle.std.proofs.Common.{◌≡◌, [], ◌++◌, reverse, slice_index_or}
use Rattle.seg_paths.specs.Paths.{IsAbove, slot_of, up}
use Rattle.seg_paths.proofs.path_table.PathTable.path_at.Given as goal

-- the path of the place, with what is after it, is the whole
abbrev pub invariant-loop-place : goal.invariant-loop-place
invariant-loop-place l = record {
  within : IsAbove l.self l.place;
  whole : up l.self l.place ++ reverse l.reversed.items ≡ slice_index_or l.self l.number [];
}

abbrev pub decreases-loop-place : goal.decreases-loop-place
decreases-loop-place l = slot_of l.place
