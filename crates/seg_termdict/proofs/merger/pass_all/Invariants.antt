use Rattle.std.proofs.Common.{◌≡◌, ◌++◌, map, length}
use Rattle.std.specs.List.{AllByRecursion}
use Rattle.seg_termdict.specs.MergerHeap.{AreFronts}
use Rattle.seg_termdict.specs.MergedStreams.{Ascends, NotBelow, behind, info_of, ord_of, standings_first}
use Rattle.seg_termdict.proofs.merger.pass_all.Given as goal

-- what was noted and has gone on, with what is left, is all
abbrev pub invariant-loop-segment : goal.invariant-loop-segment
invariant-loop-segment l = record {
  fronts : AreFronts l.fronts l.heads.items;
  order : AllByRecursion Ascends l.heads.items;
  low : AllByRecursion (NotBelow l.key) l.heads.items;
  ords : l.ords.items ++ map ord_of (standings_first 0 l.key l.heads.items) ≡ l.initial.ords.items ++ map ord_of (standings_first 0 l.key l.initial.heads.items);
  infos : l.infos.items ++ map info_of (standings_first 0 l.key l.heads.items) ≡ l.initial.infos.items ++ map info_of (standings_first 0 l.key l.initial.heads.items);
  heads : map (behind l.key) l.heads.items ≡ map (behind l.key) l.initial.heads.items;
}

abbrev pub decreases-loop-segment : goal.decreases-loop-segment
decreases-loop-segment l = length (standings_first 0 l.key l.heads.items)
