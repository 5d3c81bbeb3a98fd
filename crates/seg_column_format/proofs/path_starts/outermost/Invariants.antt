use Rattle.std.proofs.Common.{◌≡◌, ℕ, List, ◌||◌}
use Rattle.std.specs.List.{list_any}
use Rattle.seg_column_format.specs.PathStarts.{AreApart, Ascend, begins}
use Rattle.seg_column_format.proofs.OuterStarts.{MeetsUpTo}
use Rattle.seg_column_format.proofs.path_starts.outermost.Given as goal

abbrev pub invariant-loop-start : goal.invariant-loop-start
invariant-loop-start l = record {
  apart : AreApart l.starts.items;
  meets : MeetsUpTo l.starts.items l.start-iterator.rest.items;
  ascend : Ascend l.start-iterator.rest.items;
  tells : (path : List ℕ) → (list_any (begins path) l.starts.items || list_any (begins path) l.start-iterator.rest.items)
      ≡ list_any (begins path) l.fn.sorted.items;
}
