use Rattle.std.proofs.Common.{◌≡◌, true, length}
use Rattle.seg_common.specs.JsonPaths.{written_key}
use Rattle.seg_model.specs.DocumentCheck.{has_no_zero}
use Rattle.seg_paths.specs.Paths.{Extends, IsAbove, below}
use Rattle.seg_paths.proofs.path_table.PathTable.add_key.Given as goal

-- what is left of the key, below the place that is reached, has the path of the whole
abbrev pub invariant-loop-end : goal.invariant-loop-end
invariant-loop-end l = record {
  extends : Extends l.fn.self l.self;
  above : IsAbove l.self l.place;
  plain : has_no_zero l.rest ≡ true;
  same : below l.self l.place (written_key l.expand_dots l.rest)
      ≡ below l.fn.self l.fn.above (written_key l.expand_dots l.key);
}

abbrev pub decreases-loop-end : goal.decreases-loop-end
decreases-loop-end l = length l.rest
