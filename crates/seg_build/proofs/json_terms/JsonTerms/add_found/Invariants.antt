use Rattle.std.proofs.Common.{◌≡◌, ◌+◌, ◌-◌, ◌^◌, ◌≤◌, map}
use Rattle.std.specs.List.{AllByRecursion}
use Rattle.std.specs.Vec.Iter.{into_iter_items}
use Rattle.seg_check.specs.LeafContents.{with_texts}
use Rattle.seg_check.specs.Paths.{IsNumbered, path_leaf}
use Rattle.seg_build.specs.GatheredFieldTerms.{json_gathered, with_leaves}
use Rattle.seg_build.specs.LeafPositions.{LeavesFit, leaves_count}
use Rattle.seg_model.specs.SaturatedNumbers.{saturated}
use Rattle.seg_build.specs.PathStarts.{path_start}
use Rattle.seg_build.proofs.json_terms.JsonTerms.add_found.Given as goal

-- what is so far, with what is left, is all
abbrev pub invariant-loop-found : goal.invariant-loop-found
invariant-loop-found l =
    let table = l.initial.self.terms.paths in
    let left = with_texts l.rest (map (path_leaf table) (into_iter_items l.found-iterator)) in
    let all = with_texts l.initial.rest (map (path_leaf table) (into_iter_items l.initial.found-iterator)) in
    record {
      same : l.self.terms.paths ≡ table;
      added : with_leaves l.document (json_gathered l.self) left ≡ with_leaves l.document (json_gathered l.initial.self) all;
      sum : saturated (l.count + leaves_count left) ≡ saturated (leaves_count all);
      few : l.count ≤ 2 ^ 64 - 1;
      fits : LeavesFit (path_start l.document (json_gathered l.self).starts) left;
      numbered : AllByRecursion (IsNumbered table) (into_iter_items l.found-iterator);
    }
