use Rattle.std.proofs.Common.{◌≡◌, ℕ, ◌++◌, List, map}
use Rattle.std.specs.List.{AllByRecursion}
use Rattle.std.specs.Vec.Iter.{into_iter_items}
use Rattle.seg_values.specs.Tree.{Leaf}
use Rattle.seg_check.specs.Paths.{IsNumbered, PathsStand, path_leaf, texts_of}
use Rattle.seg_check.proofs.FieldLeaves.{SizedWith, StandWith}
use Rattle.seg_check.proofs.field_totals.add_leaves.Given as goal

-- what came, with what is left, is all
abbrev pub invariant-loop-found : goal.invariant-loop-found
invariant-loop-found g l =
    let analyze = g.Z.Analyzers.tokens_of l.analyzers l.tokenizer in
    let table = l.initial.paths.table in
    let left = map (path_leaf table) (into_iter_items l.found-iterator) in
    let all = map (path_leaf table) (into_iter_items l.initial.found-iterator) in
    record {
      sized : SizedWith analyze l.whole left all;
      cut : l.texts.items ++ texts_of analyze left ≡ l.initial.texts.items ++ texts_of analyze all;
      same : l.paths.table ≡ table;
      numbered : AllByRecursion (IsNumbered table) (into_iter_items l.initial.found-iterator)
          → AllByRecursion (IsNumbered table) (into_iter_items l.found-iterator);
      stand : (before : List (List ℕ × Leaf))
          → AllByRecursion (IsNumbered table) (into_iter_items l.initial.found-iterator)
          → PathsStand analyze l.initial.paths before → StandWith analyze l.paths left (before ++ all);
    }
