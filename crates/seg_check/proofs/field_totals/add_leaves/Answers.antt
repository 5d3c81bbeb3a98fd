use Rattle.std.proofs.Common.{List, [], ◌++◌, append-nil, refl, ap, sym, map, ◌∙◌, subst}
use Rattle.std.specs.List.{AllByRecursion, slice_index_or}
use Rattle.std.specs.Vec.Iter.{into_iter_items}
use Rattle.seg_values.specs.ValueTrees.{tree_of}
use Rattle.seg_paths.specs.NumberedLeaves.{leaf_in}
use Rattle.seg_paths.specs.Paths.{number_of}
use Rattle.seg_paths.specs.declared.leaves.NumberedLeaf.{NumberedLeaf}
use Rattle.seg_check.specs.Paths.{IsNumbered, path_leaf, texts_of, PathsStand}
use Rattle.seg_check.specs.TextSizes.{measured}
use Rattle.seg_check.proofs.FieldLeaves.{next-cut, next-sized, next-standing, all-sized, all-stand, no_more, starts-sized, starts-standing, SizedWith}
use Rattle.seg_check.proofs.FieldValues.{measured-some}
use Rattle.seg_check.proofs.field_totals.add_leaves.Goals as goal

pub loop-found-init : goal.loop-found-init
loop-found-init g c =
    let analyze = g.Z.Analyzers.tokens_of c.args.analyzers.now c.args.tokenizer.now in
    let all = map (path_leaf c.args.paths.now.table) (into_iter_items c.into_iter-found-iterator.result) in
    record {
      sized = subst (λ size. SizedWith analyze size all all) (sym c.none-whole.ensures)
          (starts-sized analyze all all refl);
      cut = refl;
      same = refl;
      numbered = λ all. all;
      stand = λ before known stands. starts-standing analyze c.args.paths.now before all all refl stands;
    }

pub loop-found-preserved : goal.loop-found-preserved
loop-found-preserved g c =
    let analyze = g.Z.Analyzers.tokens_of c.args.analyzers.now c.args.tokenizer.now in
    let table = c.args.paths.now.table in
    let x = path_leaf table c.in-Some.found in
    let cut = c.in-Some.ensures.steps.0 in
    let is = ap (map (path_leaf table)) cut in
    let one = sym c.in-Some-2.is ∙ c.in_ok-size.ensures.size in
    let inv = c.loop-found.invariant in
    record {
      sized = rw (c.plus-whole.ensures)
          (next-sized analyze x _ _ _ is c.loop-found.whole c.in-Some-2.size one inv.sized);
      cut = next-cut analyze x _ _ is c.loop-found.texts.items _ _ c.in_ok-size.ensures.cut inv.cut;
      same = c.in_ok-add.ensures.table ∙ inv.same;
      numbered = λ all. (subst (AllByRecursion (IsNumbered table)) cut (inv.numbered all)).1;
      stand = λ before all stands.
          let known = (subst (AllByRecursion (IsNumbered table)) cut (inv.numbered all)).0 in
          let here = ap (λ t. number_of t (slice_index_or table c.in-Some.found.path [])) inv.same ∙ known in
          next-standing analyze x _ _ _ is c.loop-found.paths c.add.new.self
          (λ found so_far. c.in_ok-add.ensures.stands analyze found (slice_index_or table c.in-Some.found.path [])
          (leaf_in (tree_of c.in-Some.found.leaf.now)) here (measured-some c.in-Some-2.size _ one) so_far)
          (inv.stand before all stands);
    }

pub returns-clause-size : goal.returns-clause-size
returns-clause-size g c =
    let analyze = g.Z.Analyzers.tokens_of c.args.analyzers.now c.args.tokenizer.now in
    let table = c.args.paths.now.table in
    let it = c.loop-found.found-iterator in
    let none = ap (map (path_leaf table)) (no_more
    (into_iter_items it) it.rest.len it.rest.ok.0 c.in-None.ensures.steps.0) in
    all-sized analyze c.loop-found.whole _ _ none c.loop-found.invariant.sized
    ∙ ap (λ l. measured (texts_of analyze (map
    (path_leaf table) l))) c.into_iter-found-iterator.ensures.into_iter_gives.0

pub returns-clause-stands : goal.returns-clause-stands
returns-clause-stands g c found all stands some =
    let analyze = g.Z.Analyzers.tokens_of c.args.analyzers.now c.args.tokenizer.now in
    let table = c.args.paths.now.table in
    let it = c.loop-found.found-iterator in
    let gives = c.into_iter-found-iterator.ensures.into_iter_gives.0 in
    let none = ap (map (path_leaf table)) (no_more
    (into_iter_items it) it.rest.len it.rest.ok.0 c.in-None.ensures.steps.0) in
    let numbered = subst (AllByRecursion (IsNumbered table)) (sym gives) all in
    subst (λ (l : List NumberedLeaf). PathsStand analyze c.loop-found.paths (found ++ map
    (path_leaf table) l)) gives (all-stand analyze c.loop-found.paths _ _ none
    (c.loop-found.invariant.stand found numbered stands))

pub returns-clause-cut : goal.returns-clause-cut
returns-clause-cut g c some =
    let analyze = g.Z.Analyzers.tokens_of c.args.analyzers.now c.args.tokenizer.now in
    let table = c.args.paths.now.table in
    let it = c.loop-found.found-iterator in
    let none = ap (map (path_leaf table)) (no_more
    (into_iter_items it) it.rest.len it.rest.ok.0 c.in-None.ensures.steps.0) in
    sym (append-nil c.loop-found.texts.items)
    ∙ ap (λ l. c.loop-found.texts.items ++ texts_of analyze l) (sym none)
    ∙ c.loop-found.invariant.cut
    ∙ ap (λ l. c.args.texts.now.items ++ texts_of analyze (map
    (path_leaf table) l)) c.into_iter-found-iterator.ensures.into_iter_gives.0
