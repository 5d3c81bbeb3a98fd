use Rattle.std.proofs.Common.{ℕ, List, [], length, map, take, refl, sym, ap, subst, ◌∙◌, arith}
use Rattle.std.specs.Prelude.{Vec, replicate}
use Rattle.std.specs.Vec.Iter.{into_iter_items}
use Rattle.std.specs.declared.alloc.Global.{Global}
use Rattle.seg_column_merge_parts.specs.ColumnSources.{HasFile}
use Rattle.seg_column_merge_parts.specs.TermSources.{AddsSource, AreTermSources}
use Rattle.seg_column_merge_parts.specs.declared.source.Source.{Source}
use Rattle.seg_column_merge_parts.specs.declared.source.Source.TheVariants.{Nothing}
use Rattle.seg_column_merge_parts.specs.declared.tables.TableRow.{TableRow}
use Rattle.seg_column_merge.proofs.TermSourceSteps.{as_long, list_is, list_there, no_columns, rest_is, row_more}
use Rattle.seg_column_merge.proofs.term_columns.term_sources.Goals as goal

abbrev items : Vec ℕ Global → List ℕ
items v = v.items

pub loop-mapped-init : goal.loop-mapped-init
loop-mapped-init c =
    let start = replicate c.args.files Nothing in
    let all = map items (into_iter_items c.into_iter-mapped-iterator.result) in
    record {
      many = ap length c.into_iter-mapped-iterator.ensures.into_iter_gives.0 ∙ sym c.requires.many;
      left = refl;
      done = subst (λ (s : List Source). AreTermSources start [] all s) (sym c.in_ok-sources.ensures) (no_columns start all);
    }

pub bounds-rows-at : goal.bounds-rows-at
bounds-rows-at c =
    let so_far = c.loop-mapped.invariant in
    let all = into_iter_items c.into_iter-mapped-iterator.result in
    let lt = list_there all (into_iter_items c.loop-mapped.mapped-iterator) (into_iter_items c.next.new.self)
    c.loop-mapped.at c.in-Some.mapped so_far.left c.in-Some.ensures.steps.0 in
    omega (arith, lt, so_far.many)

pub offset_bounds-rows-at : goal.offset_bounds-rows-at
offset_bounds-rows-at c =
    let so_far = c.loop-mapped.invariant in
    let all = into_iter_items c.into_iter-mapped-iterator.result in
    let lt = list_there all (into_iter_items c.loop-mapped.mapped-iterator) (into_iter_items c.next.new.self)
    c.loop-mapped.at c.in-Some.mapped so_far.left c.in-Some.ensures.steps.0 in
    omega (arith, lt, so_far.many)

pub put_source-requires : goal.put_source-requires
put_source-requires c =
    let so_far = c.loop-mapped.invariant in
    let all = into_iter_items c.into_iter-mapped-iterator.result in
    let rows = c.args.rows.now in
    let at = c.loop-mapped.at in
    let r = c.index-rows-at.result in
    let lt = list_there all (into_iter_items c.loop-mapped.mapped-iterator) (into_iter_items c.next.new.self)
    at c.in-Some.mapped so_far.left c.in-Some.ensures.steps.0 in
    subst (λ (n : ℕ). HasFile n r)
    (sym (as_long c.args.files (map (λ (t : TableRow). t.column) (take at rows)) (map items all)
    c.loop-mapped.sources.items so_far.done))
    (subst (HasFile c.args.files) (sym c.index-rows-at.is) (c.requires.files at r (omega (arith, lt, so_far.many))))

pub loop-mapped-preserved : goal.loop-mapped-preserved
loop-mapped-preserved c =
    let so_far = c.loop-mapped.invariant in
    let all = into_iter_items c.into_iter-mapped-iterator.result in
    let left = into_iter_items c.loop-mapped.mapped-iterator in
    let rest = into_iter_items c.next.new.self in
    let rows = c.args.rows.now in
    let at = c.loop-mapped.at in
    let r = c.index-rows-at.result in
    let mapped = c.in-Some.mapped in
    let steps = c.in-Some.ensures.steps.0 in
    let lt = list_there all left rest at mapped so_far.left steps in
    record {
      many = so_far.many;
      left = rest_is all left rest at mapped so_far.left steps;
      done = row_more (replicate c.args.files Nothing) (map items all) rows at r c.loop-mapped.sources.items
          c.put_source.new.sources.items (omega (arith, lt, so_far.many)) c.index-rows-at.is so_far.done
          (subst (λ (l : List ℕ). AddsSource r.column l c.loop-mapped.sources.items c.put_source.new.sources.items)
          (list_is all left rest at mapped so_far.left steps items) c.put_source.ensures);
    }
