use Rattle.std.proofs.Common.{ℕ, List, map, sym, subst, arith}
use Rattle.std.specs.Prelude.{Vec}
use Rattle.std.specs.Borrow.{Bor}
use Rattle.std.specs.declared.alloc.Global.{Global}
use Rattle.std.proofs.lemmas.List.{length-map}
use Rattle.seg_column_merge_parts.specs.HeadHeaps.{Head}
use Rattle.seg_column_merge_parts.proofs.HeadCalls.{at_head, passed, seen}
use Rattle.seg_column_merge_parts.proofs.HeadSteps.{SoFar, all_merged, is_head, list_there, nothing_yet}
use Rattle.seg_column_merge_parts.proofs.dictionaries.MergedTerms.of.Goals as goal

abbrev items : Vec ℕ Global → List ℕ
items v = v.items

pub loop-term-init : goal.loop-term-init
loop-term-init c =
    let columns = c.args.columns.now in
    let heads = c.in_ok-heads.heads in
    let lists = map items c.in_ok-ordinals.ordinals.items in
    subst (λ (ts : List (Bor (List ℕ))). SoFar columns heads (seen ts) lists) (sym c.new-terms.ensures.items)
    (nothing_yet columns heads lists c.in_ok-heads.ensures c.in_ok-ordinals.ensures)

pub bounds-columns-place : goal.bounds-columns-place
bounds-columns-place c =
    (is_head c.args.columns.now c.loop-term.heads c.pop.new.self (c.in-Some.term.now, c.in-Some.place, c.in-Some.ord)
    (seen c.loop-term.terms.items) (map items c.loop-term.ordinals.items) c.loop-term.invariant
    c.in-Some.ensures.some).place

pub offset_bounds-columns-place : goal.offset_bounds-columns-place
offset_bounds-columns-place c =
    let head = is_head c.args.columns.now c.loop-term.heads c.pop.new.self
    (c.in-Some.term.now, c.in-Some.place, c.in-Some.ord) (seen c.loop-term.terms.items)
    (map items c.loop-term.ordinals.items) c.loop-term.invariant c.in-Some.ensures.some in
    omega (arith, head.place)

pub put_last-requires-clause-place : goal.put_last-requires-clause-place
put_last-requires-clause-place c =
    (at_head c.args.columns.now c.loop-term.heads c.pop.new.self (c.in-Some.term.now, c.in-Some.place, c.in-Some.ord)
    c.index-columns-place.result (seen c.loop-term.terms.items) (map items c.loop-term.ordinals.items)
    c.loop-term.invariant c.in-Some.ensures.some c.index-columns-place.is).within

pub put_last-requires-clause-is : goal.put_last-requires-clause-is
put_last-requires-clause-is c =
    (at_head c.args.columns.now c.loop-term.heads c.pop.new.self (c.in-Some.term.now, c.in-Some.place, c.in-Some.ord)
    c.index-columns-place.result (seen c.loop-term.terms.items) (map items c.loop-term.ordinals.items)
    c.loop-term.invariant c.in-Some.ensures.some c.index-columns-place.is).is

pub put_ordinal-requires-clause-place : goal.put_ordinal-requires-clause-place
put_ordinal-requires-clause-place c =
    let lists = c.loop-term.ordinals.items in
    let there = list_there c.args.columns.now c.loop-term.heads c.pop.new.self
    (c.in-Some.term.now, c.in-Some.place, c.in-Some.ord) (seen c.loop-term.terms.items) (map items lists)
    c.loop-term.invariant c.in-Some.ensures.some in
    omega (arith, there, length-map lists items)

pub put_ordinal-requires-clause-ord : goal.put_ordinal-requires-clause-ord
put_ordinal-requires-clause-ord c =
    (at_head c.args.columns.now c.loop-term.heads c.pop.new.self (c.in-Some.term.now, c.in-Some.place, c.in-Some.ord)
    c.index-columns-place.result (seen c.loop-term.terms.items) (map items c.loop-term.ordinals.items)
    c.loop-term.invariant c.in-Some.ensures.some c.index-columns-place.is).ordinal

pub advance-requires : goal.advance-requires
advance-requires c =
    (at_head c.args.columns.now c.loop-term.heads c.pop.new.self (c.in-Some.term.now, c.in-Some.place, c.in-Some.ord)
    c.index-columns-place.result (seen c.loop-term.terms.items) (map items c.loop-term.ordinals.items)
    c.loop-term.invariant c.in-Some.ensures.some c.index-columns-place.is).within

pub loop-term-smaller : goal.loop-term-smaller
loop-term-smaller c =
    (passed items c.args.columns.now c.loop-term.heads c.pop.new.self c.advance.new.heads
    (c.in-Some.term.now, c.in-Some.place, c.in-Some.ord) c.index-columns-place.result c.loop-term.terms.items
    c.put_last.new.terms.items c.loop-term.ordinals.items c.put_ordinal.new.ordinals.items c.in_ok-ordinal.ordinal
    c.loop-term.invariant c.in-Some.ensures.some c.index-columns-place.is c.in_ok-ordinal.ensures.ends
    c.in_ok-ordinal.ensures.place c.put_ordinal.ensures c.in_ok-advance.ensures).1

pub loop-term-preserved : goal.loop-term-preserved
loop-term-preserved c =
    (passed items c.args.columns.now c.loop-term.heads c.pop.new.self c.advance.new.heads
    (c.in-Some.term.now, c.in-Some.place, c.in-Some.ord) c.index-columns-place.result c.loop-term.terms.items
    c.put_last.new.terms.items c.loop-term.ordinals.items c.put_ordinal.new.ordinals.items c.in_ok-ordinal.ordinal
    c.loop-term.invariant c.in-Some.ensures.some c.index-columns-place.is c.in_ok-ordinal.ensures.ends
    c.in_ok-ordinal.ensures.place c.put_ordinal.ensures c.in_ok-advance.ensures).0

pub returns : goal.returns
returns c =
    let terms = seen c.loop-term.terms.items in
    let lists = map items c.loop-term.ordinals.items in
    all_merged c.args.columns.now terms lists
    (subst (λ (heads : List Head). SoFar c.args.columns.now heads terms lists) c.in_default.ensures.none
    c.loop-term.invariant)
