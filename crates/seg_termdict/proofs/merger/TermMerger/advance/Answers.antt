use Rattle.std.proofs.Common.{◌≡◌, ◌∙◌, ◌<◌, length, ◌++◌, map, ap}
use Rattle.std.specs.List.{AllByRecursion}
use Rattle.seg_termdict.specs.MergedStreams.{NotBelow, ord_of, info_of, standings_first}
use Rattle.seg_termdict.proofs.MergerViews.{at_end, no_more, at_next, one_more, stands}
use Rattle.seg_termdict.proofs.FirstFronts.{none_left, first_low, first_noted}
use Rattle.seg_termdict.proofs.merger.TermMerger.advance.Goals as goal

pub returns-in_default-clause-ok : goal.returns-in_default-clause-ok
returns-in_default-clause-ok c =
    let i = c.self.inside in
    at_end i.lacks_memory i.heads.items i.key.now i.ords.items i.infos.items c.args.self.now c.self.view_is c.if-self.false
    (none_left i.fronts i.heads.items (c.self.invariant c.if-self.false).0 c.in_default.ensures.none) _ _ c.clear.ensures.items

pub returns-in_default-clause-more : goal.returns-in_default-clause-more
returns-in_default-clause-more c =
    let i = c.self.inside in
    no_more i.lacks_memory i.heads.items i.key.now i.ords.items i.infos.items c.args.self.now c.self.view_is c.if-self.false
    (none_left i.fronts i.heads.items (c.self.invariant c.if-self.false).0 c.in_default.ensures.none)

pub pass_all-requires-clause-low : goal.pass_all-requires-clause-low
pass_all-requires-clause-low c = first_low c.self.inside.fronts c.self.inside.heads.items (c.self.invariant c.if-self.false).0 _ c.in-Some.ensures.some.0

-- the first key of all
low : (c : goal.In-Ok) → AllByRecursion (NotBelow c.in-Some.key.now) c.self.inside.heads.items
low c = first_low c.self.inside.fronts c.self.inside.heads.items (c.self.invariant c.if-self.false).0 _ c.in-Some.ensures.some.0

some : (c : goal.In-Ok) → 0 < length (standings_first 0 c.in-Some.key.now c.self.inside.heads.items)
some c = first_noted c.self.inside.fronts c.self.inside.heads.items (c.self.invariant c.if-self.false).0 _ c.in-Some.ensures.some.1

ords_are : (c : goal.In-Ok) → c.pass_all.new.ords.items ≡ map ord_of (standings_first 0 c.in-Some.key.now c.self.inside.heads.items)
ords_are c = c.in-Ok.ensures.ords ∙ ap (λ os. os ++ map ord_of (standings_first 0 c.in-Some.key.now c.self.inside.heads.items)) c.clear.ensures.items

pub returns-clause-ok : goal.returns-clause-ok
returns-clause-ok c =
    let i = c.self.inside in
    at_next i.lacks_memory i.heads.items i.key.now i.ords.items i.infos.items c.args.self.now c.self.view_is c.if-self.false
    c.in-Some.key.now (c.self.invariant c.if-self.false).1 (low c) (some c) _ _ _
    (ords_are c)
    (c.in-Ok.ensures.infos ∙ ap (λ is. is ++ map info_of (standings_first 0 c.in-Some.key.now i.heads.items)) c.clear-2.ensures.items)
    c.in-Ok.ensures.heads

pub returns-clause-more : goal.returns-clause-more
returns-clause-more c =
    let i = c.self.inside in
    one_more i.lacks_memory i.heads.items i.key.now i.ords.items i.infos.items c.args.self.now c.self.view_is c.if-self.false
    c.in-Some.key.now (c.self.invariant c.if-self.false).1 (low c) (some c)

pub returns-clause-stands : goal.returns-clause-stands
returns-clause-stands c = λ _.
    let i = c.self.inside in
    stands i.lacks_memory i.heads.items i.key.now i.ords.items i.infos.items c.args.self.now c.self.view_is c.if-self.false
    c.in-Some.key.now (c.self.invariant c.if-self.false).1 (low c) (some c) c.pass_all.new.ords.items c.pass_all.new.infos.items c.pass_all.new.heads.items (ords_are c)
