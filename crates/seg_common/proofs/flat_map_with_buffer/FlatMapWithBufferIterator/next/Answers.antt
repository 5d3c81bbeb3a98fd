use Rattle.std.proofs.Common.{◌≡◌, ◌<◌, [], refl, arith}
use Rattle.std.proofs.lemmas.List.{nil_from_length}
use Rattle.std.specs.Iterator.{size}
use Rattle.seg_common.proofs.FlatMapSteps.{gives_piece, gives_end, gives_refused, gives_filled}
use Rattle.seg_common.proofs.flat_map_with_buffer.FlatMapWithBufferIterator.next.Goals as goal

pub returns-in-Some-clause-steps : goal.returns-in-Some-clause-steps
returns-in-Some-clause-steps g c = (c.loop-piece.invariant.gives _ _ _ (gives_piece _ _ c.loop-piece.self.items c.loop-piece.self.buffer.items c.pop.new.self.items c.in-Some.piece c.in-Some.ensures.items), c.loop-piece.invariant.same)

pub returns-in_default-next-clause-steps : goal.returns-in_default-next-clause-steps
returns-in_default-next-clause-steps g c =
    let gone : c.pop.new.self.items ≡ [] = nil_from_length c.pop.new.self.items (omega (arith, c.in_default.ensures.cases.1)) in
    let none : c.loop-piece.self.buffer.items ≡ [] = nil_from_length c.loop-piece.self.buffer.items (omega (arith, c.in_default.ensures.cases.0)) in
    (c.loop-piece.invariant.gives _ _ _ (gives_end _ _ c.loop-piece.self.items c.next.new.self _ _ none gone c.in_default-next.ensures.steps), c.loop-piece.invariant.same)

pub returns-in-Err-clause-steps : goal.returns-in-Err-clause-steps
returns-in-Err-clause-steps g c =
    let gone : c.pop.new.self.items ≡ [] = nil_from_length c.pop.new.self.items (omega (arith, c.in_default.ensures.cases.1)) in
    let none : c.loop-piece.self.buffer.items ≡ [] = nil_from_length c.loop-piece.self.buffer.items (omega (arith, c.in_default.ensures.cases.0)) in
    (c.loop-piece.invariant.gives _ _ _ (gives_refused _ _ c.loop-piece.self.items c.next.new.self c.in-Some-next.item c.in-Err.refusal c.fill_buffer.new.arg3.items _ _ none c.clear.ensures.items c.in-Some-next.ensures.steps record { shown = _; empty = gone; left = _; met = c.in-Err.ensures; leaves = refl }), c.loop-piece.invariant.same)

pub loop-piece-preserved : goal.loop-piece-preserved
loop-piece-preserved g c =
    let i = c.loop-piece.invariant in
    let goes = c.in-Some-next.ensures.goes in
    let gone : c.pop.new.self.items ≡ [] = nil_from_length c.pop.new.self.items (omega (arith, c.in_default.ensures.cases.1)) in
    let none : c.loop-piece.self.buffer.items ≡ [] = nil_from_length c.loop-piece.self.buffer.items (omega (arith, c.in_default.ensures.cases.0)) in
    record {
      can = goes.keeps;
      ends = (goes.on i.ends).1;
      callable = i.callable;
      same = i.same;
      fewer = let less : size (g.I.Iterator.remaining c.next.new.self) < size (g.I.Iterator.remaining c.loop-piece.self.items) = (goes.on i.ends).2 in omega (arith, less, i.fewer, c.reverse.new.self.small);
      gives = λ r after left h. i.gives r after left (gives_filled _ _ c.loop-piece.self.items c.next.new.self after c.in-Some-next.item c.fill_buffer.new.arg3.items _ _ left r none c.in-Some-next.ensures.steps record { shown = _; empty = gone; left = _; met = c.in_default-fill_buffer.ensures; leaves = refl } c.reverse.ensures.items h);
    }
