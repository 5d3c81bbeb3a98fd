use Rattle.std.proofs.Common.{◌≡◌, refl, rules, arith, false, sym, ap, ◌∙◌}
use Rattle.std.specs.Str.{bytes_eq}
use Rattle.seg_termdict.specs.MergerHeap.{Entry, front_of}
use Rattle.seg_termdict.proofs.MergerHeap.{first_of, first_among, none_at, popped}
use Rattle.seg_termdict.proofs.fronts.Fronts.pop_at.Goals as goal

pub returns-then-ne-clause-none : goal.returns-then-ne-clause-none
returns-then-ne-clause-none c =
    let x : Entry = c.in-Some.field-0.now in
    let xs = c.self.inside.heap.data.items in
    let h = c.in-Some.ensures in
    let other : bytes_eq c.args.key.now (front_of x).0 ≡ false = search rules in
    (refl, none_at c.args.key.now (front_of x) _ c.requires (first_among _ xs c.self.view_is x h.item.3.0 h.lookup) other (first_of _ xs c.self.view_is x (h.greatest c.self.invariant)))

-- what is taken out is what was looked at
pub returns-clause-some : goal.returns-clause-some
returns-clause-some c =
    let x : Entry = c.in-Some-pop.field-0 in
    let y : Entry = c.in-Some.field-0.now in
    let h = c.in-Some-pop.ensures in
    let e : y ≡ x = c.in-Some.ensures.item.4 (omega arith) x ∙ sym h.top in
    let same : (front_of y).0 ≡ c.args.key.now = search rules in
    let k : (front_of x).0 ≡ c.args.key.now = ap (λ (z : Entry). (front_of z).0) (sym e) ∙ same in
    popped _ c.self.inside.heap.data.items c.pop.new.self.data.items c.self.view_is x c.args.key.now k h.permutation (h.below_top c.self.invariant)
