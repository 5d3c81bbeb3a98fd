use Rattle.std.proofs.Common.{◌≡◌, ◌<◌, ◌∷◌, ◌∙◌, true, length, arith}
use Rattle.std.proofs.lemmas.List.{length-set}
use Rattle.seg_columns.proofs.MarkedOrdinals.{left_below, one_marked, with_first}
use Rattle.seg_columns.proofs.used_ordinals.mark.Goals as goal

pub loop-ord-preserved : goal.loop-ord-preserved
loop-ord-preserved c =
    let so_far = c.loop-ord.invariant in
    let long = length c.args.used.now.items in
    let marks = c.loop-ord.used.items in
    let old = c.loop-ord.ord-iterator in
    let new = c.next.new.self in
    let ord = c.in-Some.ord in
    let is : old ≡ ord ∷ new = c.in-Some.ensures.steps in
    let lt : ord < length marks = omega (arith, c.if-ord-len.false, c.len.ensures) in
    record {
      can = tt;
      finite = tt;
      long = length-set marks ord true ∙ so_far.long;
      below = λ all. so_far.below (with_first old new ord is long (omega (arith, lt, so_far.long)) all);
      all_below = λ all. left_below old new ord is long (so_far.all_below all);
      marks = λ o h. one_marked old new ord is marks o lt ∙ so_far.marks o h;
    }
