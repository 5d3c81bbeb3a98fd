use Rattle.std.proofs.Common.{◌<◌, ℕ, true, length, subst, ◌∙◌, arith}
use Rattle.std.specs.Prelude.{All}
use Rattle.std.proofs.lemmas.List.{length-set}
use Rattle.std.proofs.lemmas.List.Elements.{All-head, All-rest}
use Rattle.seg_column_merge_parts.proofs.OrdinalMarks.{ordinal_marked}
use Rattle.seg_column_merge_parts.proofs.used_ordinals.mark_row.Goals as goal

pub index_mut-requires : goal.index_mut-requires
index_mut-requires c =
    let so_far = c.loop-ord.invariant in
    let long = length c.args.used.now.items in
    let below : c.in-Some.ord < long = All-head (λ (o : ℕ). o < long) c.in-Some.ord c.next.new.self
    (subst (All (λ (o : ℕ). o < long)) c.in-Some.ensures.steps so_far.below) in
    omega (arith, below, so_far.long, c.loop-ord.used.ok.0)

pub loop-ord-preserved : goal.loop-ord-preserved
loop-ord-preserved c =
    let so_far = c.loop-ord.invariant in
    let long = length c.args.used.now.items in
    let marks = c.loop-ord.used.items in
    let old = c.loop-ord.ord-iterator in
    let new = c.next.new.self in
    let ord = c.in-Some.ord in
    let steps = c.in-Some.ensures.steps in
    let below : ord < long =
    All-head (λ (o : ℕ). o < long) ord new (subst (All (λ (o : ℕ). o < long)) steps so_far.below) in
    let lt : ord < length marks = omega (arith, below, so_far.long) in
    record {
      can = tt;
      finite = tt;
      long = length-set marks ord true ∙ so_far.long;
      below = All-rest (λ (o : ℕ). o < long) ord new old steps so_far.below;
      marks = λ o h. ordinal_marked old new ord steps marks o lt ∙ so_far.marks o h;
    }
