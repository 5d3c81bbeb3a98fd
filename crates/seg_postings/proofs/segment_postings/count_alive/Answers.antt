use Rattle.std.proofs.Common.{◌≡◌, ◌∙◌, Some, false, sym, ap, arith}
use Rattle.std.specs.Prelude.{get_or}
use Rattle.std.specs.Int.{from_bool}
use Rattle.seg_postings.specs.OpenPostings.{kept_kind_of}
use Rattle.seg_postings.proofs.AliveCounts.{none_counted, is_small, counts_on, stays_few}
use Rattle.seg_postings.proofs.segment_postings.count_alive.Goals as goal

pub overflow_add-count : goal.overflow_add-count
overflow_add-count c =
    let left = c.loop-kind.postings.left in
    omega (arith, is_small c.args.alive.now left left c.in-Some._kind (sym c.record_kind.ensures ∙ c.in-Some.is) c.doc.result c.from-count.result c.doc.ensures (c.from-count.ensures ∙ ap from_bool c.contains.ensures) c.loop-kind.count c.loop-kind.invariant.few)

pub loop-kind-preserved : goal.loop-kind-preserved
loop-kind-preserved c =
    let left = c.loop-kind.postings.left in
    let rest = c.advance.new.self.left in
    let some : kept_kind_of left ≡ Some c.in-Some._kind = sym c.record_kind.ensures ∙ c.in-Some.is in
    let bit : c.from-count.result ≡ from_bool (get_or c.args.alive.now c.doc.result false) = c.from-count.ensures ∙ ap from_bool c.contains.ensures in
    record {
      counted = counts_on c.args.alive.now left rest c.in-Some._kind some c.doc.result c.from-count.result c.doc.ensures bit c.advance.ensures.left c.loop-kind.count _ c.loop-kind.invariant.counted;
      few = stays_few c.args.alive.now left rest c.in-Some._kind some c.doc.result c.from-count.result c.doc.ensures bit c.advance.ensures.left c.loop-kind.count c.loop-kind.invariant.few;
    }

pub returns : goal.returns
returns c =
    let none = none_counted c.args.alive.now c.loop-kind.postings.left (sym c.record_kind.ensures ∙ c.in_default.is) in
    omega (arith, none, c.loop-kind.invariant.counted)
