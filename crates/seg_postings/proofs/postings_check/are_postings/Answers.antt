use Rattle.std.proofs.Common.{◌∙◌, ◌&&◌, Bool, length, sym, ap, nat_eq}
use Rattle.std.proofs.lemmas.Bool.{lt-ltb, le-ltb}
use Rattle.seg_postings.proofs.PostingsByDocument.{no_document, high, no_positions, turn, ends}
use Rattle.seg_postings.proofs.postings_check.are_postings.Goals as goal

pub returns-in_default : goal.returns-in_default
returns-in_default c = sym (sym c.loop.invariant ∙ no_document c.args.kind c.args.max_doc c.args.count c.loop.counter c.loop.before c.loop.least c.loop.left.now c.loop.positions_left.now c.loop-test.true c.in_default.ensures.read)

pub returns-then-next-max_doc : goal.returns-then-next-max_doc
returns-then-next-max_doc c = sym (sym c.loop.invariant ∙ high c.args.kind c.args.max_doc c.args.count c.loop.counter c.loop.before c.loop.least c.loop.left.now c.loop.positions_left.now c.loop-test.true c.in-Some.next.document c.in-Some.next.count c.take_document.new.bytes.now c.in-Some.ensures.read (le-ltb c.in-Some.next.document c.args.max_doc c.if-next-max_doc.true))

pub returns-in_default-pass_recorded : goal.returns-in_default-pass_recorded
returns-in_default-pass_recorded c = sym (sym c.loop.invariant ∙ no_positions c.args.kind c.args.max_doc c.args.count c.loop.counter c.loop.before c.loop.least c.loop.left.now c.loop.positions_left.now c.loop-test.true c.in-Some.next.document c.in-Some.next.count c.take_document.new.bytes.now c.in-Some.ensures.read c.in_default-pass_recorded.ensures)

pub loop-preserved : goal.loop-preserved
loop-preserved c =
    let p = c.in-Some-pass_recorded.ensures in
    turn c.args.kind c.args.max_doc c.args.count c.loop.counter c.loop.before c.loop.least c.loop.left.now c.loop.positions_left.now c.loop-test.true c.in-Some.next.document c.in-Some.next.count c.take_document.new.bytes.now c.in-Some.ensures.read p.value c.pass_recorded.new.bytes.now (lt-ltb c.in-Some.next.document c.args.max_doc c.if-next-max_doc.false) p.is ∙ c.loop.invariant

pub returns-then-is_empty : goal.returns-then-is_empty
returns-then-is_empty c =
    let e = ends c.args.kind c.args.max_doc c.args.count c.loop.counter c.loop.before c.loop.least c.loop.left.now c.loop.positions_left.now c.loop-test.false in
    c.is_empty-then-is_empty.ensures ∙ sym (sym c.loop.invariant ∙ e ∙ ap (λ (b : Bool). b && nat_eq (length c.loop.positions_left.now) 0) (sym c.is_empty.ensures ∙ c.if-is_empty.true))

pub returns-else-is_empty : goal.returns-else-is_empty
returns-else-is_empty c =
    let e = ends c.args.kind c.args.max_doc c.args.count c.loop.counter c.loop.before c.loop.least c.loop.left.now c.loop.positions_left.now c.loop-test.false in
    c.if-is_empty.false ∙ sym (sym c.loop.invariant ∙ e ∙ ap (λ (b : Bool). b && nat_eq (length c.loop.positions_left.now) 0) (sym c.is_empty.ensures ∙ c.if-is_empty.false))
