use Rattle.std.proofs.Common.{◌∙◌, sym}
use Rattle.std.proofs.lemmas.Bool.{lt-ltb, le-ltb}
use Rattle.seg_postings.proofs.CountedDocuments.{none_counted, high_counted, counted_turn, counted_ends}
use Rattle.seg_postings.proofs.postings_check.are_documents.Goals as goal

pub returns-in_default : goal.returns-in_default
returns-in_default c = sym (sym c.loop.invariant ∙ none_counted c.args.kind c.args.max_doc c.args.count c.loop.counter c.loop.before c.loop.least c.loop.left.now c.loop-test.true c.in_default.ensures.read)

pub returns-then-next-max_doc : goal.returns-then-next-max_doc
returns-then-next-max_doc c = sym (sym c.loop.invariant ∙ high_counted c.args.kind c.args.max_doc c.args.count c.loop.counter c.loop.before c.loop.least c.loop.left.now c.loop-test.true c.in-Some.next.document c.in-Some.next.count c.take_document.new.bytes.now c.in-Some.ensures.read (le-ltb c.in-Some.next.document c.args.max_doc c.if-next-max_doc.true))

pub loop-preserved : goal.loop-preserved
loop-preserved c =
    counted_turn c.args.kind c.args.max_doc c.args.count c.loop.counter c.loop.before c.loop.least c.loop.left.now c.loop-test.true c.in-Some.next.document c.in-Some.next.count c.take_document.new.bytes.now c.in-Some.ensures.read (lt-ltb c.in-Some.next.document c.args.max_doc c.if-next-max_doc.false) ∙ c.loop.invariant

pub returns : goal.returns
returns c =
    c.is_empty.ensures ∙ sym (sym c.loop.invariant ∙ counted_ends c.args.kind c.args.max_doc c.args.count c.loop.counter c.loop.before c.loop.least c.loop.left.now c.loop-test.false)
