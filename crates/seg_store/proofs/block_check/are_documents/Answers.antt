use Rattle.std.proofs.Common.{◌≡◌, false, option_map, sym, ap, ◌∙◌, arith}
use Rattle.std.proofs.lemmas.Bool.{true≢false}
use Rattle.seg_store.specs.CheckedFields.{is_document_of, may_have}
use Rattle.seg_store.proofs.CutParts.{part_turn, part_stops, parts_end}
use Rattle.seg_store.proofs.block_check.are_documents.Goals as goal

pub returns-in_default : goal.returns-in_default
returns-in_default c = sym (part_stops (is_document_of (may_have (option_map (λ s. s.now) c.args.schema))) c.args.count c.args.ends.now c.args.bytes.now c.loop-index.start c.loop-index.index c.u64_at-end.result c.loop-index-test.true c.u64_at-end.ensures c.loop-index.invariant (λ from within _. c.in_default.ensures from within))

pub returns-then-not-is_document : goal.returns-then-not-is_document
returns-then-not-is_document c =
    let none : (is_document_of (may_have (option_map (λ s. s.now) c.args.schema))) c.in-Some.document.now ≡ false = sym c.is_document.ensures ∙ c.if-not-is_document.true in
    sym (part_stops (is_document_of (may_have (option_map (λ s. s.now) c.args.schema))) c.args.count c.args.ends.now c.args.bytes.now c.loop-index.start c.loop-index.index c.u64_at-end.result c.loop-index-test.true c.u64_at-end.ensures c.loop-index.invariant
    (λ from within passes. true≢false (sym passes ∙ ap (is_document_of (may_have (option_map (λ s. s.now) c.args.schema))) (sym c.in-Some.ensures.2) ∙ none)))

pub loop-index-preserved : goal.loop-index-preserved
loop-index-preserved c =
    part_turn (is_document_of (may_have (option_map (λ s. s.now) c.args.schema))) c.args.count c.args.ends.now c.args.bytes.now c.loop-index.start c.loop-index.index c.u64_at-end.result c.loop-index-test.true c.u64_at-end.ensures c.loop-index.invariant c.in-Some.ensures.0
    (ap (is_document_of (may_have (option_map (λ s. s.now) c.args.schema))) (sym c.in-Some.ensures.2) ∙ sym c.is_document.ensures ∙ c.if-not-is_document.false)

pub returns : goal.returns
returns c = sym (parts_end (is_document_of (may_have (option_map (λ s. s.now) c.args.schema))) c.args.count c.args.ends.now c.args.bytes.now c.loop-index.start c.loop-index.index (omega (arith, c.loop-index-test.false)) c.loop-index.invariant)
