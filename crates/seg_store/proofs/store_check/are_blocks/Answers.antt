use Rattle.std.proofs.Common.{◌≡◌, false, length, option_map, sym, ap, ◌∙◌, arith, ◌&&◌}
use Rattle.std.specs.Prelude.{◌==◌}
use Rattle.std.proofs.lemmas.Bool.{true≢false, and_left, eq-eqb, ne_eqb}
use Rattle.seg_store.specs.Block.{documents_in}
use Rattle.seg_store.specs.CheckedFields.{is_block_of, may_have}
use Rattle.seg_store.proofs.CutParts.{block_turn, block_stops, blocks_end}
use Rattle.seg_store.proofs.store_check.are_blocks.Goals as goal

pub returns-in_default : goal.returns-in_default
returns-in_default c =
    let found = c.checkpoint_at-checkpoint.ensures.found c.args.count c.loop-index-test.true in
    sym (block_stops (is_block_of (may_have (option_map (λ s. s.now) c.args.schema))) c.args.total c.args.count c.args.table.now c.args.bytes.now c.loop-index.documents c.loop-index.start c.loop-index.index c.checkpoint_at-checkpoint.result.doc_end c.checkpoint_at-checkpoint.result.byte_end found c.loop-index.invariant
    (λ from within _ _. c.in_default.ensures from within))

pub returns-in_default-checked_len : goal.returns-in_default-checked_len
returns-in_default-checked_len c =
    let found = c.checkpoint_at-checkpoint.ensures.found c.args.count c.loop-index-test.true in
    sym (block_stops (is_block_of (may_have (option_map (λ s. s.now) c.args.schema))) c.args.total c.args.count c.args.table.now c.args.bytes.now c.loop-index.documents c.loop-index.start c.loop-index.index c.checkpoint_at-checkpoint.result.doc_end c.checkpoint_at-checkpoint.result.byte_end found c.loop-index.invariant
    (λ _ _ block _. true≢false (sym block ∙ ap (is_block_of (may_have (option_map (λ s. s.now) c.args.schema))) (sym c.in-Some.ensures.2) ∙ c.in_default-checked_len.ensures)))

pub returns-then-checkpoint-documents : goal.returns-then-checkpoint-documents
returns-then-checkpoint-documents c =
    let found = c.checkpoint_at-checkpoint.ensures.found c.args.count c.loop-index-test.true in
    sym (block_stops (is_block_of (may_have (option_map (λ s. s.now) c.args.schema))) c.args.total c.args.count c.args.table.now c.args.bytes.now c.loop-index.documents c.loop-index.start c.loop-index.index c.checkpoint_at-checkpoint.result.doc_end c.checkpoint_at-checkpoint.result.byte_end found c.loop-index.invariant
    (λ _ _ _ documents. let count = ap (λ l. length (documents_in l)) c.in-Some.ensures.2 in c.if-checkpoint-documents.true (omega (arith, documents, count, c.in-Some-checked_len.ensures.1))))

pub loop-index-preserved : goal.loop-index-preserved
loop-index-preserved c =
    let found = c.checkpoint_at-checkpoint.ensures.found c.args.count c.loop-index-test.true in
    let count = ap (λ l. length (documents_in l)) c.in-Some.ensures.2 in
    block_turn (is_block_of (may_have (option_map (λ s. s.now) c.args.schema))) c.args.total c.args.count c.args.table.now c.args.bytes.now c.loop-index.documents c.loop-index.start c.loop-index.index c.checkpoint_at-checkpoint.result.doc_end c.checkpoint_at-checkpoint.result.byte_end found c.loop-index.invariant
    c.in-Some.ensures.0
    (ap (is_block_of (may_have (option_map (λ s. s.now) c.args.schema))) (sym c.in-Some.ensures.2) ∙ c.in-Some-checked_len.ensures.0)
    (omega (arith, count, c.in-Some-checked_len.ensures.1, c.if-checkpoint-documents.false))

pub returns-then-start-bytes : goal.returns-then-start-bytes
returns-then-start-bytes c =
    let end = blocks_end (is_block_of (may_have (option_map (λ s. s.now) c.args.schema))) c.args.total c.args.count c.args.table.now c.args.bytes.now c.loop-index.documents c.loop-index.start c.loop-index.index (omega (arith, c.loop-index-test.false)) c.loop-index.invariant in
    sym (end ∙ ap (λ b. b && (c.args.total == c.loop-index.documents)) (eq-eqb c.loop-index.start (length c.args.bytes.now) c.if-start-bytes.true))

pub returns-else-start-bytes : goal.returns-else-start-bytes
returns-else-start-bytes c =
    let end = blocks_end (is_block_of (may_have (option_map (λ s. s.now) c.args.schema))) c.args.total c.args.count c.args.table.now c.args.bytes.now c.loop-index.documents c.loop-index.start c.loop-index.index (omega (arith, c.loop-index-test.false)) c.loop-index.invariant in
    let other : (c.loop-index.start == length c.args.bytes.now) ≡ false = ne_eqb c.loop-index.start (length c.args.bytes.now) c.if-start-bytes.false in
    other ∙ sym (end ∙ and_left (c.loop-index.start == length c.args.bytes.now) (c.args.total == c.loop-index.documents) other)
