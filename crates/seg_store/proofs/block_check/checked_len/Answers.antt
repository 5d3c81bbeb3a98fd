use Rattle.std.proofs.Common.{◌≡◌, ◌+◌, ◌*◌, ◌<◌, ◌≤◌, ℕ, Bool, length, option_map, sym, ap, ◌∙◌, arith, List}
use Rattle.std.proofs.lemmas.Bool.{and_left}
use Rattle.seg_common.specs.LittleEndian.{u32_at}
use Rattle.seg_store.specs.Block.{block_count, is_block}
use Rattle.seg_store.specs.CheckedFields.{may_have}
use Rattle.seg_store.proofs.SplitFiles.{no_footer, no_documents, no_ends, block_cut, block_parts, split_count}
use Rattle.seg_store.proofs.block_check.checked_len.Goals as goal

pub returns-then-bytes-lt4 : goal.returns-then-bytes-lt4
returns-then-bytes-lt4 c = and_left (is_block c.args.bytes.now) _ (no_footer c.args.bytes.now (omega (arith, c.if-bytes-lt4.true)))

pub returns-then-count-eq0 : goal.returns-then-count-eq0
returns-then-count-eq0 c =
    let count : c.u32_at-count.result ≡ block_count c.args.bytes.now = c.u32_at-count.ensures ∙ ap (λ (l : List ℕ). u32_at l 0) c.split_at.ensures.back in
    and_left (is_block c.args.bytes.now) _ (no_documents c.args.bytes.now (sym count ∙ c.if-count-eq0.true))

pub returns-then-count-rest : goal.returns-then-count-rest
returns-then-count-rest c =
    let count : c.u32_at-count.result ≡ block_count c.args.bytes.now = c.u32_at-count.ensures ∙ ap (λ (l : List ℕ). u32_at l 0) c.split_at.ensures.back in
    and_left (is_block c.args.bytes.now) _ (no_ends c.args.bytes.now (omega (arith, count, c.if-bytes-lt4.false, c.if-count-rest.true, c.split_at.ensures.front_len)))

pub returns-then-not-are_documents : goal.returns-then-not-are_documents
returns-then-not-are_documents c =
    let test : ℕ → Bool = may_have (option_map (λ s. s.now) c.args.schema) in
    let count : c.u32_at-count.result ≡ block_count c.args.bytes.now = c.u32_at-count.ensures ∙ ap (λ (l : List ℕ). u32_at l 0) c.split_at.ensures.back in
    let split = block_cut c.args.bytes.now c.split_at.result.0.now c.u32_at-count.result c.split_at-2.result.0.now c.split_at-2.result.1.now count c.split_at.ensures.front c.split_at-2.ensures.front c.split_at-2.ensures.back in
    let some : 0 < c.u32_at-count.result = omega (arith, c.if-count-eq0.false) in
    let room : 4 + 8 * c.u32_at-count.result ≤ length c.args.bytes.now = omega (arith, c.if-bytes-lt4.false, c.if-count-rest.false, c.split_at.ensures.front_len) in
    block_parts test c.args.bytes.now c.u32_at-count.result c.split_at-2.result.0.now c.split_at-2.result.1.now split some room ∙ sym c.are_documents.ensures ∙ c.if-not-are_documents.true

pub returns : goal.returns
returns c =
    let test : ℕ → Bool = may_have (option_map (λ s. s.now) c.args.schema) in
    let count : c.u32_at-count.result ≡ block_count c.args.bytes.now = c.u32_at-count.ensures ∙ ap (λ (l : List ℕ). u32_at l 0) c.split_at.ensures.back in
    let split = block_cut c.args.bytes.now c.split_at.result.0.now c.u32_at-count.result c.split_at-2.result.0.now c.split_at-2.result.1.now count c.split_at.ensures.front c.split_at-2.ensures.front c.split_at-2.ensures.back in
    let some : 0 < c.u32_at-count.result = omega (arith, c.if-count-eq0.false) in
    let room : 4 + 8 * c.u32_at-count.result ≤ length c.args.bytes.now = omega (arith, c.if-bytes-lt4.false, c.if-count-rest.false, c.split_at.ensures.front_len) in (
      block_parts test c.args.bytes.now c.u32_at-count.result c.split_at-2.result.0.now c.split_at-2.result.1.now split some room ∙ sym c.are_documents.ensures ∙ c.if-not-are_documents.false,
      split_count c.args.bytes.now c.u32_at-count.result c.split_at-2.result.0.now c.split_at-2.result.1.now split,
    )
