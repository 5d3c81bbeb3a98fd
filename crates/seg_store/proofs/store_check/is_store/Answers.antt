use Rattle.std.proofs.Common.{◌≡◌, ◌+◌, ◌*◌, ◌≤◌, ℕ, Bool, List, length, option_map, sym, ap, ◌∙◌, arith, slice_index}
use Rattle.std.proofs.lemmas.Bool.{and_left}
use Rattle.seg_common.specs.LittleEndian.{u32_at}
use Rattle.seg_store.specs.CheckedFields.{may_have}
use Rattle.seg_store.specs.Store as store
use Rattle.seg_store.specs.Store.{store_count}
use Rattle.seg_store.proofs.SplitFiles.{no_store_footer, no_checkpoints, compressed, store_cut, store_parts_test}
use Rattle.seg_store.proofs.store_check.is_store.Goals as goal

pub returns-then-bytes-lt-FOOTER_BYTES : goal.returns-then-bytes-lt-FOOTER_BYTES
returns-then-bytes-lt-FOOTER_BYTES c = sym (and_left (store.is_store c.args.bytes.now) _ (no_store_footer c.args.bytes.now (omega (arith, c.if-bytes-lt-FOOTER_BYTES.true))))

pub returns-then-count-rest : goal.returns-then-count-rest
returns-then-count-rest c =
    let count : c.u32_at-count.result ≡ store_count c.args.bytes.now = c.u32_at-count.ensures ∙ ap (λ (l : List ℕ). u32_at l 0) c.split_at.ensures.back in
    sym (and_left (store.is_store c.args.bytes.now) _ (no_checkpoints c.args.bytes.now (omega (arith, count, c.if-bytes-lt-FOOTER_BYTES.false, c.if-count-rest.true, c.split_at.ensures.front_len))))

pub returns-then-footer-ne0 : goal.returns-then-footer-ne0
returns-then-footer-ne0 c = sym (and_left (store.is_store c.args.bytes.now) _ (compressed c.args.bytes.now (λ none. c.if-footer-ne0.true (ap (λ (l : List ℕ). slice_index l 8) c.split_at.ensures.back ∙ none))))

pub returns : goal.returns
returns c =
    let count : c.u32_at-count.result ≡ store_count c.args.bytes.now = c.u32_at-count.ensures ∙ ap (λ (l : List ℕ). u32_at l 0) c.split_at.ensures.back in
    let cut = store_cut c.args.bytes.now c.split_at.result.0.now c.u32_at-count.result c.split_at-2.result.0.now c.split_at-2.result.1.now count c.split_at.ensures.front c.split_at-2.ensures.front c.split_at-2.ensures.back in
    let total = c.u32_at.ensures ∙ ap (λ (l : List ℕ). u32_at l 4) c.split_at.ensures.back in
    let room : 9 + 12 * c.u32_at-count.result ≤ length c.args.bytes.now = omega (arith, c.if-bytes-lt-FOOTER_BYTES.false, c.if-count-rest.false, c.split_at.ensures.front_len) in
    let last = sym (ap (λ (l : List ℕ). slice_index l 8) c.split_at.ensures.back) ∙ c.if-footer-ne0.false in
    let test : ℕ → Bool = may_have (option_map (λ s. s.now) c.args.schema) in
    c.are_blocks.ensures ∙ sym (store_parts_test test c.args.bytes.now c.u32_at-count.result c.u32_at.result c.split_at-2.result.0.now c.split_at-2.result.1.now cut total room last)
