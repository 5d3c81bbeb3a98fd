use Rattle.std.proofs.Common.{◌≡◌, ◌+◌, ◌*◌, sym, ap, ◌∙◌, arith}
use Rattle.seg_common.specs.LittleEndian.{u32_at}
use Rattle.seg_bits.specs.BitSets.{words_for, words_of, is_clear_from}
use Rattle.seg_bits.proofs.SetBytes.{reads_none, wrong_length, unclear, is_set}
use Rattle.seg_bits.proofs.words.checked_size.Goals as goal

pub returns-then-bytes-lt-SIZE : goal.returns-then-bytes-lt-SIZE
returns-then-bytes-lt-SIZE c = reads_none c.args.bytes.now (wrong_length c.args.bytes.now (λ e. omega arith))

pub returns-then-bytes-num_words : goal.returns-then-bytes-num_words
returns-then-bytes-num_words c =
    let size : c.num_words.result ≡ words_for (u32_at c.args.bytes.now 0) = c.num_words.ensures ∙ ap words_for c.u32_at-max_value.ensures in
    reads_none c.args.bytes.now (wrong_length c.args.bytes.now (λ e. c.if-bytes-num_words.true (e ∙ ap (λ n. 4 + 8 * n) (sym size))))

pub returns-then-not-is_clear : goal.returns-then-not-is_clear
returns-then-not-is_clear c = reads_none c.args.bytes.now (unclear c.args.bytes.now (ap (λ n. is_clear_from n (words_of c.args.bytes.now)) (sym c.u32_at-max_value.ensures) ∙ sym c.is_clear.ensures ∙ c.if-not-is_clear.true))

pub returns : goal.returns
returns c =
    let size : c.num_words.result ≡ words_for (u32_at c.args.bytes.now 0) = c.num_words.ensures ∙ ap words_for c.u32_at-max_value.ensures in
    (c.u32_at-max_value.ensures, is_set c.args.bytes.now (c.if-bytes-num_words.false ∙ ap (λ n. 4 + 8 * n) size) (ap (λ n. is_clear_from n (words_of c.args.bytes.now)) (sym c.u32_at-max_value.ensures) ∙ sym c.is_clear.ensures ∙ c.if-not-is_clear.false))
