use Rattle.std.proofs.Common.{◌≡◌, length, sym, ap, ◌∙◌, arith}
use Rattle.seg_bits.specs.BitSets.{words_for, words_of}
use Rattle.seg_bits.proofs.LowestBits.{clear_whole, clear_last}
use Rattle.seg_bits.proofs.SetBytes.{length-words_of}
use Rattle.seg_bits.proofs.words.is_clear.Goals as goal

pub returns-then-used-eq0 : goal.returns-then-used-eq0
returns-then-used-eq0 c =
    let long : length (words_of c.args.bytes.now) ≡ words_for c.args.max_value = length-words_of c.args.bytes.now ∙ ap words_for (sym c.requires.size) in
    sym (clear_whole c.args.max_value (words_of c.args.bytes.now) long c.if-used-eq0.true)

pub returns : goal.returns
returns c =
    let long : length (words_of c.args.bytes.now) ≡ words_for c.args.max_value = length-words_of c.args.bytes.now ∙ ap words_for (sym c.requires.size) in
    sym (clear_last c.args.max_value (words_of c.args.bytes.now) c.word_at-last.result (omega arith) long c.if-used-eq0.false (sym c.word_at-last.ensures))
