use Rattle.std.proofs.Common.{◌≡◌, ◌<◌, length, refl, ap, ◌∙◌, arith}
use Rattle.std.proofs.lemmas.Nat.{ones-le}
use Rattle.seg_bits.specs.BitSets.{words_for, bits_of, words_of}
use Rattle.seg_bits.proofs.SetLookUps.{counted_more, counted_below, counted_all}
use Rattle.seg_bits.proofs.SetBytes.{set_length, length-words_of}
use Rattle.seg_bits.proofs.look_up.count_members.Goals as goal

pub loop-at-init : goal.loop-at-init
unfolding bits_of
loop-at-init c = refl

pub word_at-requires-clause-length : goal.word_at-requires-clause-length
word_at-requires-clause-length c = set_length c.args.bytes.now c.requires.set

pub overflow_add-count : goal.overflow_add-count
overflow_add-count c = omega (arith, c.loop-at.invariant, counted_below (words_of c.args.bytes.now) c.loop-at.at, ones-le 64 c.word_at.result (omega arith), c.num_words-at-end.ensures)

pub loop-at-preserved : goal.loop-at-preserved
loop-at-preserved c =
    let inside : c.loop-at.at < length (words_of c.args.bytes.now) = omega (arith, length-words_of c.args.bytes.now, c.num_words-at-end.ensures, ap words_for c.requires.size) in
    omega (arith, c.loop-at.invariant, counted_more (words_of c.args.bytes.now) c.loop-at.at c.word_at.result inside (omega arith) c.word_at.ensures)

pub returns : goal.returns
returns c =
    let all : c.loop-at.at ≡ words_for c.args.max_value = omega (arith, c.num_words-at-end.ensures) in
    c.loop-at.invariant ∙ counted_all c.args.bytes.now c.loop-at.at c.requires.set (all ∙ ap words_for c.requires.size)
