use Rattle.std.proofs.Common.{◌≡◌, ap, ◌∙◌, arith}
use Rattle.std.specs.Int.Bits.{bit_and}
use Rattle.seg_bits.specs.BitSets.{words_for, words_of}
use Rattle.seg_bits.proofs.SharedWords.{shared_word, spelled_more, fit_more, are_shared}
use Rattle.seg_bits.proofs.SetBytes.{set_length}
use Rattle.seg_bits.proofs.intersect.shared_words.Goals as goal

pub word_at-requires-clause-length : goal.word_at-requires-clause-length
word_at-requires-clause-length c = set_length c.args.left.now c.requires.left_set

pub word_at-requires-in-loop-at-clause-length : goal.word_at-requires-in-loop-at-clause-length
word_at-requires-in-loop-at-clause-length c = set_length c.args.right.now c.requires.right_set

pub loop-at-preserved : goal.loop-at-preserved
loop-at-preserved c =
    let word : bit_and c.word_at.result c.word_at-in-loop-at.result ≡ shared_word (words_of c.args.left.now) (words_of c.args.right.now) c.loop-at.at =
    ap (λ w. bit_and w c.word_at-in-loop-at.result) c.word_at.ensures ∙ ap (bit_and _) c.word_at-in-loop-at.ensures in record {
      so_far = spelled_more c.args.max_value (words_of c.args.left.now) (words_of c.args.right.now) c.loop-at.at (bit_and c.word_at.result c.word_at-in-loop-at.result) c.loop-at.bytes.items c.put_u64.new.out.items c.loop-at.invariant.so_far word c.in_ok-put_u64.ensures.ok;
      fit = fit_more (words_of c.args.left.now) (words_of c.args.right.now) c.loop-at.at c.word_at.result 0 c.loop-at.invariant.fit c.word_at.ensures (omega arith);
    }

pub returns-clause-size : goal.returns-clause-size
returns-clause-size c =
    let all : c.loop-at.at ≡ words_for c.args.max_value = omega (arith, c.num_words-at-end.ensures) in
    (are_shared c.args.max_value c.args.left.now c.args.right.now c.loop-at.bytes.items c.loop-at.at c.requires.left c.requires.right c.requires.left_set c.requires.right_set (omega arith) all c.loop-at.invariant.so_far c.loop-at.invariant.fit).same_size

pub returns-clause-set : goal.returns-clause-set
returns-clause-set c =
    let all : c.loop-at.at ≡ words_for c.args.max_value = omega (arith, c.num_words-at-end.ensures) in
    (are_shared c.args.max_value c.args.left.now c.args.right.now c.loop-at.bytes.items c.loop-at.at c.requires.left c.requires.right c.requires.left_set c.requires.right_set (omega arith) all c.loop-at.invariant.so_far c.loop-at.invariant.fit).is_set

pub returns-clause-shared : goal.returns-clause-shared
returns-clause-shared c =
    let all : c.loop-at.at ≡ words_for c.args.max_value = omega (arith, c.num_words-at-end.ensures) in
    (are_shared c.args.max_value c.args.left.now c.args.right.now c.loop-at.bytes.items c.loop-at.at c.requires.left c.requires.right c.requires.left_set c.requires.right_set (omega arith) all c.loop-at.invariant.so_far c.loop-at.invariant.fit).has_both
