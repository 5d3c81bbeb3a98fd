use Rattle.std.proofs.Common.{◌<◌, ◌/◌, ◌%◌, ◌^◌, ◌∙◌, arith}
use Rattle.seg_bits.proofs.SetLookUps.{passed, found_within, found_next}
use Rattle.seg_bits.proofs.SetBytes.{set_length}
use Rattle.seg_bits.proofs.look_up.first_member.Goals as goal

pub word_at-requires-clause-length : goal.word_at-requires-clause-length
word_at-requires-clause-length c = set_length c.args.bytes.now c.requires.set

pub overflow_cast-result-then-rest-ne0 : goal.overflow_cast-result-then-rest-ne0
overflow_cast-result-then-rest-ne0 c =
    let some : 0 < c.word_at.result / 2 ^ (c.loop-at.at % 64) = omega (arith, c.if-rest-ne0.true) in
    omega (arith, found_within c.args.bytes.now c.loop-at.at c.word_at.result c.requires.set (omega arith) c.word_at.ensures some, c.requires.size)

pub returns-then-rest-ne0-clause-first : goal.returns-then-rest-ne0-clause-first
returns-then-rest-ne0-clause-first c =
    let some : 0 < c.word_at.result / 2 ^ (c.loop-at.at % 64) = omega (arith, c.if-rest-ne0.true) in
    c.loop-at.invariant ∙ found_next c.args.bytes.now c.loop-at.at c.word_at.result c.requires.set (omega arith) c.word_at.ensures some

pub returns-then-rest-ne0-clause-within : goal.returns-then-rest-ne0-clause-within
returns-then-rest-ne0-clause-within c =
    let some : 0 < c.word_at.result / 2 ^ (c.loop-at.at % 64) = omega (arith, c.if-rest-ne0.true) in
    omega (arith, found_within c.args.bytes.now c.loop-at.at c.word_at.result c.requires.set (omega arith) c.word_at.ensures some, c.requires.size)

pub loop-at-preserved : goal.loop-at-preserved
loop-at-preserved c = c.loop-at.invariant ∙ passed c.args.bytes.now c.loop-at.at c.word_at.result c.requires.set (omega arith) c.word_at.ensures c.if-rest-ne0.false
