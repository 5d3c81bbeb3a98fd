use Rattle.seg_bits.proofs.SetLookUps.{member_at}
use Rattle.seg_bits.proofs.SetBytes.{set_length}
use Rattle.seg_bits.proofs.look_up.is_member.Goals as goal

pub word_at-requires-clause-length : goal.word_at-requires-clause-length
word_at-requires-clause-length c = set_length c.args.bytes.now c.requires.set

pub returns : goal.returns
returns c = member_at c.args.bytes.now c.args.value c.word_at.result c.requires.set c.word_at.ensures
