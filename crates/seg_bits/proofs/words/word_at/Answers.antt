use Rattle.std.proofs.Common.{sym, ◌∙◌}
use Rattle.seg_bits.proofs.SetBytes.{get_or-words_of}
use Rattle.seg_bits.proofs.words.word_at.Goals as goal

pub returns : goal.returns
returns c = c.u64_at.ensures ∙ sym (get_or-words_of c.args.bytes.now c.args.at c.requires.within)
