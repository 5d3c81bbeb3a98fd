use Rattle.std.proofs.Common.{sym}
use Rattle.seg_termdict.proofs.DictionaryTerms.{seen_length}
use Rattle.seg_termdict.proofs.dictionary.TermDictionary.num_terms.Goals as goal

pub returns : goal.returns
returns c = sym (seen_length c.self.inside.bytes c.self.inside.count c.args.self.now c.self.invariant.0 c.self.view_is)
