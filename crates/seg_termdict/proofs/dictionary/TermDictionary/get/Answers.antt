use Rattle.seg_termdict.proofs.DictionaryTerms.{pair_at}
use Rattle.seg_termdict.proofs.dictionary.TermDictionary.get.Goals as goal

pub returns-in-Some : goal.returns-in-Some
returns-in-Some c = pair_at c.args.self.now c.in-Some.i c.args.key.now c.term_info_from_ord.result c.in-Some.ensures.0 c.in-Some.ensures.1 c.term_info_from_ord.ensures
