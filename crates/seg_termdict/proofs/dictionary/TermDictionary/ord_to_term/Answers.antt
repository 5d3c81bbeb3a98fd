use Rattle.std.proofs.Common.{arith}
use Rattle.seg_termdict.proofs.DictionaryTerms.{seen_length}
use Rattle.seg_termdict.proofs.dictionary.TermDictionary.ord_to_term.Goals as goal

pub returns-then-ord-self-clause-ok : goal.returns-then-ord-self-clause-ok
returns-then-ord-self-clause-ok c = (omega (arith, c.if-ord-self.true, seen_length c.self.inside.bytes c.self.inside.count c.args.self.now c.self.invariant.0 c.self.view_is), c.clear.ensures.items)

pub key-requires : goal.key-requires
key-requires c = omega (arith, c.if-ord-self.false, seen_length c.self.inside.bytes c.self.inside.count c.args.self.now c.self.invariant.0 c.self.view_is)
