use Rattle.std.proofs.Common.{arith}
use Rattle.std.proofs.lemmas.Option.{slice_get_past}
use Rattle.seg_columns.proofs.DictionaryTerms.{seen_length}
use Rattle.seg_columns.proofs.dictionary.Dictionary.ord_to_term.Goals as goal

pub returns-then-ord-self : goal.returns-then-ord-self
returns-then-ord-self c =
    let i = c.self.inside in
    let long = seen_length i.bytes i.count c.args.self.now c.self.invariant.0 c.self.view_is in
    slice_get_past c.args.self.now c.args.ord (omega (arith, c.if-ord-self.true, long))

pub term-requires : goal.term-requires
term-requires c =
    let i = c.self.inside in
    omega (arith, c.if-ord-self.false, seen_length i.bytes i.count c.args.self.now c.self.invariant.0 c.self.view_is)
