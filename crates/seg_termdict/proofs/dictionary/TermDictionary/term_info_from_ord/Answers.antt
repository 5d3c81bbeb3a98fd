use Rattle.std.proofs.Common.{◌<◌, ℕ, List, ap, ◌∙◌, arith}
use Rattle.seg_termdict.specs.Dictionary.{infos_of, info_of}
use Rattle.seg_termdict.proofs.DictionaryTerms.{seen_length, seen_info}
use Rattle.seg_termdict.proofs.dictionary.TermDictionary.term_info_from_ord.Goals as goal

pub info_at-requires : goal.info_at-requires
info_at-requires c = omega (arith, c.requires, c.info_table.ensures.length, seen_length c.self.inside.bytes c.self.inside.count c.args.self.now c.self.invariant.0 c.self.view_is)

pub returns : goal.returns
returns c =
    let lt : c.args.ord < c.self.inside.count = omega (arith, c.requires, seen_length c.self.inside.bytes c.self.inside.count c.args.self.now c.self.invariant.0 c.self.view_is) in
    seen_info c.self.inside.bytes c.self.inside.count c.args.self.now c.self.invariant.0 c.self.view_is c.args.ord _ lt (c.info_at.ensures ∙ ap (λ (l : List ℕ). info_of l c.args.ord) (c.info_table.ensures.table ∙ ap infos_of c.as_slice.ensures))
