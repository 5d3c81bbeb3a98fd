use Rattle.std.proofs.Common.{ℕ, List, Some, ap, sym, ◌∙◌, arith}
use Rattle.seg_columns.specs.Dictionaries.{term_at}
use Rattle.seg_columns.proofs.DictionaryTerms.{seen_get, seen_length}
use Rattle.seg_columns.proofs.dictionary.Dictionary.term.Goals as goal

pub term_at-requires-clause-place : goal.term_at-requires-clause-place
term_at-requires-clause-place c =
    let i = c.self.inside in
    omega (arith, c.requires, seen_length i.bytes i.count c.args.self.now c.self.invariant.0 c.self.view_is)

pub returns : goal.returns
returns c =
    let i = c.self.inside in
    let terms = c.args.self.now in
    let place = c.args.place in
    let long = seen_length i.bytes i.count terms c.self.invariant.0 c.self.view_is in
    seen_get i.bytes i.count terms c.self.invariant.0 c.self.view_is place (omega (arith, c.requires, long))
    ∙ sym (ap Some (c.term_at.ensures ∙ ap (λ (l : List ℕ). term_at l place) c.as_slice.ensures))
