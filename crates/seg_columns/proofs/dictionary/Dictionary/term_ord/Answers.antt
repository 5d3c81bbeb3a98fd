use Rattle.std.proofs.Common.{ℕ, List, Some, ap, sym, ◌∙◌}
use Rattle.seg_columns.specs.Dictionaries.{term_at}
use Rattle.seg_columns.proofs.DictionaryTerms.{seen_get, seen_none}
use Rattle.seg_columns.proofs.dictionary.Dictionary.term_ord.Goals as goal

pub returns-in-Some : goal.returns-in-Some
returns-in-Some c =
    let i = c.self.inside in
    let place = c.in-Some.place in
    seen_get i.bytes i.count c.args.self.now c.self.invariant.0 c.self.view_is place c.in-Some.ensures.0
    ∙ ap Some (sym (ap (λ (l : List ℕ). term_at l place) c.as_slice.ensures) ∙ c.in-Some.ensures.1)

pub returns-in-None : goal.returns-in-None
returns-in-None c =
    let i = c.self.inside in
    seen_none i.bytes i.count c.args.self.now c.self.invariant.0 c.self.view_is c.args.key.now
    (λ place lt same. c.in-None.ensures place lt (ap (λ (l : List ℕ). term_at l place) c.as_slice.ensures ∙ same))
