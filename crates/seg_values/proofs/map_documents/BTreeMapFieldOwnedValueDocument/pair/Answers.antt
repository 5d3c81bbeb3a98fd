use Rattle.std.proofs.Common.{◌≡◌, slice_get, sym, ap, ◌∙◌}
use Rattle.std.specs.Option.{option_map}
use Rattle.std.specs.Map.Iter.{deref_pair}
use Rattle.std.proofs.lemmas.Option.{slice_get-map}
use Rattle.std.proofs.lemmas.Iterator.Consumers.{nth_from_yields_List, YieldsList-from_rest}
use Rattle.seg_values.specs.ValueTrees.{entry_pair}
use Rattle.seg_values.proofs.map_documents.BTreeMapFieldOwnedValueDocument.pair.Goals as goal

pub returns : goal.returns
returns c =
    let seen : option_map deref_pair c.nth.result ≡ slice_get c.args.self.now.entries c.args.at =
    nth_from_yields_List c.nth.result _ c.args.at c.nth.ensures.ran (YieldsList-from_rest c.args.self.now.entries c.iter.ensures.rest) in
    slice_get-map entry_pair c.args.self.now.entries c.args.at ∙ ap (option_map entry_pair) (sym seen ∙ ap (option_map deref_pair) c.in-Some.is)
