use Rattle.std.proofs.Common.{[], ◌∷◌, ◌++◌, ap, ◌∙◌}
use Rattle.std.proofs.lemmas.Result.{on_ok_weaker}
use Rattle.serde_json.specs.View.{view}
use Rattle.seg_values.proofs.LentLists.{item_added, item_first}
use Rattle.seg_values.proofs.document_json.add_item.Goals as goal

pub returns-in-Some : goal.returns-in-Some
returns-in-Some c =
    let new = c.push_item.new.list in
    on_ok_weaker c.push_item.result
    (λ told. item_added c.args.name.now c.args.map.now.entries (c.get_mut.follows.lender new).entries c.in-Some.list.now new (view c.args.item) c.in-Some.ensures.ordered c.in-Some.ensures.value (c.get_mut.follows.holds new).0 told)
    c.push_item.ensures

pub returns : goal.returns
returns c =
    on_ok_weaker c.put.result
    (λ is. item_first c.args.name.now c.get_mut.follows.lender-at-none.entries c.put.new.map.entries c.args.map.now.entries c.push.new.self c.args.item
    (ap (λ m. m.entries) c.get_mut.follows.holds-at-none) c.in_default.ensures.value (c.in_ok-push.ensures.items ∙ ap (λ l. l ++ c.args.item ∷ []) c.new-items.ensures.items) is)
    c.put.ensures.ok
