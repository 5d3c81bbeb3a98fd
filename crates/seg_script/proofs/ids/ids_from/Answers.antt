use Rattle.std.proofs.Common.{sym, ◌∙◌}
use Rattle.serde_json.specs.View.{view}
use Rattle.seg_script.specs.Script.{id_of}
use Rattle.seg_script.proofs.ItemLists.{AtItem, unread, one_more}
use Rattle.seg_script.proofs.ids.ids_from.Goals as goal

pub returns-in_default-id_of-clause-none : goal.returns-in_default-id_of-clause-none
returns-in_default-id_of-clause-none c _ =
    let at : AtItem (id_of) (view c.args.json.now) c.deref-item-items.result.now c.loop-item.item-index c.item-item.result c.loop-item.ids.items = record { inside = c.loop-item-test.true; is = c.item-item.is; so_far = c.loop-item.invariant } in
    unread (id_of) _ _ _ _ _ at (sym c.id_of.ensures ∙ c.in_default-id_of.is)

pub loop-item-preserved : goal.loop-item-preserved
loop-item-preserved c =
    let at : AtItem (id_of) (view c.args.json.now) c.deref-item-items.result.now c.loop-item.item-index c.item-item.result c.loop-item.ids.items = record { inside = c.loop-item-test.true; is = c.item-item.is; so_far = c.loop-item.invariant } in
    one_more (id_of) _ _ _ _ _ at c.push.new.items.items c.in-Some-id_of.id (sym c.in-Some-id_of.ensures) c.in_ok-push.ensures
