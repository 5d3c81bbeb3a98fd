use Rattle.std.proofs.Common.{sym, ◌∙◌}
use Rattle.serde_json.specs.View.{view}
use Rattle.seg_meta.specs.JsonReaders.{natural}
use Rattle.seg_script.proofs.ItemLists.{AtItem, unread, one_more}
use Rattle.seg_script.proofs.cuts.cuts_from.Goals as goal

pub returns-in_default-as_u64-clause-none : goal.returns-in_default-as_u64-clause-none
returns-in_default-as_u64-clause-none c _ =
    let at : AtItem (natural) (view c.args.json.now) c.deref-item-items.result.now c.loop-item.item-index c.item-item.result c.loop-item.cuts.items = record { inside = c.loop-item-test.true; is = c.item-item.is; so_far = c.loop-item.invariant } in
    unread (natural) _ _ _ _ _ at (sym c.as_u64.ensures ∙ c.in_default-as_u64.is)

pub loop-item-preserved : goal.loop-item-preserved
loop-item-preserved c =
    let at : AtItem (natural) (view c.args.json.now) c.deref-item-items.result.now c.loop-item.item-index c.item-item.result c.loop-item.cuts.items = record { inside = c.loop-item-test.true; is = c.item-item.is; so_far = c.loop-item.invariant } in
    one_more (natural) _ _ _ _ _ at c.push.new.items.items c.in-Some-as_u64.cut (sym c.in-Some-as_u64.ensures) c.in_ok-push.ensures
