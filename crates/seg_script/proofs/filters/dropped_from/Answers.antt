use Rattle.std.proofs.Common.{sym, ◌∙◌}
use Rattle.serde_json.specs.View.{view}
use Rattle.seg_meta.specs.JsonReaders.{below}
use Rattle.seg_script.proofs.ItemLists.{AtItem, unread, one_more}
use Rattle.seg_script.proofs.filters.dropped_from.Goals as goal

pub returns-in_default-document_below-clause-none : goal.returns-in_default-document_below-clause-none
returns-in_default-document_below-clause-none c _ =
    let at : AtItem (below c.args.size) (view c.args.json.now) c.deref-item-items.result.now c.loop-item.item-index c.item-item.result c.loop-item.dropped.items = record { inside = c.loop-item-test.true; is = c.item-item.is; so_far = c.loop-item.invariant } in
    unread (below c.args.size) _ _ _ _ _ at (sym c.document_below.ensures ∙ c.in_default-document_below.is)

pub loop-item-preserved : goal.loop-item-preserved
loop-item-preserved c =
    let at : AtItem (below c.args.size) (view c.args.json.now) c.deref-item-items.result.now c.loop-item.item-index c.item-item.result c.loop-item.dropped.items = record { inside = c.loop-item-test.true; is = c.item-item.is; so_far = c.loop-item.invariant } in
    one_more (below c.args.size) _ _ _ _ _ at c.push.new.items.items c.in-Some-document_below.document (sym c.in-Some-document_below.ensures) c.in_ok-push.ensures
