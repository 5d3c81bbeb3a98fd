use Rattle.serde_json.specs.View.{view}
use Rattle.seg_meta.specs.JsonReaders.{nullable}
use Rattle.seg_script.specs.Filters.{filter_from}
use Rattle.seg_script.proofs.ItemLists.{AtItem, one_more}
use Rattle.seg_script.proofs.filters.filters_from.Goals as goal

pub loop-item-preserved : goal.loop-item-preserved
loop-item-preserved c =
    let at : AtItem (nullable filter_from) (view c.args.json.now) c.deref-item-items.result.now c.loop-item.item-index c.item-item.result c.loop-item.filters.items = record { inside = c.loop-item-test.true; is = c.item-item.is; so_far = c.loop-item.invariant } in
    one_more (nullable filter_from) _ _ _ _ _ at c.push.new.items.items c.in_ok-filter.filter c.in_ok-filter.ensures.ok c.in_ok-push.ensures
