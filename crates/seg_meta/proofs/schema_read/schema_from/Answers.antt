use Rattle.std.proofs.Common.{◌≡◌, ◌+◌, ◌-◌, ◌^◌, drop, Ok, true, false, arith}
use Rattle.std.proofs.lemmas.Grind.{common_steps}
use Rattle.serde_json.specs.View.{view, items_view}
use Rattle.seg_values.specs.SchemaRules.{same_name}
use Rattle.seg_values.proofs.Exports.{named, same_name-sym, unnamed}
use Rattle.seg_meta.specs.ParsedMetaParts.{entry_from}
use Rattle.seg_meta.proofs.ReadLists.{left-cons, distinct_list-long, distinct_list-again, step}
use Rattle.seg_meta.proofs.schema_read.schema_from.Goals as goal

pub returns-then-len-clause-none : goal.returns-then-len-clause-none
returns-then-len-clause-none c _ = distinct_list-long entry_from same_name (2 ^ 32 - 1) _ c.in-Some.items.now.items c.in-Some.ensures (omega arith)

pub returns-then-not-branch-clause-none : goal.returns-then-not-branch-clause-none
returns-then-not-branch-clause-none c _ =
    let there : c.add_entry.result ≡ Ok false = grind (arith, common_steps) in
    let left = left-cons c.deref-item-items.result.now c.loop-item.item-index c.item-item.result c.loop-item-test.true c.item-item.is in
    let entry = c.in_ok-entry.entry in
    distinct_list-again entry_from same_name (2 ^ 32 - 1) same_name-sym (view c.args.json.now) (view c.item-item.result) c.loop-item.builder
    (items_view (drop (c.loop-item.item-index + 1) c.deref-item-items.result.now)) c.loop-item.item-index entry (rw left at c.loop-item.invariant) c.in_ok-entry.ensures.ok (named entry.name c.loop-item.builder (c.add_entry.ensures.there there))

pub loop-item-preserved : goal.loop-item-preserved
loop-item-preserved c =
    let added : c.add_entry.result ≡ Ok true = grind (arith, common_steps) in
    let left = left-cons c.deref-item-items.result.now c.loop-item.item-index c.item-item.result c.loop-item-test.true c.item-item.is in
    let entry = c.in_ok-entry.entry in
    let more = c.add_entry.ensures.added added in
    step entry_from same_name same_name-sym (view c.args.json.now) (view c.item-item.result) c.loop-item.builder c.add_entry.new.builder
    (items_view (drop (c.loop-item.item-index + 1) c.deref-item-items.result.now)) c.loop-item.item-index entry (rw left at c.loop-item.invariant) c.in_ok-entry.ensures.ok more
    (unnamed entry.name c.loop-item.builder (c.add_entry.ensures.distinct added))
