use Rattle.std.proofs.Common.{◌≡◌, ◌+◌, ◌-◌, ◌^◌, ◌∙◌, [], drop, Some, None, Err, sym, ap, subst, arith}
use Rattle.std.specs.Prelude.{IsSome}
use Rattle.std.proofs.lemmas.Grind.{common_steps}
use Rattle.std.proofs.lemmas.List.{drop_all}
use Rattle.serde_json.specs.View.{view, items_view}
use Rattle.seg_values.specs.FieldNames.{field_named, kept_entry}
use Rattle.seg_values.specs.SchemaRules.{same_name}
use Rattle.seg_values.proofs.Exports.{named, same_name-sym, unnamed, name-kept_entry}
use Rattle.seg_meta.proofs.Exports.{distinct_list-again, distinct_list-long, distinct_list-whole, left-cons, step}
use Rattle.seg_script.specs.Fields.{entry_from}
use Rattle.seg_script.specs.declared.error.ScriptError.TheVariants.{NotScript}
use Rattle.seg_script.proofs.Schema.{schema_from-is}
use Rattle.seg_script.proofs.fields.schema_from.Goals as goal

pub returns-then-len-clause-none : goal.returns-then-len-clause-none
returns-then-len-clause-none c _ =
    schema_from-is (view c.args.json.now)
    ∙ distinct_list-long entry_from same_name (2 ^ 32 - 1) _ c.in-Some.items.now.items c.in-Some.ensures (omega arith)

pub returns-in_err-add_entry-clause-none : goal.returns-in_err-add_entry-clause-none
returns-in_err-add_entry-clause-none c is =
    let why : c.add_entry.result ≡ Err NotScript = grind (arith, common_steps) in
    let left = left-cons c.deref-item-items.result.now c.loop-item.item-index c.item-item.result c.loop-item-test.true c.item-item.is in
    let entry = c.in_ok-entry.entry in
    schema_from-is (view c.args.json.now)
    ∙ distinct_list-again entry_from same_name (2 ^ 32 - 1) same_name-sym (view c.args.json.now) (view c.item-item.result) c.loop-item.builder
    (items_view (drop (c.loop-item.item-index + 1) c.deref-item-items.result.now)) c.loop-item.item-index (kept_entry entry) (rw left at c.loop-item.invariant)
    c.in_ok-entry.ensures.ok (named (kept_entry entry).name c.loop-item.builder (subst (λ name. IsSome (field_named c.loop-item.builder name)) (sym (name-kept_entry entry)) (c.add_entry.ensures.none why)))

pub loop-item-preserved : goal.loop-item-preserved
loop-item-preserved c =
    let left = left-cons c.deref-item-items.result.now c.loop-item.item-index c.item-item.result c.loop-item-test.true c.item-item.is in
    let entry = c.in_ok-entry.entry in
    step entry_from same_name same_name-sym (view c.args.json.now) (view c.item-item.result) c.loop-item.builder c.add_entry.new.builder
    (items_view (drop (c.loop-item.item-index + 1) c.deref-item-items.result.now)) c.loop-item.item-index (kept_entry entry) (rw left at c.loop-item.invariant)
    c.in_ok-entry.ensures.ok c.in_ok-add_entry.ensures.ok (unnamed (kept_entry entry).name c.loop-item.builder (subst (λ name. field_named c.loop-item.builder name ≡ None) (sym (name-kept_entry entry)) c.in_ok-add_entry.ensures.distinct))

pub returns-clause-ok : goal.returns-clause-ok
returns-clause-ok c =
    let items = c.deref-item-items.result.now in
    let none : drop c.loop-item.item-index items ≡ [] = drop_all c.loop-item.item-index items (omega arith) in
    schema_from-is (view c.args.json.now)
    ∙ distinct_list-whole entry_from same_name (2 ^ 32 - 1) (view c.args.json.now) c.loop-item.builder c.loop-item.item-index
    (rw none at c.loop-item.invariant) (omega arith)
    ∙ ap Some (sym c.build.ensures)
