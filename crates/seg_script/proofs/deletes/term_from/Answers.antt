use Rattle.std.proofs.Common.{◌≡◌, ◌≤◌, ◌∙◌, length, Option, Some, option_map, sym, ap, subst, arith}
use Rattle.std.specs.Prelude.{IfOk}
use Rattle.serde_json.specs.View.{view, items_view}
use Rattle.serde_json.proofs.Views.{view-Array}
use Rattle.seg_values.specs.ValueBytes.{TermKey}
use Rattle.seg_script.specs.Deletes.{term_from}
use Rattle.seg_script.specs.Fields.{field_or_past}
use Rattle.seg_script.proofs.PairParts.{empty, term_unknown}
use Rattle.seg_script.proofs.deletes.term_from.Goals as goal

pub returns-else-field_id-num_fields : goal.returns-else-field_id-num_fields
returns-else-field_id-num_fields c =
    let schema = c.args.schema.now in
    let name = c.as_str.result.now in
    let past : length schema ≤ field_or_past schema name = omega (arith, c.num_fields.ensures, c.field_id.ensures, c.field_or_past-field.ensures) in
    let is : term_from schema (view c.args.json) ≡ empty (field_or_past schema name) =
    rw (c.in-Array.is, view-Array)
    (term_unknown schema (items_view c.in-Array.items.items) (view c.in-Some.name) (view c.in-Some.value) (option_map view c.in-Some.third) name
    (sym c.in-Some.ensures) (sym c.in-Some-text_of.ensures ∙ ap Some (sym c.as_str.ensures.value)) past) in
    subst (λ (y : Option TermKey). IfOk c.empty_term.result (λ term. term ≡ y)) (ap empty c.field_or_past-field.ensures ∙ sym is) c.empty_term.ensures
