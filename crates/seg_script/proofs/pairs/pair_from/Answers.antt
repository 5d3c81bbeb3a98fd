use Rattle.std.proofs.Common.{◌≡◌, ◌∙◌, Some, option_map, sym, ap}
use Rattle.serde_json.specs.View.{view, items_view}
use Rattle.serde_json.proofs.Views.{view-Array}
use Rattle.seg_values.specs.ValueTrees.{tree_of}
use Rattle.seg_script.specs.Fields.{field_or_past}
use Rattle.seg_script.specs.Pairs.{kind_of, reading_of, tree_by, pair_from}
use Rattle.seg_script.proofs.PairParts.{placed, pair_read}
use Rattle.seg_script.proofs.pairs.pair_from.Goals as goal

pub returns-in_default-2 : goal.returns-in_default-2
returns-in_default-2 c =
    let schema = c.args.schema.now in
    let name = c.as_str.result.now in
    let word = option_map view c.in-Some.word in
    let reading = c.in-Some-reading_of.reading in
    let is : pair_from schema (view c.args.json) ≡ option_map (placed (field_or_past schema name)) (tree_by reading (view c.in-Some.value)) =
    rw (c.in-Array.is, view-Array)
    (pair_read schema (items_view c.in-Array.items.items) (view c.in-Some.name) (view c.in-Some.value) word name
    (sym c.in-Some.ensures) (sym c.in-Some-text_of.ensures ∙ ap Some (sym c.as_str.ensures.value)) reading
    (ap (λ f. reading_of (kind_of schema f) word) (sym c.field_or_past-field.ensures) ∙ ap (λ k. reading_of k word) (sym c.kind_of.ensures) ∙ sym c.in-Some-reading_of.ensures)) in
    sym (is ∙ ap (option_map (placed (field_or_past schema name))) (sym c.in_ok-value.ensures ∙ ap (option_map tree_of) c.in_default-2.is))

pub returns : goal.returns
returns c =
    let schema = c.args.schema.now in
    let name = c.as_str.result.now in
    let word = option_map view c.in-Some.word in
    let reading = c.in-Some-reading_of.reading in
    let is : pair_from schema (view c.args.json) ≡ option_map (placed (field_or_past schema name)) (tree_by reading (view c.in-Some.value)) =
    rw (c.in-Array.is, view-Array)
    (pair_read schema (items_view c.in-Array.items.items) (view c.in-Some.name) (view c.in-Some.value) word name
    (sym c.in-Some.ensures) (sym c.in-Some-text_of.ensures ∙ ap Some (sym c.as_str.ensures.value)) reading
    (ap (λ f. reading_of (kind_of schema f) word) (sym c.field_or_past-field.ensures) ∙ ap (λ k. reading_of k word) (sym c.kind_of.ensures) ∙ sym c.in-Some-reading_of.ensures)) in
    sym (is ∙ ap (option_map (placed (field_or_past schema name))) (sym c.in_ok-value.ensures ∙ ap (option_map tree_of) c.in-Some-2.is)
    ∙ ap (λ f. Some (placed f (tree_of c.in-Some-2.value))) (sym c.field_or_past-field.ensures))
