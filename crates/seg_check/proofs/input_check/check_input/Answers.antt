use Rattle.std.proofs.Common.{◌≡◌, ◌∙◌, ap, sym, subst, None, Some, map, inl}
use Rattle.std.specs.Option.{option_map}
use Rattle.seg_values.specs.declared.error.SchemaCause.TheVariants.{DeleteField}
use Rattle.seg_values.specs.declared.error.TantivyError.TheVariants.{SchemaError}
use Rattle.seg_meta.specs.MetaMeaning.{settings_of}
use Rattle.seg_model.specs.Input.{Input}
use Rattle.seg_model.specs.ValidInputs.{input_refusal, schema_refusal}
use Rattle.seg_check.specs.UserOperations.{operation_of}
use Rattle.seg_check.specs.AdmittedInputs.{Fits}
use Rattle.seg_check.proofs.FirstErrors.{all_fit, by_deletes}
use Rattle.seg_check.proofs.input_check.check_input.Goals as goal

pub returns-in-Some-unindexed_delete-clause-told : goal.returns-in-Some-unindexed_delete-clause-told
returns-in-Some-unindexed_delete-clause-told g c =
    let knows = g.Z.Analyzers.knows c.args.analyzers.now in
    let F = g.Z.Analyzers.tokens_of c.args.analyzers.now in
    let i = c.input.inside in
    let meant : Input = record { schema = i.schema.now; settings = settings_of i.settings.now; operations = map operation_of i.operations.now; cuts = i.cuts.now; filters = i.filters.now; ids = i.ids.now } in
    let begun : schema_refusal knows i.schema.now (settings_of i.settings.now) ≡ None = sym c.start_refusal.ensures.first ∙ c.in_default.is in
    inl (subst (λ (x : Input). input_refusal knows F x ≡ Some (SchemaError (DeleteField c.in-Some-unindexed_delete.at))) c.input.view_is
    (by_deletes knows F meant (c.in_ok-check_shape.ensures i.schema.now F) begun
    ∙ ap (option_map (λ at. SchemaError (DeleteField at))) (sym c.unindexed_delete.ensures ∙ c.in-Some-unindexed_delete.is)))

pub returns-in-None-clause-fits : goal.returns-in-None-clause-fits
returns-in-None-clause-fits g c =
    let F = g.Z.Analyzers.tokens_of c.args.analyzers.now in
    let i = c.input.inside in
    let meant : Input = record { schema = i.schema.now; settings = settings_of i.settings.now; operations = map operation_of i.operations.now; cuts = i.cuts.now; filters = i.filters.now; ids = i.ids.now } in
    subst (λ (x : Input). Fits F x) c.input.view_is (all_fit (g.Z.Analyzers.knows c.args.analyzers.now) F meant (c.in_ok-check_shape.ensures i.schema.now F))
