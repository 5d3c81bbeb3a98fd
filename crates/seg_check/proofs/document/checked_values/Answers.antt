use Rattle.std.proofs.Common.{inr, ap, sym, ◌∙◌}
use Rattle.std.specs.Prelude.{is_some}
use Rattle.seg_model.specs.DocumentCheck.{Cause, at_place, fields_refusal, leaves_refusal}
use Rattle.seg_model.proofs.Exports.{none_map}
use Rattle.seg_check.proofs.DocumentFields.{falls-third}
use Rattle.seg_check.proofs.document.checked_values.Goals as goal

pub returns-in_default-found-clause-err : goal.returns-in_default-found-clause-err
returns-in_default-found-clause-err g c =
    inr (ap (at_place c.args.at)
    (sym (falls-third c.args.schema.now (g.Z.Analyzers.tokens_of c.args.analyzers.now) c.args.document.now
    (none_map (λ (cause : Cause). cause c.args.at) (fields_refusal c.args.schema.now c.args.document.now) (sym c.fields_refusal.ensures ∙ c.in_default.is))
    (none_map (λ (cause : Cause). cause c.args.at) (leaves_refusal c.args.schema.now c.args.document.now) (sym c.leaves_refusal.ensures ∙ c.in_default-leaves_refusal.is))
    (sym c.in-Ok.ensures.order ∙ ap is_some c.in_default-found.is))))
