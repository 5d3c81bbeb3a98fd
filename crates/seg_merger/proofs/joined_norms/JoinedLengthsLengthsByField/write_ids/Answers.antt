use Rattle.std.proofs.Common.{ℕ, List, [], ◌∷◌, ◌++◌, ◌∙◌, ap, subst}
use Rattle.seg_common.specs.WriterGrowth.{HasGrown}
use Rattle.seg_directory.specs.CompositeFiles.{Part}
use Rattle.seg_merger.specs.JoinedNorms.{joined_ids}
use Rattle.seg_open.specs.OpenSegment.{OpenSegment}
use Rattle.seg_merger.proofs.joined_norms.JoinedLengthsLengthsByField.write_ids.Goals as goal

pub returns-in-Ok : goal.returns-in-Ok
returns-in-Ok c =
    subst (λ (ids : List ℕ). HasGrown c.args.file.now c.serialize_field.new.self (λ (ps : List Part). ps ++ (c.args.field, ids) ∷ [])) (c.deref.ensures.value ∙ c.in_ok-ids.ensures ∙ ap (λ (ps : List OpenSegment). joined_ids ps c.args.field) c.self.view_is)
    c.in-Ok.ensures.ok
