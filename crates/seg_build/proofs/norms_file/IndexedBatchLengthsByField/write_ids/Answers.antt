use Rattle.std.proofs.Common.{ℕ, List, [], ◌∷◌, ◌++◌, ap, subst}
use Rattle.std.specs.Prelude.{unwrap_or}
use Rattle.seg_common.specs.WriterGrowth.{HasGrown}
use Rattle.seg_directory.specs.CompositeFiles.{Part}
use Rattle.seg_build.proofs.norms_file.IndexedBatchLengthsByField.write_ids.Goals as goal

pub returns-in-Ok : goal.returns-in-Ok
returns-in-Ok c =
    subst (λ (ids : List ℕ). HasGrown c.args.file.now c.serialize_field.new.self (λ (ps : List Part). ps ++ (c.args.field, ids) ∷ [])) (ap (λ o. unwrap_or o []) c.in-Some.ensures) c.in-Ok.ensures.ok
