use Rattle.std.proofs.Common.{ℕ, List, ◌∙◌, subst}
use Rattle.seg_common.specs.declared.name.FileName.TheVariants.{Meta}
use Rattle.seg_directory.proofs.Exports.{saved_on_disk, saves_on_disk, stops, then_does}
use Rattle.seg_directory.specs.DirectorySteps.{Works}
use Rattle.seg_meta.specs.MetaSteps.{save_steps}
use Rattle.seg_meta.proofs.save.save_metas.Goals as goal

pub returns-in-Ok-sync_files-clause-does : goal.returns-in-Ok-sync_files-clause-does
returns-in-Ok-sync_files-clause-does g c =
    subst (λ (text : List ℕ). Works (save_steps text) c.rewrite_file.result (g.O.Directory.state c.args.directory.now) (g.O.Directory.state c.rewrite_file.new.directory)) (c.deref.ensures.value ∙ c.in-Ok.ensures)
    (then_does c.in-Ok-sync_files.ensures.does c.rewrite_file.ensures.does)

pub returns-clause-does : goal.returns-clause-does
returns-clause-does g c = stops _ c.in-Err.ensures.does

pub returns-in-Ok-sync_files-clause-disk : goal.returns-in-Ok-sync_files-clause-disk
returns-in-Ok-sync_files-clause-disk g c told = saves_on_disk Meta _ _ told (returns-in-Ok-sync_files-clause-does g c)

pub returns-in-Ok-sync_files-clause-safe : goal.returns-in-Ok-sync_files-clause-safe
returns-in-Ok-sync_files-clause-safe g c told = saved_on_disk Meta _ _ told (returns-in-Ok-sync_files-clause-does g c)

pub returns-clause-disk : goal.returns-clause-disk
returns-clause-disk g c told = saves_on_disk Meta _ _ told (returns-clause-does g c)
