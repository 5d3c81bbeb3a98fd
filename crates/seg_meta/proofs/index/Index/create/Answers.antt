use Rattle.std.proofs.Common.{◌≡◌, ℕ, List, [], None, Ok, Err, subst, ap}
use Rattle.seg_model.specs.Fields.{Schema}
use Rattle.seg_meta.specs.IndexOfFiles.{ListedSegment}
use Rattle.seg_common.specs.declared.name.FileName.TheVariants.{Meta}
use Rattle.seg_directory.proofs.Exports.{answers, begins_on_disk, stops, then_does}
use Rattle.seg_directory.specs.DirectorySteps.{Works}
use Rattle.seg_meta.specs.MetaSteps.{create_steps}
use Rattle.seg_meta.specs.MetaText.{meta_text}
use Rattle.seg_meta.specs.SavableMetas.{empty_meta}
use Rattle.seg_meta.specs.MetaMeaning.{settings_of}
use Rattle.seg_meta.specs.declared.index.Index.{Index}
use Rattle.seg_meta.specs.declared.index_settings.IndexSettings.{IndexSettings}
use Rattle.seg_meta.proofs.index.Index.create.Goals as goal

without_segments : (settings : IndexSettings) (schema : Schema) (segments : List ListedSegment) → segments ≡ []
    → meta_text (record { settings = settings_of settings; schema = schema; stamp = 0; payload = None; segments = segments }) ≡ meta_text (empty_meta (settings_of settings) schema)
without_segments settings schema segments none = ap (λ ss. meta_text (record { settings = settings_of settings; schema = schema; stamp = 0; payload = None; segments = ss })) none

pub returns-in-Err-clause-does : goal.returns-in-Err-clause-does
returns-in-Err-clause-does g c = stops _ c.in-Err.ensures

pub returns-in-Ok-clause-does : goal.returns-in-Ok-clause-does
returns-in-Ok-clause-does g c =
    subst (λ (text : List ℕ). Works {T = Index} (create_steps text) (Ok (record { index_settings = c.args.settings; segments = c.new.result; schema = c.args.schema; opstamp = 0; payload = None })) (g.O.Directory.state c.args.directory.now) (g.O.Directory.state c.save_metas.new.directory)) (without_segments c.args.settings c.args.schema c.new.result c.new.ensures)
    (then_does c.in_default.ensures (answers c.in-Ok.ensures.does))

pub returns-in-Err-save_metas-clause-does : goal.returns-in-Err-save_metas-clause-does
returns-in-Err-save_metas-clause-does g c =
    subst (λ (text : List ℕ). Works {T = Index} (create_steps text) (Err c.in-Err-save_metas.e) (g.O.Directory.state c.args.directory.now) (g.O.Directory.state c.save_metas.new.directory)) (without_segments c.args.settings c.args.schema c.new.result c.new.ensures)
    (then_does c.in_default.ensures (stops [] c.in-Err-save_metas.ensures.does))

pub returns-in-Err-clause-disk : goal.returns-in-Err-clause-disk
returns-in-Err-clause-disk g c told = (begins_on_disk Meta _ _ told _ (returns-in-Err-clause-does g c)).0

pub returns-in-Ok-clause-disk : goal.returns-in-Ok-clause-disk
returns-in-Ok-clause-disk g c told = (begins_on_disk Meta _ _ told _ (returns-in-Ok-clause-does g c)).0

pub returns-in-Err-save_metas-clause-disk : goal.returns-in-Err-save_metas-clause-disk
returns-in-Err-save_metas-clause-disk g c told = (begins_on_disk Meta _ _ told _ (returns-in-Err-save_metas-clause-does g c)).0

pub returns-in-Ok-clause-safe : goal.returns-in-Ok-clause-safe
returns-in-Ok-clause-safe g c told = (begins_on_disk Meta _ _ told _ (returns-in-Ok-clause-does g c)).1
