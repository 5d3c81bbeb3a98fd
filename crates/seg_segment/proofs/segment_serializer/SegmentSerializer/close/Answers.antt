use Rattle.std.proofs.Common.{◌≡◌, ℕ, refl, ap, subst, ◌∙◌}
use Rattle.seg_directory.specs.DirectorySteps.{Works}
use Rattle.seg_segment.specs.SegmentFiles.{write_steps}
use Rattle.seg_segment.specs.SegmentSerializers.{Serializing, starves, makes}
use Rattle.seg_segment.proofs.FilesOnDisk.{closing_on_disk}
use Rattle.seg_segment.proofs.segment_serializer.SegmentSerializer.close.Goals as goal

pub returns-in_default-clause-does : goal.returns-in_default-clause-does
returns-in_default-clause-does g c = starves refl refl

pub returns-clause-does : goal.returns-clause-does
returns-clause-does g c =
    let same : c.id-id.result ≡ c.args.self.segment.meta.id = c.id-id.ensures ∙ ap (λ (s : Serializing). s.segment.meta.id) c.self.view_is in
    makes c.in-Ok.files c.in-Ok.ensures (subst (λ (id : ℕ). Works (write_steps id c.in-Ok.files) c.write.result (g.W.Directory.state c.args.directory.now) (g.W.Directory.state c.write.new.directory)) same c.write.ensures)

pub returns-in_default-clause-disk : goal.returns-in_default-clause-disk
returns-in_default-clause-disk g c told = closing_on_disk c.args.self _ told (returns-in_default-clause-does g c)

pub returns-clause-disk : goal.returns-clause-disk
returns-clause-disk g c told = closing_on_disk c.args.self _ told (returns-clause-does g c)
