use Rattle.std.proofs.Common.{ap, sym, subst, ◌∙◌}
use Rattle.seg_directory.specs.Disk.{IsImage}
use Rattle.seg_directory.specs.DiskCalls.{latest, disk_at, picked}
use Rattle.seg_directory.proofs.PutFiles.{picked_is_an_image}
use Rattle.seg_directory.proofs.memory_directory.MemoryDirectory.image.Goals as goal

pub returns-clause-is_image : goal.returns-clause-is_image
returns-clause-is_image c = subst (λ files. IsImage (disk_at c.args.self.now.disk c.args.calls) files)
    (sym (ap latest c.in_ok-disk.ensures ∙ ap (λ m. picked c.args.pick (disk_at m.disk c.args.calls)) c.self.view_is))
    (picked_is_an_image c.args.pick (disk_at c.args.self.now.disk c.args.calls))
