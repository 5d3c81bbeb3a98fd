use Rattle.std.proofs.Common.{ap, ◌∙◌}
use Rattle.seg_directory.specs.DiskCalls.{disk_after, no_files, with_put}
use Rattle.seg_directory.specs.declared.disk_call.DiskCall.TheVariants.{Put}
use Rattle.seg_directory.proofs.MemorySteps.{disk_step}
use Rattle.seg_directory.proofs.disk_record.with_file.Goals as goal

pub returns : goal.returns
returns c =
    ap (λ k. disk_after no_files k.calls) (c.in_ok-put.ensures.ok ∙ ap (λ k. with_put k c.args.name.now c.args.bytes.now) c.make_room.ensures.same)
    ∙ disk_step no_files c.args.files.kept.calls (Put c.args.name.now c.args.bytes.now)
