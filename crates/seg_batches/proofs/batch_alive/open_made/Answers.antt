use Rattle.std.proofs.Common.{refl, subst}
use Rattle.seg_open.specs.OpeningSteps.{HasFilesOf}
use Rattle.seg_batches.proofs.LeftBatches.{undamaged}
use Rattle.seg_batches.proofs.batch_alive.open_made.Goals as goal

pub unreachable-requires : goal.unreachable-requires
unreachable-requires c =
    let segment = c.args.segment.now in
    undamaged segment.schema segment.schema c.share.result c.args.files.now segment.meta.documents refl c.share.ensures
    c.in-Err-Damaged.field-0 c.in-Err-Damaged.field-0-0 c.in-Err-Damaged.field-0-is c.requires.whole c.in-Err-Damaged.ensures.err

pub returns-in-Ok : goal.returns-in-Ok
returns-in-Ok c =
    subst (λ files. HasFilesOf c.args.segment.now files c.in-Ok.reader) c.share.ensures c.in-Ok.ensures.ok
