use Rattle.seg_script.proofs.RemainingDocuments.{kept_of}
use Rattle.seg_script.proofs.kept_documents.kept_documents.Goals as goal

pub loop-document-init : goal.loop-document-init
loop-document-init c = kept_of c.args.size c.args.dropped.now c.in-Ok.kept c.in-Ok.ensures.ok
