use Rattle.std.proofs.Common.{◌≡◌, drop}
use Rattle.seg_script.specs.Filters.{all_but}
use Rattle.seg_script.proofs.RemainingDocuments.{without}
use Rattle.seg_script.proofs.kept_documents.kept_documents.Given as goal

abbrev pub invariant-loop-document : goal.invariant-loop-document
invariant-loop-document l = without l.kept (drop l.document-index l.dropped) ≡ all_but l.size l.dropped
