use Rattle.std.proofs.Common.{drop}
use Rattle.seg_open.specs.OpenSegment.{contents_of}
use Rattle.seg_batches.proofs.DeleteSequences.{left_told}
use Rattle.seg_batches.proofs.applied_deletes.apply_deletes.Goals as goal

pub returns-clause-left : goal.returns-clause-left
returns-clause-left g c =
    left_told (λ target. g.T.DeleteTarget.names target c.args.reader.now.schema (contents_of c.args.reader.now)) c.args.mapping.now c.args.reader.now.documents c.max_doc.result (drop c.args.cursor.now c.args.queue.now.operations) c.in-Ok.alive c.apply_rest.new.alive c.unless_full.result c.max_doc.ensures c.in-Ok.ensures.ok c.in-Ok-apply_rest.ensures.applies.alive c.unless_full.ensures
