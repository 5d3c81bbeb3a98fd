use Rattle.std.proofs.Common.{◌-◌}
use Rattle.seg_doc_bytes.specs.StoredDocument as documents
use Rattle.seg_doc_bytes.proofs.GatheredValues.{Gathered}
use Rattle.seg_doc_bytes.proofs.document_reader.read_pairs.Given as goal

abbrev pub invariant-loop : goal.invariant-loop
invariant-loop l = Gathered documents.pair_at l.count l.initial.bytes.now l.document (l.count - l.counter) l.bytes.now
