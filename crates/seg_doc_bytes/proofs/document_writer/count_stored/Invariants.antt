use Rattle.std.proofs.Common.{◌≡◌, ◌≤◌, ◌+◌, length, drop}
use Rattle.seg_values.specs.StoredDocuments.{stored_document}
use Rattle.seg_doc_bytes.proofs.document_writer.count_stored.Given as goal

-- what is so far, with what is left, is all
abbrev pub invariant-loop-index : goal.invariant-loop-index
invariant-loop-index l = record {
  counted : l.count + length (stored_document l.schema (drop l.index l.document)) ≡ length (stored_document l.schema l.document);
  few : l.count ≤ l.index;
}
