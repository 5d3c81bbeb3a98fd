use Rattle.std.proofs.Common.{◌≡◌, ◌++◌, drop}
use Rattle.std.specs.List.{flat_map, AllByRecursion}
use Rattle.seg_values.specs.StoredDocuments.{stored_document}
use Rattle.seg_values.specs.StoredBytes.{pair_form}
use Rattle.seg_doc_bytes.specs.StorableDocuments.{IsStoredPair}
use Rattle.seg_doc_bytes.proofs.document_writer.put_document.Given as goal

-- what is so far, with what is left, is all
abbrev pub invariant-loop-at : goal.invariant-loop-at
invariant-loop-at l = record {
  form : l.out.items ++ flat_map pair_form (stored_document l.schema (drop l.at l.document)) ≡ l.initial.out.items ++ flat_map pair_form (stored_document l.schema l.document);
  storable : AllByRecursion IsStoredPair (stored_document l.schema (drop l.at l.document)) → AllByRecursion IsStoredPair (stored_document l.schema l.document);
}
