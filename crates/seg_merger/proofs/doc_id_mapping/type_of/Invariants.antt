use Rattle.std.proofs.Common.{◌≡◌, drop}
use Rattle.seg_merger.specs.DocIdMapping.{all_alive}
use Rattle.seg_merger.proofs.doc_id_mapping.type_of.Given as goal

-- what is left decides
abbrev pub invariant-loop-reader : goal.invariant-loop-reader
invariant-loop-reader l = all_alive (drop l.reader-index l.readers) ≡ all_alive l.readers
