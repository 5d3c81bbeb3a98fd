use Rattle.std.proofs.Common.{◌≡◌, ◌++◌, drop}
use Rattle.seg_store.specs.Store.{documents_of}
use Rattle.seg_text.specs.DocumentText.{documents_from, documents_text}
use Rattle.seg_tool.proofs.segment_text.push_documents.Given as goal

abbrev pub invariant-loop-id : goal.invariant-loop-id
invariant-loop-id l = l.out.items ++ documents_from l.schema l.id (drop l.id (documents_of l.store)) ≡ l.initial.out.items ++ documents_text l.schema (documents_of l.store)
