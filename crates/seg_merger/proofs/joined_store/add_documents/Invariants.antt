use Rattle.std.proofs.Common.{◌≡◌, ◌<◌, ◌+◌, ◌^◌, length, drop, option_map, IfSome}
use Rattle.seg_model.specs.Operations.{kept}
use Rattle.seg_store.specs.Store.{raw_documents}
use Rattle.seg_store.specs.WriterBlocks.{taken_count}
use Rattle.seg_merger.specs.JoinedStore.{kept_bytes, with_documents}
use Rattle.seg_merger.proofs.joined_store.add_documents.Given as goal

abbrev pub invariant-loop-doc : goal.invariant-loop-doc
invariant-loop-doc l = record {
  added : option_map (with_documents (kept (drop l.doc l.part.alive) (drop l.doc (raw_documents l.part.blocks)))) l.writer ≡ option_map (with_documents (kept_bytes l.part)) l.initial.writer;
  room : IfSome l.writer (λ w. taken_count w + length (kept (drop l.doc l.part.alive) (drop l.doc (raw_documents l.part.blocks))) < 2 ^ 31);
}
