use Rattle.std.proofs.Common.{◌-◌}
use Rattle.seg_doc_bytes.specs.StoredTree as trees
use Rattle.seg_doc_bytes.proofs.GatheredValues.{Gathered}
use Rattle.seg_doc_bytes.proofs.leaf_reader.read_tokens.Given as goal

abbrev pub invariant-loop : goal.invariant-loop
invariant-loop l = Gathered trees.token_at l.count l.initial.bytes.now l.tokens (l.count - l.counter) l.bytes.now
