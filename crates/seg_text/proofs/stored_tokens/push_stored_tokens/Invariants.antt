use Rattle.std.proofs.Common.{◌-◌}
use Rattle.seg_doc_bytes.specs.StoredTree as trees
use Rattle.seg_values.specs.ValueJson.{token_json}
use Rattle.seg_text.proofs.PrintedCounts.{ItemsPrinted}
use Rattle.seg_text.proofs.stored_tokens.push_stored_tokens.Given as goal

abbrev pub invariant-loop : goal.invariant-loop
invariant-loop l = ItemsPrinted trees.token_at token_json l.count l.initial.bytes.now (l.count - l.counter) l.bytes.now l.initial.out.items l.out.items l.later
