use Rattle.std.proofs.Common.{◌-◌}
use Rattle.seg_doc_bytes.specs.StoredDocument.{pair_at}
use Rattle.seg_text.specs.DocumentText.{pair_json}
use Rattle.seg_text.proofs.PrintedCounts.{ItemsPrinted}
use Rattle.seg_text.proofs.stored_pairs.push_counted_pairs.Given as goal

abbrev pub invariant-loop : goal.invariant-loop
invariant-loop l = ItemsPrinted pair_at (pair_json l.schema) l.count l.initial.bytes.now (l.count - l.counter) l.bytes.now l.initial.out.items l.out.items l.later
