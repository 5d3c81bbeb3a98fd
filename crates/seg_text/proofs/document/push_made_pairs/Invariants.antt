use Rattle.std.proofs.Common.{◌≡◌, ◌++◌, drop, false}
use Rattle.seg_text.specs.DocumentText.{pairs_items}
use Rattle.serde_json.specs.Written.{items_text}
use Rattle.seg_text.proofs.document.push_made_pairs.Given as goal

abbrev pub invariant-loop-at : goal.invariant-loop-at
invariant-loop-at l = l.out.items ++ items_text l.later (pairs_items l.schema (drop l.at l.document)) ≡ l.initial.out.items ++ items_text false (pairs_items l.schema l.document)
