use Rattle.std.proofs.Common.{◌≡◌, ◌++◌, drop}
use Rattle.std.specs.List.{flat_map}
use Rattle.seg_text.specs.HeaderText.{id_word}
use Rattle.seg_text.proofs.norms.push_ids.Given as goal

abbrev pub invariant-loop-id : goal.invariant-loop-id
invariant-loop-id l = l.out.items ++ flat_map id_word (drop l.id-index l.ids) ≡ l.initial.out.items ++ flat_map id_word l.ids
