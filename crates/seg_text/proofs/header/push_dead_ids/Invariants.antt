use Rattle.std.proofs.Common.{◌≡◌, ◌++◌, drop}
use Rattle.std.specs.List.{flat_map}
use Rattle.seg_text.specs.HeaderText.{dead_from, id_word}
use Rattle.seg_text.proofs.header.push_dead_ids.Given as goal

abbrev pub invariant-loop-doc : goal.invariant-loop-doc
invariant-loop-doc l = l.out.items ++ flat_map id_word (dead_from l.doc (drop l.doc l.alive)) ≡ l.initial.out.items ++ flat_map id_word (dead_from 0 l.alive)
