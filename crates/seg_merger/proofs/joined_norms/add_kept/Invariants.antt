use Rattle.std.proofs.Common.{◌≡◌, ◌++◌, drop}
use Rattle.seg_model.specs.Operations.{kept}
use Rattle.seg_merger.proofs.joined_norms.add_kept.Given as goal

abbrev pub invariant-loop-doc : goal.invariant-loop-doc
invariant-loop-doc l = l.ids.items ++ kept (drop l.doc l.part.alive) (drop l.doc l.norms) ≡ l.initial.ids.items ++ kept l.part.alive l.norms
