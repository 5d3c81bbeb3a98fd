use Rattle.std.proofs.Common.{◌++◌, ◌∷◌, [], ap, sym, ◌∙◌}
use Rattle.std.specs.Prelude.{replicate}
use Rattle.std.proofs.lemmas.List.{append_assoc}
use Rattle.std.proofs.lemmas.Grind.{replicate_next}
use Rattle.seg_norms.proofs.length_ids.LengthIds.fill.Goals as goal

pub loop-preserved : goal.loop-preserved
loop-preserved c =
    rw c.in_ok-push.ensures.items (ap (λ xs. xs ++ 0 ∷ []) c.loop.invariant
    ∙ append_assoc c.self.inside.ids.items (replicate c.loop.counter 0) (0 ∷ [])
    ∙ ap (λ xs. c.self.inside.ids.items ++ xs) (sym (replicate_next c.loop.counter 0)))
