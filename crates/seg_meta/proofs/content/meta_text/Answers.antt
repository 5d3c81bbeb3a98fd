use Rattle.std.proofs.Common.{[], ◌∷◌, ◌++◌, ap, ◌∙◌}
use Rattle.seg_meta.proofs.FloatFreeMetas.{laid_out}
use Rattle.seg_meta.proofs.content.meta_text.Goals as goal

pub returns : goal.returns
returns c = c.in_ok-push.ensures.items ∙ ap (λ l. l ++ 10 ∷ []) (laid_out _ _ _ c.in_ok-bytes.ensures.layout c.in_ok-bytes.ensures.order c.in_ok-json.ensures)
