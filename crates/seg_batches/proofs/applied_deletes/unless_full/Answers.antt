use Rattle.std.proofs.Common.{refl, sym, ◌∙◌}
use Rattle.seg_open.proofs.Exports.{full_set, lacking}
use Rattle.seg_batches.proofs.applied_deletes.unless_full.Goals as goal

pub returns-then-len-max_value : goal.returns-then-len-max_value
returns-then-len-max_value c = full_set c.args.set (sym c.len.ensures ∙ c.if-len-max_value.true ∙ c.max_value.ensures)

pub returns : goal.returns
returns c = (refl, lacking c.args.set (λ all. c.if-len-max_value.false (c.len.ensures ∙ all ∙ sym c.max_value.ensures)))
