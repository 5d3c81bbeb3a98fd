use Rattle.std.proofs.Common.{ap, sym, ◌∙◌}
use Rattle.std.specs.declared.ops.Bound.TheVariants.{Included, Excluded}
use Rattle.seg_termdict.proofs.Bounds.{from_Included, from_Excluded}
use Rattle.seg_termdict.proofs.streamer_builder.start_place.Goals as goal

pub returns-in-Included : goal.returns-in-Included
returns-in-Included c = from_Included c.args.dictionary.now c.args.lower.now c.as_slice.result.now _ (c.in-Included.is ∙ ap Included (sym c.as_slice.ensures)) c.terms_before.ensures

pub returns-in-Excluded : goal.returns-in-Excluded
returns-in-Excluded c = from_Excluded c.args.dictionary.now c.args.lower.now c.as_slice-in-Excluded.result.now _ (c.in-Excluded.is ∙ ap Excluded (sym c.as_slice-in-Excluded.ensures)) c.terms_before-in-Excluded.ensures
