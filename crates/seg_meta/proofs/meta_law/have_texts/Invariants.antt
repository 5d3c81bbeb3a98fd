use Rattle.std.proofs.Common.{ℕ, ◌<◌, get_or}
use Rattle.seg_values.specs.declared.schema.FieldEntry.{FieldEntry}
use Rattle.seg_meta.specs.MetaBounds.{HasTexts}
use Rattle.seg_meta.proofs.meta_law.have_texts.Given as goal

abbrev pub invariant-loop-entry : goal.invariant-loop-entry
invariant-loop-entry l = (k : ℕ) (d : FieldEntry) → k < l.entry-index → HasTexts (get_or l.entries k d)
