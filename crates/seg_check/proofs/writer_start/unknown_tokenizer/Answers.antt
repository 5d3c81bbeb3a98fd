use Rattle.std.proofs.Common.{sym}
use Rattle.std.specs.Prelude.{not}
use Rattle.std.proofs.lemmas.Iterator.Adapters.{position_from-zero}
use Rattle.seg_values.specs.declared.schema.FieldEntry.{FieldEntry}
use Rattle.seg_model.specs.Fields.{indexing_tokenizer}
use Rattle.seg_check.proofs.writer_start.unknown_tokenizer.Goals as goal

pub loop-place-init : goal.loop-place-init
loop-place-init g c = record {
  first = sym (position_from-zero (λ (e : FieldEntry). not (g.Z.Analyzers.knows c.args.analyzers.now (indexing_tokenizer e))) c.args.schema.now);
  known = λ h. h;
}
