use Rattle.std.proofs.Common.{[], map, refl, sym, ap, ◌∙◌, subst, arith}
use Rattle.std.specs.Prelude.{IsSomeAnd}
use Rattle.seg_values.specs.declared.schema.FieldEntry.{FieldEntry}
use Rattle.seg_build.specs.DocumentLengths.{HaveLengths}
use Rattle.seg_build.specs.SegmentWriters.{Stores}
use Rattle.seg_build.specs.FieldsByValue.{fresh}
use Rattle.seg_build.proofs.KeptLengths.{lengths_before}
use Rattle.seg_build.proofs.writer_parts.WriterParts.new.Goals as goal

pub returns : goal.returns
returns g c = λ analyzer. record {
  taken = refl;
  few = omega arith;
  utf8 = tt;
  fields = c.in_ok-fields.ensures ∙ ap (map (λ (e : FieldEntry). fresh)) c.fields.ensures;
  norms = subst (λ o. IsSomeAnd o (HaveLengths c.args.schema.now analyzer [])) (sym c.in-Ok.ensures.ok) (lengths_before c.args.schema.now analyzer);
  fast_schema = c.in-Ok-from_schema_and_tokenizer_manager.ensures.ok.0;
  fast = c.in-Ok-from_schema_and_tokenizer_manager.ensures.ok.1;
  store = subst (λ o. IsSomeAnd o (Stores c.args.schema.now c.args.block_size [])) (sym c.in-Ok-new.ensures.ok) (record { read = refl; count = refl; forms = refl; cut = refl });
  stamped = c.new-2.ensures.items;
  each = refl;
  occurrences = refl;
}
