-- Fields with the same options.
use Rattle.std.proofs.Common.{◌≡◌, ◌∙◌, Bool, ap}
use Rattle.seg_common.specs.declared.precision.DateTimePrecision.{DateTimePrecision}
use Rattle.seg_values.specs.declared.schema.FieldEntry.{FieldEntry}
use Rattle.seg_values.specs.declared.schema.FieldKind.{FieldKind}
use Rattle.seg_values.specs.declared.schema.IndexOption.{IndexOption}
use Rattle.seg_index_build.specs.EntryOptions.{Options, options_of}

abbrev made : FieldKind → IndexOption → DateTimePrecision → Bool → Bool → Bool → Bool → Options
made kind index precision stored norms fast expand_dots = record {
  kind = kind;
  index = index;
  precision = precision;
  stored = stored;
  norms = norms;
  fast = fast;
  expand_dots = expand_dots;
}

pub options_same : (a b : FieldEntry) → a.kind ≡ b.kind → a.index ≡ b.index → a.precision ≡ b.precision → a.stored ≡ b.stored
    → a.norms ≡ b.norms → a.fast ≡ b.fast → a.expand_dots ≡ b.expand_dots → options_of a ≡ options_of b
options_same a b kind index precision stored norms fast dots =
    ap (λ (x : FieldKind). made x a.index a.precision a.stored a.norms a.fast a.expand_dots) kind
    ∙ ap (λ (x : IndexOption). made b.kind x a.precision a.stored a.norms a.fast a.expand_dots) index
    ∙ ap (λ (x : DateTimePrecision). made b.kind b.index x a.stored a.norms a.fast a.expand_dots) precision
    ∙ ap (λ (x : Bool). made b.kind b.index b.precision x a.norms a.fast a.expand_dots) stored
    ∙ ap (λ (x : Bool). made b.kind b.index b.precision b.stored x a.fast a.expand_dots) norms
    ∙ ap (λ (x : Bool). made b.kind b.index b.precision b.stored b.norms x a.expand_dots) fast
    ∙ ap (λ (x : Bool). made b.kind b.index b.precision b.stored b.norms b.fast x) dots
