-- A document that is not taken is not added.
use Rattle.std.proofs.Common.{◌≡◌, ◌⊎◌, inl, inr, ◌<◌, ◌-◌, ◌^◌, ℕ, Some, None, Option, length, option_map, refl, sym, ap, ◌∙◌, subst}
use Rattle.std.specs.Prelude.{IfSome, IsSomeAnd}
use Rattle.seg_values.specs.declared.error.TantivyError.{TantivyError}
use Rattle.seg_values.specs.declared.error.TantivyError.TheVariants.{OutOfMemory}
use Rattle.seg_values.specs.Tree.{Document}
use Rattle.seg_model.specs.DocumentCheck.{Cause, at_place, document_refusal}
use Rattle.seg_model.specs.Fields.{Schema, Analyzer}
use Rattle.seg_model.proofs.Exports.{some_none}
use Rattle.seg_check.proofs.Exports.{cause-has}
use Rattle.seg_build.specs.SegmentWriters.{kept_of, SegmentWriting, HasPlace, Tells, AddsNone}
use Rattle.seg_build.specs.declared.writer_parts.WriterParts.{WriterParts}
use Rattle.seg_build.proofs.WriterContents.{to_parts}

module _ (analyzer : Analyzer) (document : Document) (stamp : ℕ) (old new : SegmentWriting) (place : IsSomeAnd old.kept HasPlace) (same : new ≡ old) where
  -- where the cause is that of the document
  abbrev IsTold : Cause → Type 0
  IsTold cause = Tells old.schema analyzer document stamp (cause stamp) → AddsNone analyzer document stamp old new (cause stamp)

  pub adds_none : (e : TantivyError) → Tells old.schema analyzer document stamp e → AddsNone analyzer document stamp old new e
  adds_none e tells = by (document_refusal old.schema analyzer document) refl (cause-has IsTold (record {
    unknown = λ t. (place, t, same);
    wrong = λ field t. (place, t, same);
    leaf = λ t. (place, t, same);
    key = λ t. (place, t, same);
    falls = λ t. (place, t, same);
    past = λ t. (place, t, same);
  }) old.schema analyzer document)
    where
      inner : (x y : TantivyError) → Some x ≡ Some y → x ≡ y
      inner x y h = cc

      by : (o : Option Cause) → document_refusal old.schema analyzer document ≡ o → IfSome o IsTold → AddsNone analyzer document stamp old new e
      by None is h = absurd (some_none e (sym (sym (ap (at_place stamp) is) ∙ tells)))
      by (Some cause) is h = subst (AddsNone analyzer document stamp old new) (inner (cause stamp) e (sym (ap (at_place stamp) is) ∙ tells)) (h (ap (at_place stamp) is))

-- the parts that a writer had are its parts again
pub refused : (analyzer : Analyzer) (document : Document) (stamp : ℕ) (schema : Schema) (id size : ℕ) (parts : Option WriterParts) (p : WriterParts) → parts ≡ Some p → length p.stamps.items < 2 ^ 31 - 1 → (e : TantivyError) → (e ≡ OutOfMemory) ⊎ Tells schema analyzer document stamp e → (e ≡ OutOfMemory → ⊥)
    → AddsNone analyzer document stamp (record { schema = schema; id = id; block_size = size; kept = option_map kept_of parts }) (record { schema = schema; id = id; block_size = size; kept = Some (kept_of p) }) e
refused analyzer document stamp schema id size parts p is place e (inl memory) other = absurd (other memory)
refused analyzer document stamp schema id size parts p is place e (inr tells) other =
    adds_none analyzer document stamp (record { schema = schema; id = id; block_size = size; kept = option_map kept_of parts }) (record { schema = schema; id = id; block_size = size; kept = Some (kept_of p) })
    (to_parts HasPlace parts p is place) (λ i. record { schema = schema; id = id; block_size = size; kept = option_map kept_of (sym is i) }) e tells
