-- A writer of a segment is made where nothing is refused.
use Rattle.std.proofs.Common.{◌≡◌, ℕ, ◌≤◌, arith, true, false, [], ◌∷◌, None, ap}
use Rattle.std.specs.Prelude.{nat_le, not}
use Rattle.std.specs.List.{list_any}
use Rattle.std.proofs.lemmas.Bool.{or_parts}
use Rattle.std.proofs.lemmas.Bool.Decides.{nat_tests}
use Rattle.seg_values.specs.declared.error.ArgumentCause.TheVariants.{Budget, FieldName, Settings, FastTokenizer}
use Rattle.seg_values.specs.declared.error.SchemaCause.TheVariants.{Tokenizer}
use Rattle.seg_values.specs.declared.error.TantivyError.TheVariants.{InvalidArgument, SchemaError}
use Rattle.seg_meta.specs.MetaMeaning.{settings_of}
use Rattle.seg_meta.specs.declared.index_settings.IndexSettings.{IndexSettings}
use Rattle.seg_model.specs.DocumentCheck.{unless}
use Rattle.seg_model.specs.Fields.{Schema}
use Rattle.seg_model.specs.ValidInputs.{Known, names_fit, settings_fit, unknown_tokenizer_of, has_unknown_fast_tokenizer}
use Rattle.seg_model.proofs.Exports.{map_none, or_none}
use Rattle.seg_column_format.specs.FastTokenizers.{AreKnown}
use Rattle.seg_check.specs.WriterStart.{least_budget, start_refusal}

-- no fast tokenizer lacks
pub all_known : (known : Known) (schema : Schema) → list_any (has_unknown_fast_tokenizer known) schema ≡ false → AreKnown known schema
all_known known [] h = tt
all_known known (e ∷ es) h =
    let two = or_parts (has_unknown_fast_tokenizer known e) (list_any (has_unknown_fast_tokenizer known) es) h in
    (two.0, all_known known es two.1)

pub none_refused : (known : Known) (budget : ℕ) (schema : Schema) (settings : IndexSettings) → least_budget ≤ budget
    → names_fit schema ≡ true → settings_fit (settings_of settings) ≡ true → unknown_tokenizer_of known schema ≡ None
    → list_any (has_unknown_fast_tokenizer known) schema ≡ false → start_refusal known budget schema settings ≡ None
none_refused known budget schema settings enough names fit tokenizers fast =
    or_none _ _ (ap (λ b. unless b (InvalidArgument Budget)) (let h : nat_le least_budget budget ≡ true = grind (arith, nat_tests) in h))
    (or_none _ _ (ap (λ b. unless b (InvalidArgument FieldName)) names)
    (or_none _ _ (ap (λ b. unless b (InvalidArgument Settings)) fit)
    (or_none _ _ (map_none (λ field. SchemaError (Tokenizer field)) (unknown_tokenizer_of known schema) tokenizers)
    (ap (λ b. unless (not b) (InvalidArgument FastTokenizer)) fast))))
