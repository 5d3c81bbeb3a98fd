-- Cases of JSON fields.
use Rattle.std.proofs.Common.{refl}
use Rattle.seg_model_cases.specs.Json.{JsonCases}

pub json_cases : JsonCases
json_cases = record {
  lengths = λ analyze e values. refl;
  by_option = refl;
  number_codes = refl;
  bool_between_texts = refl;
  empty_key_terms = refl;
  empty_key_columns = refl;
  arrays_above = refl;
  deep_term = refl;
  moments = refl;
  moment_terms = refl;
}
