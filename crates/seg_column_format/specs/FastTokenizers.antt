-- The tokenizers that fast fields name.
use Rattle.std.specs.Prelude.{◌≡◌, false}
use Rattle.std.specs.List.{AllByRecursion}
use Rattle.seg_model.specs.Fields.{Schema}
use Rattle.seg_model.specs.ValidInputs.{Known, has_unknown_fast_tokenizer}

-- the fast tokenizers of a schema are known
abbrev pub AreKnown : Known → Schema → Type 0
AreKnown known schema = AllByRecursion (λ e. has_unknown_fast_tokenizer known e ≡ false) schema
