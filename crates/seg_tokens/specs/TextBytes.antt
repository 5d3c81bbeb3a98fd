-- The bytes of a text.
use Rattle.std.specs.Prelude.{ℕ, List, string_bytes}
use Rattle.seg_tokens.specs.declared.text.Kept.{Kept}
use Rattle.seg_tokens.specs.declared.text.Kept.TheVariants.{Inline, Allocated}

abbrev pub text_bytes : Kept → List ℕ
text_bytes (Inline text) = text.bytes
text_bytes (Allocated text) = string_bytes text
