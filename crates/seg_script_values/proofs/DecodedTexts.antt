-- Bytes as texts encode them.
use Rattle.std.proofs.Common.{◌≡◌, ℕ, List, Some, None, Result, Ok, Err, sym, ap, ◌∙◌, rules}
use Rattle.std.specs.Prelude.{◌↔◌}
use Rattle.std.specs.Result.{result_ok}
use Rattle.std.proofs.lemmas.Option.{none-some, same_Some}
use Rattle.base64.specs.declared.decode.DecodeError.{DecodeError}
use Rattle.base64.specs.Engines.{standard}
use Rattle.base64.specs.GeneralPurpose.{decode_of, encode_of, IsBytes, IsStrict}
use Rattle.seg_script_values.specs.ByteTexts.{bytes_of}

is_ok : {E : Type 0} (r : Result (List ℕ) E) (b : List ℕ) → result_ok r ≡ Some b → r ≡ Ok b
is_ok (Ok x) b h = ap Ok (same_Some x b h)
is_ok (Err e) b h = absurd (none-some b h)

-- what a text decodes to
pub decoded : (text seen b : List ℕ) → seen ≡ text → decode_of standard seen ≡ Ok b → bytes_of text ≡ Some b
unfolding bytes_of
decoded text seen b same h = ap (λ t. result_ok (decode_of standard t)) (sym same) ∙ ap result_ok h

-- a text that fails to decode
pub failed : (text seen : List ℕ) (e : DecodeError) → seen ≡ text → decode_of standard seen ≡ Err e → bytes_of text ≡ None
unfolding bytes_of
failed text seen e same h = ap (λ t. result_ok (decode_of standard t)) (sym same) ∙ ap result_ok h

is_strict : IsStrict standard
is_strict = search rules

decodes : (text b : List ℕ) → bytes_of text ≡ Some b → decode_of standard text ≡ Ok b
unfolding bytes_of
decodes text b h = is_ok (decode_of standard text) b h

-- just the texts that encode bytes are read
pub strict : (text seen : List ℕ) → seen ≡ text → (IsStrict standard → (b : List ℕ) → IsBytes b → (decode_of standard seen ≡ Ok b) ↔ (seen ≡ encode_of standard b)) → (b : List ℕ) → IsBytes b → (bytes_of text ≡ Some b) ↔ (text ≡ encode_of standard b)
strict text seen same law b bytes = (
  λ h. sym same ∙ (law is_strict b bytes).0 (ap (decode_of standard) same ∙ decodes text b h),
  λ h. decoded text seen b same ((law is_strict b bytes).1 (same ∙ h)),
)
