-- Tokenizers that were registered one after another.
use Rattle.std.proofs.Common.{◌≡◌, ◌≢◌, ◌∙◌, ℕ, Bool, true, false, List, Result, Ok, Err, sym, refl, ap}
use Rattle.std.specs.Prelude.{OnOk, codes, is_err}
use Rattle.seg_tokens.specs.RegisteredTokenizers.{Registers}
use Rattle.seg_tokens.specs.Tokenizers.{default_tokens}
use Rattle.seg_tokens.specs.declared.token.Token.{Token}
use Rattle.seg_generate.specs.GeneratedTexts.{DefaultTakesTexts, TakesTexts}
use mathlib.Core.Bool.{true≢false}

on_ok : {T E : Type 0} (r : Result T E) (P : Type 0) → is_err r ≡ false → OnOk r P → P
on_ok (Ok x) P h p = p
on_ok (Err e) P h p = absurd (true≢false h)

-- `default`, and then two others
pub taken_at_the_end : {T E : Type 0} → DefaultTakesTexts
    → (r_1 r_2 r_3 : Result T E) (knew known_1 known_2 known_3 : List ℕ → Bool)
    (told tells_1 tells_2 tells_3 : List ℕ → List ℕ → List Token) (tokens raw whitespace : List ℕ → List Token)
    → is_err r_1 ≡ false → OnOk r_1 (Registers knew known_1 told tells_1 (codes "default") tokens)
    → is_err r_2 ≡ false → OnOk r_2 (Registers known_1 known_2 tells_1 tells_2 (codes "raw") raw)
    → is_err r_3 ≡ false → OnOk r_3 (Registers known_2 known_3 tells_2 tells_3 (codes "whitespace") whitespace)
    → ((text : List ℕ) → tokens text ≡ default_tokens text)
    → TakesTexts known_3 tells_3
taken_at_the_end law r_1 r_2 r_3 knew known_1 known_2 known_3 told tells_1 tells_2 tells_3 tokens raw whitespace ok_1 did_1 ok_2 did_2 ok_3 did_3 same =
    let first = on_ok r_1 (Registers knew known_1 told tells_1 (codes "default") tokens) ok_1 did_1 in
    let second = on_ok r_2 (Registers known_1 known_2 tells_1 tells_2 (codes "raw") raw) ok_2 did_2 in
    let third = on_ok r_3 (Registers known_2 known_3 tells_2 tells_3 (codes "whitespace") whitespace) ok_3 did_3 in
    law known_3 tells_3
    (third.known (codes "default") ∙ second.known (codes "default") ∙ first.known (codes "default"))
    (λ text. third.others (codes "default") text (λ e. cc e) ∙ second.others (codes "default") text (λ e. cc e) ∙ first.registered text ∙ same text)
