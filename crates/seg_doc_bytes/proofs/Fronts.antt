-- What is taken from the front of bytes.
use Rattle.std.proofs.Common.{◌≡◌, ℕ, ◌≤◌, Bool, true, false, cond, List, [], take, drop, length, Some, None, Option, refl, sym, ap, ◌∙◌, arith, if◌then◌else◌}
use Rattle.std.specs.Prelude.{nat_le}
use Rattle.std.specs.Int.{w64, from_le_bytes}
use Rattle.std.specs.Str.{IsUtf8, is_utf8}
use Rattle.std.proofs.Math.Seq.{take-length}
use Rattle.std.proofs.lemmas.Bool.Decides.{nat_tests}
use Rattle.std.proofs.lemmas.List.{length-take-le}
use Rattle.std.proofs.lemmas.Str.{IsUtf8-from_is_utf8, is_utf8-from_IsUtf8}
use Rattle.seg_common.specs.LittleEndian.{u64_at}
use Rattle.seg_doc_bytes.specs.FrontReaders.{then_read, front, number_at, sized_at, text_at}

within : (n : ℕ) (bytes : List ℕ) → nat_le n (length bytes) ≡ true → n ≤ length bytes
within n bytes h = grind (arith, nat_tests)

-- the bytes that were taken, if any were
abbrev front_of : Option (List ℕ × List ℕ) → List ℕ
front_of None = []
front_of (Some p) = p.0

taken : (n : ℕ) (bytes x rest : List ℕ) (b : Bool) → nat_le n (length bytes) ≡ b → cond {A = Option (List ℕ × List ℕ)} b (Some (take n bytes, drop n bytes)) None ≡ Some (x, rest) → length x ≡ n
taken n bytes x rest true le is = ap (λ o. length (front_of o)) (sym is) ∙ length-take-le n bytes (within n bytes le)
taken n bytes x rest false le is = absurd (none (x, rest) is)
  where
    none : (p : List ℕ × List ℕ) → ◌≡◌ {A = Option (List ℕ × List ℕ)} None (Some p) → ⊥
    none p e = cc

front_length : (n : ℕ) (bytes x rest : List ℕ) → front n bytes ≡ Some (x, rest) → length x ≡ n
front_length n bytes x rest is = taken n bytes x rest (nat_le n (length bytes)) refl is

whole : (word : List ℕ) → length word ≡ 8 → u64_at word 0 ≡ from_le_bytes w64 word
unfolding u64_at
whole word eight = ap (λ n. from_le_bytes w64 (take n word)) (sym eight) ∙ ap (from_le_bytes w64) (take-length word)

pub number_taken : (bytes word rest : List ℕ) (n : ℕ) → front 8 bytes ≡ Some (word, rest) → n ≡ u64_at word 0 → number_at bytes ≡ Some (n, rest)
number_taken bytes word rest n is n_is =
    ap (λ r. then_read r (λ w after. Some (from_le_bytes w64 w, after))) is
    ∙ ap (λ (m : ℕ). Some (m, rest)) (sym (n_is ∙ whole word (front_length 8 bytes word rest is)))

pub text_taken : (bytes text rest : List ℕ) → sized_at bytes ≡ Some (text, rest) → IsUtf8 text → text_at bytes ≡ Some (text, rest)
text_taken bytes text rest is utf8 =
    ap (λ r. then_read r (λ t after. if is_utf8 t then Some (t, after) else None)) is
    ∙ ap (λ b. if b then Some (text, rest) else None) (is_utf8-from_IsUtf8 text utf8)

no_text : (text rest : List ℕ) (b : Bool) → is_utf8 text ≡ b → (IsUtf8 text → ⊥) → cond {A = Option (List ℕ × List ℕ)} b (Some (text, rest)) None ≡ None
no_text text rest true e refused = absurd (refused (IsUtf8-from_is_utf8 text e))
no_text text rest false e refused = refl

pub text_refused : (bytes text rest : List ℕ) → sized_at bytes ≡ Some (text, rest) → (IsUtf8 text → ⊥) → text_at bytes ≡ None
text_refused bytes text rest is refused =
    ap (λ r. then_read r (λ t after. if is_utf8 t then Some (t, after) else None)) is
    ∙ no_text text rest (is_utf8 text) refl refused
