-- Terms of bytes that all stand for themselves.
use Rattle.std.proofs.Common.{◌≡◌, ◌<◌, arith, length, ℕ, List, [], ◌∷◌, ◌++◌, true, flat_map, refl, ap, ◌∙◌}
use Rattle.std.proofs.lemmas.Bool.{and_parts}
use Rattle.std.specs.List.{list_all}
use Rattle.seg_text.specs.TermText.{is_plain, byte_text, term_text}

byte_text-plain : (b : ℕ) → is_plain b ≡ true → byte_text b ≡ b ∷ []
byte_text-plain b plain = rw plain

bytes_text-plain : (bs : List ℕ) → list_all is_plain bs ≡ true → flat_map byte_text bs ≡ bs
bytes_text-plain [] plain = refl
bytes_text-plain (b ∷ bs) plain =
    let parts = and_parts (is_plain b) (list_all is_plain bs) plain in
    ap (λ xs. xs ++ flat_map byte_text bs) (byte_text-plain b parts.0) ∙ ap (λ xs. b ∷ xs) (bytes_text-plain bs parts.1)

-- such a term is its own text, unless it is empty
pub term_text-plain : (bs : List ℕ) → list_all is_plain bs ≡ true → 0 < length bs → term_text bs ≡ bs
term_text-plain [] plain some = absurd (omega arith)
term_text-plain (b ∷ bs) plain some = bytes_text-plain (b ∷ bs) plain
