-- The text of a term.
use Rattle.std.specs.Prelude.{ℕ, ◌/◌, ◌%◌, List, [], ◌∷◌, Bool, not, ◌&&◌, ◌==◌, nat_le, if◌then◌else◌, codes}
use Rattle.std.specs.List.{flat_map}
use Rattle.std.specs.Char.{digit_char}

-- a byte that stands for itself: 0x21 to 0x7e, but not `\`
abbrev pub is_plain : ℕ → Bool
is_plain b = nat_le 0x21 b && nat_le b 0x7e && not (b == 92)

-- another byte is `\` and its two hexadecimal digits
abbrev pub byte_text : ℕ → List ℕ
byte_text b = if is_plain b then b ∷ [] else 92 ∷ digit_char (b / 16) ∷ digit_char (b % 16) ∷ []

-- the empty term is `\e`
abbrev pub term_text : List ℕ → List ℕ
term_text [] = codes "\\e"
term_text (b ∷ bs) = flat_map byte_text (b ∷ bs)
