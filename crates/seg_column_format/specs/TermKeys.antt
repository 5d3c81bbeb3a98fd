-- The bytes of a term, as a table keeps them.
use Rattle.std.specs.Prelude.{◌≡◌, ℕ, List, [], ◌∷◌, IsTrue}
use Rattle.std.proofs.Common.{ap}
use Rattle.std.specs.Cmp.Lexicographic.{bytes_decides}
use Rattle.std.specs.Str.{bytes_eq}
use Rattle.seg_column_format.specs.declared.term_key.KeptBytes.{KeptBytes}
use Rattle.seg_column_format.specs.declared.term_key.KeptBytes.TheVariants.{Inline, Allocated}

abbrev pub kept_bytes : KeptBytes → List ℕ
kept_bytes (Inline bytes) = bytes.items
kept_bytes (Allocated bytes) = bytes.items

-- keys with the same bytes are hashed alike
pub same_input : (x y : List ℕ) → IsTrue (bytes_eq x y) → x ∷ [] ≡ y ∷ []
same_input x y h = ap (λ bytes. bytes ∷ []) ((bytes_decides x y).0 h)
