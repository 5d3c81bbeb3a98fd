-- Type codes with the numbers after them.
use Rattle.std.specs.Prelude.{ℕ, List, [], ◌∷◌, Option, None, Some}
use Rattle.seg_values.specs.JsonTerms.{code_bytes}
use Rattle.seg_values.specs.declared.fast_value.LeafCode.{LeafCode}

-- the bytes, where there is a code
abbrev pub codes_of : Option LeafCode → List (List ℕ)
codes_of None = []
codes_of (Some c) = code_bytes c ∷ []
