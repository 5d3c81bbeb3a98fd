-- Numbers as decimal digits.
use Rattle.std.specs.Prelude.{ℕ, zero, suc, ◌+◌, ◌-◌, ◌*◌, ◌/◌, ◌%◌, List, [], ◌∷◌, ◌++◌, ◌==◌, Option, Some, None, if◌then◌else◌}
use Rattle.std.specs.Char.{is_ascii_digit}
use Rattle.std.specs.List.{list_all}
use Rattle.std.specs.Str.Parse.{digits_value}

-- this many digits of a number, the last ones
abbrev pub digits_text : ℕ → ℕ → List ℕ
digits_text zero n = []
digits_text (suc k) n = digits_text k (n / 10) ++ (48 + n % 10) ∷ []

-- digits without the zeros at their end
abbrev pub without_last_zeros : List ℕ → List ℕ
without_last_zeros [] = []
without_last_zeros (d ∷ ds) = if list_all (λ c. c == 48) (d ∷ ds) then [] else d ∷ without_last_zeros ds

-- the number that digits spell; none where another byte is among them
abbrev pub number_of : List ℕ → Option ℕ
number_of bytes = if list_all is_ascii_digit bytes then Some (digits_value 10 bytes) else None

-- what the digits after a point are worth of a whole: the first counts tenths of it, and the others are worth of a
-- tenth what they would be of the whole
abbrev pub parts_of : ℕ → List ℕ → ℕ
parts_of whole [] = 0
parts_of whole (d ∷ ds) = (d - 48) * (whole / 10) + parts_of (whole / 10) ds
