-- The number that a word names.
use Rattle.std.specs.Prelude.{ℕ, ◌^◌, List, if◌then◌else◌, Option, Some, None, nat_lt, decimal}
use Rattle.std.specs.Str.{bytes_eq}
use Rattle.std.specs.Str.Parse.{digits_value}

-- the number below 2^32 of which it is the decimal text
abbrev pub seed_named : List ℕ → Option ℕ
seed_named word =
    if nat_lt (digits_value 10 word) (2 ^ 32)
    then (if bytes_eq word (decimal (digits_value 10 word)) then Some (digits_value 10 word) else None)
    else None
