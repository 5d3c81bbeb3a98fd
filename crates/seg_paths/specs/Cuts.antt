-- Where a path is cut into parts.
use Rattle.std.specs.Prelude.{ℕ, Bool, ◌&&◌, ◌||◌, ◌==◌}

-- at a byte 1, and at a dot where dots are expanded
abbrev pub is_cut : Bool → ℕ → Bool
is_cut expand_dots byte = byte == 1 || (expand_dots && byte == 46)
