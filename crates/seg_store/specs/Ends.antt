-- Bytes cut at ends: parts one after the other, each up to where it ends.
use Rattle.std.specs.Prelude.{ℕ, zero, suc, ◌-◌, ◌==◌, ◌&&◌, nat_le, List, [], ◌∷◌, Bool, length, take, drop, slice_range}
use Rattle.seg_common.specs.LittleEndian.{u64_at}

-- the last bytes, this many
abbrev pub last_bytes : ℕ → List ℕ → List ℕ
last_bytes n bytes = drop (length bytes - n) bytes

-- all bytes but the last, this many
abbrev pub but_last : ℕ → List ℕ → List ℕ
but_last n bytes = take (length bytes - n) bytes

-- the first numbers of a table, eight bytes each
abbrev pub numbers_of : ℕ → List ℕ → List ℕ
numbers_of zero table = []
numbers_of (suc n) table = u64_at table 0 ∷ numbers_of n (drop 8 table)

-- ends never fall from a start, and the last is the total
abbrev pub are_ends : ℕ → ℕ → List ℕ → Bool
are_ends start total [] = start == total
are_ends start total (e ∷ es) = nat_le start e && are_ends e total es

-- what the ends cut bytes into
abbrev pub cut_from : ℕ → List ℕ → List ℕ → List (List ℕ)
cut_from start [] bytes = []
cut_from start (e ∷ es) bytes = slice_range bytes start e ∷ cut_from e es bytes

-- where a part starts: where the one before it ends
abbrev pub start_of : ℕ → List ℕ → ℕ → ℕ
start_of start ends zero = start
start_of start [] (suc i) = start
start_of start (e ∷ es) (suc i) = start_of e es i
