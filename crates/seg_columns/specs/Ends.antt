-- Parts that are told by where each ends: a number of eight bytes for each, counted from where the first begins.
use Rattle.std.specs.Prelude.{ℕ, zero, suc, ◌+◌, ◌*◌, ◌<◌, ◌≤◌, List}
use Rattle.seg_common.specs.LittleEndian.{u64_at}

-- where a part begins: where the one before it ends
unfoldable pub start_at : List ℕ → ℕ → ℕ
start_at ends zero = 0
start_at ends (suc i) = u64_at ends (8 * i)

-- none of this many parts ends before it begins
abbrev pub EndsRise : List ℕ → ℕ → Type 0
EndsRise ends count = (i : ℕ) → i < count → start_at ends i ≤ start_at ends (i + 1)
