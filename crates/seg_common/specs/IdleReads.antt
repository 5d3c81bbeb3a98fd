-- Reads that took no byte: at the end of a source, by a fault, or into an empty buffer.
use Rattle.std.specs.Prelude.{ℕ, ◌+◌, ◌≡◌, ◌≤◌, ◌⊎◌, Bool, true, false, nat_lt, if◌then◌else◌, Result, Ok, Err}
use Rattle.seg_common.specs.FaultCounts.{next_count}

-- how many reads took no byte, and whether the last read is one of them
pub record Idle : Type 0 where
  pub reads : ℕ
  pub last : Bool

-- how many bytes a read took; none where it failed
abbrev pub bytes_taken : {E : Type 0} → Result ℕ E → ℕ
bytes_taken (Ok n) = n
bytes_taken (Err _) = 0

-- one more read, of this many bytes
abbrev pub idle_after : Idle → ℕ → Idle
idle_after idle taken = if nat_lt 0 taken then record idle { last = false }
    else record { reads = next_count idle.reads; last = true }

-- each read in between but the last took a byte or more
abbrev pub OnlyLastIsIdle : Idle → Idle → Type 0
OnlyLastIsIdle old new = (new.reads ≤ old.reads) ⊎ ((new.reads ≤ old.reads + 1) × (new.last ≡ true))
