-- What is seen of a source and a sink in memory, and what a call makes of it.
use Rattle.std.specs.Prelude.{ℕ, ◌≡◌, ◌<◌, ◌⊎◌, List, ◌++◌, Contains, Result, Ok, Err, length, take, drop}
use Rattle.seg_common.specs.FaultCounts.{next_count}
use Rattle.seg_common.specs.IdleReads.{Idle, idle_after}

-- the bytes left, the numbers of the calls that fail, how many calls and faults there were, and the idle reads
pub record SourceState : Type 0 where
  pub left : List ℕ
  pub fails : List ℕ
  pub calls : ℕ
  pub faults : ℕ
  pub idle : Idle

-- the bytes taken, how many may be, the numbers of the calls that fail, and how many calls and faults there were
pub record SinkState : Type 0 where
  pub written : List ℕ
  pub room : ℕ
  pub fails : List ℕ
  pub calls : ℕ
  pub faults : ℕ

-- one more call, and the bytes given are no longer left, or one more fault
abbrev pub source_after : {E : Type 0} → SourceState → Result ℕ E → SourceState
source_after s (Ok n) = record s { left = drop n s.left; calls = next_count s.calls; idle = idle_after s.idle n }
source_after s (Err _) =
    record s { calls = next_count s.calls; faults = next_count s.faults; idle = idle_after s.idle 0 }

-- the call's number is one that fails, or the sink is full and the piece is not empty
abbrev pub IsRefused : SinkState → List ℕ → Type 0
IsRefused s bytes = Contains s.fails s.calls ⊎ ((length s.written ≡ s.room) × (0 < length bytes))

-- one more call, and the bytes taken are written, or one more fault
abbrev pub sink_after : {E : Type 0} → SinkState → Result ℕ E → List ℕ → SinkState
sink_after s (Ok n) bytes = record s { written = s.written ++ take n bytes; calls = next_count s.calls }
sink_after s (Err _) bytes = record s { calls = next_count s.calls; faults = next_count s.faults }
