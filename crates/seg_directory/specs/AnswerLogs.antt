-- The answers that a directory keeps, with the count of its faults.
use Rattle.std.specs.Prelude.{ℕ, List, [], ◌∷◌, ◌++◌}
use Rattle.seg_common.specs.FaultCounts.{next_count}
use Rattle.seg_directory.specs.declared.answer.Answer.{Answer}
use Rattle.seg_directory.specs.declared.answer.Answer.TheVariants as answer
use Rattle.seg_directory.specs.declared.answer.CallKind.{CallKind}
use Rattle.seg_directory.specs.declared.error.DirectoryError.{DirectoryError}
use Rattle.seg_directory.specs.declared.error.DirectoryError.TheVariants.{Missing, Exists, Fault, OutOfMemory}

-- the answers so far, and how many faults there were
pub record Kept : Type 0 where
  pub answers : List Answer
  pub faults : ℕ

-- what is kept, and for how many more answers there is room
pub record LogState : Type 0 where
  pub kept : Kept
  pub room : ℕ

-- one more answer
abbrev pub with_answer : Kept → Answer → Kept
with_answer k given = record k { answers = k.answers ++ given ∷ [] }

-- one more fault, in a call of this kind
abbrev pub with_fault : Kept → CallKind → Kept
with_fault k kind = record { answers = k.answers ++ answer.Failed kind ∷ []; faults = next_count k.faults }

-- what is kept of a call's failure: a fault, by the call's kind
abbrev pub noted_failure : CallKind → DirectoryError → List Answer
noted_failure kind Fault = answer.Failed kind ∷ []
noted_failure kind Missing = []
noted_failure kind Exists = []
noted_failure kind OutOfMemory = []
