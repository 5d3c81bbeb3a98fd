-- What a writer of a segment keeps of the documents added so far.
use Rattle.std.specs.Prelude.{ℕ, List, Option}
use Rattle.seg_fastfield.specs.FastFieldWriters.{FastWriting}
use Rattle.seg_store.specs.WriterBlocks.{Taken}
use Rattle.seg_build.specs.FieldState.{FieldSoFar}

-- the terms of each field, the lengths of each that has lengths, the values in fast fields, what the store took, the
-- stamps, and how often terms occur
pub record Kept : Type 0 where
  pub fields : List FieldSoFar
  pub norms : Option (List (Option (List ℕ)))
  pub fast : FastWriting
  pub store : Option Taken
  pub stamps : List ℕ
  pub occurrences : ℕ
