-- A call of a directory.
use Rattle.std.specs.Prelude.{ℕ, List}
use Rattle.seg_common.specs.declared.name.FileName.{FileName}

-- a call, by what it answers where it goes well
pub data Call : Type 0 where
  listed : ℕ → Call
  read : FileName → List ℕ → Call
  made : FileName → List ℕ → Call
  replaced : FileName → List ℕ → Call
  synced : Call
