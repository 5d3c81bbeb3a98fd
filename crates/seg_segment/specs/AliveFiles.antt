-- What the alive file of a segment holds.
use Rattle.std.specs.Prelude.{◌≡◌, ℕ, List, length, Bool, true, Option, None, Some, replicate}
use Rattle.std.specs.FinMap.{get}
use Rattle.seg_common.specs.declared.name.FileName.TheVariants.{Alive}
use Rattle.seg_directory.specs.Files.{NamedFiles}
use Rattle.seg_bits.specs.BitSets.{set_of}
use Rattle.seg_meta.specs.IndexOfFiles.{Deletes}

-- the alive file of an id and a stamp is there, and its bytes tell of this many documents which are alive
pub record HoldsAlive (files : NamedFiles) (id stamp documents : ℕ) (alive : List Bool) : Type 0 where
  pub file : List ℕ
  pub there : get files (Alive id stamp) ≡ Some file
  pub set : set_of file ≡ Some alive
  pub counted : length alive ≡ documents

-- the alive file holds these marks; without deletes all are alive
abbrev pub HoldsMarks : NamedFiles → ℕ → ℕ → Option Deletes → List Bool → Type 0
HoldsMarks files id documents None alive = alive ≡ replicate documents true
HoldsMarks files id documents (Some d) alive = HoldsAlive files id d.stamp documents alive
