-- What a call of a directory says about the files, and what it makes of them.
use Rattle.std.specs.Prelude.{ℕ, ◌≡◌, ◌≢◌, ◌⊎◌, List, Option, Some, None, IsSome, Result, Ok, Err, ⊤}
use Rattle.std.specs.FinMap.{get, insert}
use Rattle.seg_common.specs.declared.name.FileName.{FileName}
use Rattle.seg_directory.specs.Files.{NamedFiles}
use Rattle.seg_directory.specs.declared.error.DirectoryError.{DirectoryError}
use Rattle.seg_directory.specs.declared.error.DirectoryError.TheVariants.{Missing, Exists, Fault, OutOfMemory}

-- the files of all other names stay
abbrev pub KeepsOthers : FileName → NamedFiles → NamedFiles → Type 0
KeepsOthers name old new = (other : FileName) → other ≢ name → get new other ≡ get old other

-- a reading gives the bytes of the file, or says that there is none
abbrev pub Opens : Option (List ℕ) → Result (List ℕ) DirectoryError → Type 0
Opens file (Ok bytes) = file ≡ Some bytes
Opens file (Err Missing) = file ≡ None
Opens file (Err Exists) = ⊤
Opens file (Err Fault) = ⊤
Opens file (Err OutOfMemory) = ⊤

-- the file is as before, or there with any bytes
abbrev pub MayBeTorn : FileName → NamedFiles → NamedFiles → Type 0
MayBeTorn name old new = (get new name ≡ get old name) ⊎ IsSome (get new name)

-- a file is made where there was none; where there is one nothing changes; where the making fails the file may be torn
abbrev pub WritesNew : FileName → List ℕ → Result Unit DirectoryError → NamedFiles → NamedFiles → Type 0
WritesNew name bytes (Ok _) old new = (get old name ≡ None) × (new ≡ insert old name bytes)
WritesNew name bytes (Err Exists) old new = IsSome (get old name) × (new ≡ old)
WritesNew name bytes (Err Missing) old new = ⊤
WritesNew name bytes (Err Fault) old new = MayBeTorn name old new
WritesNew name bytes (Err OutOfMemory) old new = MayBeTorn name old new

-- the file is the new one; where the replacing fails it is the old one or the new one
abbrev pub Replaces : {E : Type 0} → FileName → List ℕ → Result Unit E → NamedFiles → NamedFiles → Type 0
Replaces name bytes (Ok _) old new = new ≡ insert old name bytes
Replaces name bytes (Err _) old new = (new ≡ old) ⊎ (new ≡ insert old name bytes)
