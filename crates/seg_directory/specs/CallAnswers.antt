-- What a call of a directory answers to those above it, and what that shows.
use Rattle.std.specs.Prelude.{ℕ, ◌≡◌, List, [], ◌∷◌, Option, Some, None, IsSome, Result, Ok, Err, ⊤}
use Rattle.std.specs.FinMap.{get, insert}
use Rattle.seg_common.specs.declared.name.FileName.{FileName}
use Rattle.seg_values.specs.declared.error.TantivyError.{TantivyError}
use Rattle.seg_values.specs.declared.error.TantivyError.TheVariants.{IndexAlreadyExists, OpenReadError, OpenWriteError, IoError, DataCorruption}
use Rattle.seg_directory.specs.FileChanges.{MayBeTorn}
use Rattle.seg_directory.specs.Files.{NamedFiles}
use Rattle.seg_directory.specs.declared.answer.Answer.{Answer}
use Rattle.seg_directory.specs.declared.answer.Answer.TheVariants as answer
use Rattle.seg_directory.specs.declared.answer.CallKind.TheVariants as kind

-- what a listing adds to the answers of the directory
abbrev pub seen_listing : Result ℕ TantivyError → List Answer
seen_listing (Ok n) = answer.Listed n ∷ []
seen_listing (Err OpenReadError) = answer.Failed kind.List ∷ []
seen_listing (Err _) = []

-- what a reading adds
abbrev pub seen_reading : FileName → Result (List ℕ) TantivyError → List Answer
seen_reading name (Ok bytes) = answer.Read name bytes ∷ []
seen_reading name (Err (DataCorruption _)) = answer.Missing name ∷ []
seen_reading name (Err OpenReadError) = answer.Failed kind.OpenRead ∷ []
seen_reading name (Err _) = []

-- what the making of a file adds
abbrev pub seen_writing : FileName → Result Unit TantivyError → List Answer
seen_writing name (Ok _) = answer.Wrote name ∷ []
seen_writing name (Err IndexAlreadyExists) = answer.There name ∷ []
seen_writing name (Err OpenWriteError) = answer.Failed kind.WriteNew ∷ []
seen_writing name (Err _) = []

-- what the replacing of a file adds
abbrev pub seen_rewriting : FileName → Result Unit TantivyError → List Answer
seen_rewriting name (Ok _) = answer.Wrote name ∷ []
seen_rewriting name (Err IoError) = answer.Failed kind.AtomicWrite ∷ []
seen_rewriting name (Err _) = []

-- what a syncing adds
abbrev pub seen_syncing : Result Unit TantivyError → List Answer
seen_syncing (Err IoError) = answer.Failed kind.SyncDirectory ∷ []
seen_syncing _ = []

-- a reading gives the bytes of the file, or finds the index damaged where there is none
abbrev pub ReadsFile : Option (List ℕ) → Result (List ℕ) TantivyError → Type 0
ReadsFile file (Ok bytes) = file ≡ Some bytes
ReadsFile file (Err (DataCorruption _)) = file ≡ None
ReadsFile file (Err _) = ⊤

-- a file is made where there was none; where there is one nothing changes; where the making fails the file may be torn
abbrev pub WritesFile : FileName → List ℕ → Result Unit TantivyError → NamedFiles → NamedFiles → Type 0
WritesFile name bytes (Ok _) old new = (get old name ≡ None) × (new ≡ insert old name bytes)
WritesFile name bytes (Err IndexAlreadyExists) old new = IsSome (get old name) × (new ≡ old)
WritesFile name bytes (Err _) old new = MayBeTorn name old new
