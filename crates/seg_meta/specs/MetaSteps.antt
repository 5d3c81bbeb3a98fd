-- What is done with the directory of an index in turn: its meta is saved or loaded.
use Rattle.std.specs.Prelude.{ℕ, ◌≡◌, List, [], ◌∷◌, Option, Some, None, is_some, if◌then◌else◌, Result, IfOk}
use Rattle.seg_common.specs.declared.name.FileName.TheVariants as name
use Rattle.seg_values.specs.declared.error.TantivyError.{TantivyError}
use Rattle.seg_values.specs.declared.error.TantivyError.TheVariants.{DataCorruption}
use Rattle.seg_directory.specs.Calls.{listed, read, replaced, synced}
use Rattle.seg_directory.specs.DirectoryStates.{DirectoryState}
use Rattle.seg_directory.specs.DirectorySteps.{Step, Works, calls, passes}
use Rattle.seg_meta.specs.ParsedMeta.{meta_read}
use Rattle.seg_meta.specs.MetaMeaning.{meta_of}
use Rattle.seg_meta.specs.declared.index_meta.IndexMeta.{IndexMeta}

-- all files reach the disk, and then the file of the meta is replaced
abbrev pub save_steps : List ℕ → List Step
save_steps text = calls synced ∷ (calls (replaced name.Meta text) ∷ [])

-- an index is begun where there is no file
abbrev pub create_steps : List ℕ → List Step
create_steps text = calls (listed 0) ∷ save_steps text

-- bytes that say no meta are damaged
abbrev pub meta_damage : List ℕ → Option TantivyError
meta_damage bytes = if is_some (meta_read bytes) then None else Some (DataCorruption name.Meta)

-- the file of the meta is read, and says one
abbrev pub load_steps : List ℕ → List Step
load_steps bytes = calls (read name.Meta bytes) ∷ (passes (meta_damage bytes) ∷ [])

-- the meta is loaded from bytes that the directory answers
pub record LoadsFrom (bytes : List ℕ) (result : Result IndexMeta TantivyError)
    (before after : DirectoryState) : Type 0 where
  pub works : Works (load_steps bytes) result before after
  pub says : IfOk result (λ m. meta_read bytes ≡ Some (meta_of m))

-- the meta is loaded
pub record LoadsMetas (result : Result IndexMeta TantivyError) (before after : DirectoryState) : Type 0 where
  pub bytes : List ℕ
  pub from_bytes : LoadsFrom bytes result before after
