-- The meta of an index is loaded: it says one, its file can't be read, it says none, or there is no memory for it.
use Rattle.std.proofs.Common.{◌≡◌, ℕ, List, [], ◌∷◌, Some, None, Result, Ok, Err, IsTrue, refl}
use Rattle.seg_common.specs.declared.name.FileName.TheVariants as name
use Rattle.seg_values.specs.declared.error.TantivyError.{TantivyError}
use Rattle.seg_values.specs.declared.error.TantivyError.TheVariants.{DataCorruption, OutOfMemory}
use Rattle.seg_directory.proofs.Exports.{broke, does_nothing, keeps_disk, stops, then_does, went}
use Rattle.seg_directory.specs.Calls.{read}
use Rattle.seg_directory.specs.DiskChanges.{KeepsDisk}
use Rattle.seg_directory.specs.DirectoryStates.{DirectoryState}
use Rattle.seg_directory.specs.DirectorySteps.{WorksFor, calls}
use Rattle.seg_meta.specs.ParsedMeta.{meta_read}
use Rattle.seg_meta.specs.MetaSteps.{LoadsMetas, load_steps}
use Rattle.seg_meta.specs.MetaMeaning.{meta_of}
use Rattle.seg_meta.specs.declared.index_meta.IndexMeta.{IndexMeta}

pub loads : (bytes : List ℕ) (m : IndexMeta) {a b : DirectoryState}
    → WorksFor (λ bytes. calls (read name.Meta bytes) ∷ []) (Ok bytes) a b → meta_read bytes ≡ Some (meta_of m) → LoadsMetas (Ok m) a b
loads bytes m first says = record {
  bytes = bytes;
  from_bytes = record { works = then_does first.does (went (rw says refl, refl)); says = says };
}

pub can_not_read : {e : TantivyError} {a b : DirectoryState} → WorksFor (λ bytes. calls (read name.Meta bytes) ∷ []) (Err e) a b → LoadsMetas (Err e) a b
can_not_read failed = record { bytes = failed.does.0; from_bytes = record { works = stops _ failed.does.1; says = tt } }

pub says_none : (bytes : List ℕ) {a b : DirectoryState}
    → WorksFor (λ bytes. calls (read name.Meta bytes) ∷ []) (Ok bytes) a b → meta_read bytes ≡ None → LoadsMetas (Err (DataCorruption name.Meta)) a b
says_none bytes first none = record { bytes = bytes; from_bytes = record { works = then_does first.does (broke (rw none refl, refl)); says = tt } }

pub no_memory : (bytes : List ℕ) {a b : DirectoryState}
    → WorksFor (λ bytes. calls (read name.Meta bytes) ∷ []) (Ok bytes) a b → LoadsMetas (Err OutOfMemory) a b
no_memory bytes first = record { bytes = bytes; from_bytes = record { works = then_does first.does (does_nothing _); says = tt } }

-- no image changes
pub loading_keeps : {r : Result IndexMeta TantivyError} {a b : DirectoryState} → IsTrue a.disk.told → LoadsMetas r a b → KeepsDisk a.disk b.disk
loading_keeps {r} told it = keeps_disk (load_steps it.bytes) r (tt, tt) told it.from_bytes.works
