-- The words of a fault.
use Rattle.std.proofs.Common.{◌≡◌, ◌≢◌, [], ◌∷◌, ◌++◌, refl}
use Rattle.std.specs.Prelude.{codes}
use Rattle.seg_values.specs.declared.error.TantivyError.{TantivyError}
use Rattle.seg_values.specs.declared.error.TantivyError.TheVariants.{SchemaError, InvalidArgument, IndexAlreadyExists, OpenReadError, OpenWriteError, IoError, DataCorruption, SystemError, FieldNotFound, OutOfMemory}
use Rattle.seg_common.specs.declared.name.FileName.{FileName}
use Rattle.seg_tool.specs.Statuses.{damage_text, fault_text}

-- all but two are those of the meta
pub other_fault : (e : TantivyError) → e ≢ OpenReadError → e ≢ OpenWriteError → codes "directory: meta or sync failed" ≡ fault_text e
other_fault OpenReadError read write = absurd (read refl)
other_fault OpenWriteError read write = absurd (write refl)
other_fault (SchemaError cause) read write = refl
other_fault (InvalidArgument cause) read write = refl
other_fault IndexAlreadyExists read write = refl
other_fault IoError read write = refl
other_fault (DataCorruption name) read write = refl
other_fault SystemError read write = refl
other_fault FieldNotFound read write = refl
other_fault OutOfMemory read write = refl

-- all but one tell of no file
pub other_damage : (e : TantivyError) → ((name : FileName) → e ≢ DataCorruption name) → codes "damaged: a file" ++ 10 ∷ [] ≡ damage_text e
other_damage (DataCorruption name) not = absurd (not name refl)
other_damage OpenReadError not = refl
other_damage OpenWriteError not = refl
other_damage (SchemaError cause) not = refl
other_damage (InvalidArgument cause) not = refl
other_damage IndexAlreadyExists not = refl
other_damage IoError not = refl
other_damage SystemError not = refl
other_damage FieldNotFound not = refl
other_damage OutOfMemory not = refl
