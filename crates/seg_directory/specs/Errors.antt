-- The error of an index that a failing call brings about.
use Rattle.seg_common.specs.declared.name.FileName.{FileName}
use Rattle.seg_common.specs.declared.name.FileName.TheVariants as file
use Rattle.seg_values.specs.declared.error.TantivyError.{TantivyError}
use Rattle.seg_values.specs.declared.error.TantivyError.TheVariants as error
use Rattle.seg_directory.specs.Calls.{Call, listed, read, made, replaced, synced}
use Rattle.seg_directory.specs.declared.answer.CallKind.{CallKind}
use Rattle.seg_directory.specs.declared.answer.CallKind.TheVariants as kind
use Rattle.seg_directory.specs.declared.error.DirectoryError.{DirectoryError}
use Rattle.seg_directory.specs.declared.error.DirectoryError.TheVariants.{Missing, Exists, Fault, OutOfMemory}

-- of a fault
abbrev pub fault_of : CallKind → TantivyError
fault_of kind.List = error.OpenReadError
fault_of kind.OpenRead = error.OpenReadError
fault_of kind.WriteNew = error.OpenWriteError
fault_of kind.AtomicWrite = error.IoError
fault_of kind.SyncDirectory = error.IoError

-- of a call's error: a missing file is damage
abbrev pub error_of : CallKind → FileName → DirectoryError → TantivyError
error_of call name Missing = error.DataCorruption name
error_of call name Exists = error.IndexAlreadyExists
error_of call name Fault = fault_of call
error_of call name OutOfMemory = error.OutOfMemory

-- the file that a call is about, the meta where it is about none
abbrev pub name_of : Call → FileName
name_of (listed n) = file.Meta
name_of (read name bytes) = name
name_of (made name bytes) = name
name_of (replaced name bytes) = name
name_of synced = file.Meta
