-- What each call of a directory does, by its result.
use Rattle.std.specs.Prelude.{ℕ, List, [], Result, Ok, Err}
use Rattle.seg_common.specs.declared.name.FileName.{FileName}
use Rattle.seg_directory.specs.DirectoryStates.{DirectoryState}
use Rattle.seg_directory.specs.Calls.{Goes, Fails, listed, read, made, replaced, synced}
use Rattle.seg_directory.specs.declared.error.DirectoryError.{DirectoryError}

abbrev pub Lists : Result ℕ DirectoryError → DirectoryState → DirectoryState → Type 0
Lists (Ok n) before after = Goes (listed n) before after
Lists (Err e) before after = Fails (listed 0) e before after

abbrev pub Reads : FileName → Result (List ℕ) DirectoryError → DirectoryState → DirectoryState → Type 0
Reads name (Ok bytes) before after = Goes (read name bytes) before after
Reads name (Err e) before after = Fails (read name []) e before after

abbrev pub Makes : FileName → List ℕ → Result Unit DirectoryError → DirectoryState → DirectoryState → Type 0
Makes name bytes (Ok _) before after = Goes (made name bytes) before after
Makes name bytes (Err e) before after = Fails (made name bytes) e before after

abbrev pub Replaces : FileName → List ℕ → Result Unit DirectoryError → DirectoryState → DirectoryState → Type 0
Replaces name bytes (Ok _) before after = Goes (replaced name bytes) before after
Replaces name bytes (Err e) before after = Fails (replaced name bytes) e before after

abbrev pub Syncs : Result Unit DirectoryError → DirectoryState → DirectoryState → Type 0
Syncs (Ok _) before after = Goes synced before after
Syncs (Err e) before after = Fails synced e before after
