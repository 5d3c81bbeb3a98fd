-- The disk of an output that had nothing.
use Rattle.std.proofs.Common.{◌≡◌, ◌∙◌, IsTrue, sym, ap, subst}
use Rattle.std.specs.FinMap.{empty, get, get-empty}
use Rattle.seg_common.specs.FileNameKeys.{name_cmp}
use Rattle.seg_common.specs.declared.name.FileName.TheVariants.{Meta}
use Rattle.seg_directory.proofs.Exports.{leaves_on, leaves_only, passes_weaker, settled_files_are_the_only_image, started}
use Rattle.seg_directory.specs.Disk.{IsImage}
use Rattle.seg_directory.specs.DiskChanges.{KeepsDisk}
use Rattle.seg_directory.specs.FileDisks.{FileDisk}
use Rattle.seg_directory.specs.Files.{NamedFiles}
use Rattle.seg_directory.specs.DirectoryStates.{DirectoryState, DiskState, HasOnly, IsEmptyDisk, LeavesOnly}
use Rattle.seg_index_build.specs.TwoDirectories.{Directories}
use Rattle.seg_tool.specs.Job.{CrashLeaves, HasNoIndex}
use Rattle.seg_tool.specs.declared.status.Status.{Status}

-- it has no index
pub none_there : (s : DiskState) → IsEmptyDisk s → HasOnly HasNoIndex s.now
none_there s clean files image =
    ap (λ (f : NamedFiles). get f Meta)
    (settled_files_are_the_only_image empty files (subst (λ (d : FileDisk). IsImage d files) clean.none image))
    ∙ get-empty name_cmp Meta

-- nothing is done with it
pub empty_still : (P : NamedFiles → Type 0) → ((files : NamedFiles) → HasNoIndex files → P files)
    → (s : DiskState) → IsEmptyDisk s → LeavesOnly P s s
empty_still P of_none s clean =
    leaves_only P s s (started s) (λ files image. of_none files (none_there s clean files image))

-- the same, as two states
pub still_empty : (P : NamedFiles → Type 0) → ((files : NamedFiles) → HasNoIndex files → P files)
    → (old new : DiskState) → new ≡ old → IsEmptyDisk old → LeavesOnly P old new
still_empty P of_none old new same clean =
    subst (λ (s : DiskState). LeavesOnly P old s) (sym same) (empty_still P of_none old clean)

-- the disk goes on being told
pub told_on : (P : NamedFiles → Type 0) (old new : DiskState) → IsTrue old.told → LeavesOnly P old new → IsTrue new.told
told_on P old new told leaves = subst (λ t. IsTrue t) (sym leaves.during.told) told

-- and then no image changes
pub leaves_still : (P : NamedFiles → Type 0) (old mid new : DiskState) → IsTrue mid.told → LeavesOnly P old mid → KeepsDisk mid new
    → LeavesOnly P old new
leaves_still P old mid new told so_far keeps =
    leaves_on P (λ d. d ≡ mid.now) old mid new so_far keeps.during
    (λ d is. subst (λ (x : FileDisk). HasOnly P x) (sym is) so_far.after)
    (subst (λ (x : FileDisk). HasOnly P x) (sym (keeps.after told)) so_far.after)

-- less is said
pub leaves_weaker : (P Q : NamedFiles → Type 0) (old new : DiskState) → ((files : NamedFiles) → P files → Q files)
    → LeavesOnly P old new → LeavesOnly Q old new
leaves_weaker P Q old new weaker leaves =
    leaves_only Q old new (passes_weaker (λ d only files image. weaker files (only files image)) leaves.during)
    (λ files image. weaker files (leaves.after files image))

-- an output that isn't called
pub unused_leaves : (a b : Directories) → IsEmptyDisk a.output.disk → b.output ≡ a.output → (status : Status)
    → CrashLeaves HasNoIndex HasNoIndex status a b
unused_leaves a b clean same status =
    let left : LeavesOnly HasNoIndex a.output.disk b.output.disk =
    still_empty HasNoIndex (λ files none. none) a.output.disk b.output.disk (ap (λ (s : DirectoryState). s.disk) same) clean in
    record { any_moment = left; at_rest = λ at. left.after }
