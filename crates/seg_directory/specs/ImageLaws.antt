-- The laws of what a crash may leave of a disk.
use Rattle.std.specs.Prelude.{ℕ, ◌≡◌, List, Option, ◌&&◌, ◌||◌, false}
use Rattle.std.specs.FinMap.{get}
use Rattle.std.specs.Ordering.{eq_by_cmp}
use Rattle.std.specs.declared.cmp.Ordering.{Ordering}
use Rattle.seg_directory.specs.Disk.{Written, Files, Disk, IsImage, may_leave, may_hold, with_change, is_pending}

-- the files that are safe are an image
abbrev pub StableFilesAreAnImage : {Name : Type 0} → (Name → Name → Ordering) → Type 0
StableFilesAreAnImage order = (disk : Disk order) → IsImage disk disk.stable

-- a name of which no change is pending has in each image what is safe
abbrev pub UntouchedNamesStay : {Name : Type 0} → (Name → Name → Ordering) → Type 0
UntouchedNamesStay {Name} order = (disk : Disk order) (files : Files order) (name : Name) → IsImage disk files
    → is_pending disk name ≡ false → get files name ≡ get disk.stable name

-- one more change lets its own name, and no other, be as the change leaves it
abbrev pub ChangesLeaveTheirName : {Name : Type 0} → (Name → Name → Ordering) → Type 0
ChangesLeaveTheirName {Name} order =
    (disk : Disk order) (changed : Name) (written : Written) (name : Name) (state : Option (List ℕ))
    → may_hold (with_change disk changed written) name state
    ≡ (may_hold disk name state || (eq_by_cmp order changed name && may_leave written state))
