-- The latest state of each name is an image.
use Rattle.std.specs.Prelude.{ℕ, ◌≡◌, ◌⊎◌, ◌&&◌, ◌||◌, List, [], ◌∷◌, Option, Some, None, Bool, true, false, IsTrue}
use Rattle.std.proofs.Common.{inl, inr, cond, refl, sym, ap, ◌∙◌}
use mathlib.Core.Bool.{true≢false}
use Rattle.std.specs.List.{list_any}
use Rattle.std.specs.Option.{option_eq}
use Rattle.std.specs.Ordering.{eq_by_cmp}
use Rattle.std.specs.Cmp.{eq_by_cmp_equiv}
use Rattle.std.specs.Str.{bytes_eq}
use Rattle.std.specs.FinMap.{get, insert, get-insert}
use Rattle.std.proofs.lemmas.Slice.Eq.{bytes_eq-Decides}
use Rattle.seg_directory.specs.Disk.{Written, exactly, torn, PendingChange, IsImage, may_leave, may_hold}
use Rattle.seg_directory.specs.FileDisks.{NamedFiles, FileDisk}
use Rattle.seg_common.specs.FileNameKeys.{name_cmp, name_cmp_total}
use Rattle.seg_common.specs.declared.name.FileName.{FileName}
use Rattle.seg_directory.specs.DiskCalls.{disk_after, latest, latest_over, bytes_left, no_files}
use Rattle.seg_directory.specs.DiskChanges.{ReadsAnImage}
use Rattle.seg_directory.specs.MemoryDirectories.{MemoryState, memory_state}

pub same_state : (a b : Option (List ℕ)) → option_eq bytes_eq a b ≡ true → b ≡ a
same_state None None e = refl
same_state None (Some y) e = absurd (true≢false (sym e))
same_state (Some x) None e = absurd (true≢false (sym e))
same_state (Some x) (Some y) e = ap Some (sym ((bytes_eq-Decides x y).0 e))

pub own_state : (a : Option (List ℕ)) → option_eq bytes_eq a a ≡ true
own_state None = refl
own_state (Some x) = (bytes_eq-Decides x x).1 refl

pub left_true : (a b : Bool) → a ≡ true → (a || b) ≡ true
left_true a b e = ap (λ x. x || b) e

pub right_true : (a b : Bool) → b ≡ true → (a || b) ≡ true
right_true true b e = refl
right_true false b e = e

pub either : (a b : Bool) → (a || b) ≡ true → (a ≡ true) ⊎ (b ≡ true)
either true b e = inl refl
either false b e = inr e

leaves_latest : (written : Written) → may_leave written (Some (bytes_left written)) ≡ true
leaves_latest (exactly bytes) = own_state (Some bytes)
leaves_latest torn = refl

holds_latest : (stable : NamedFiles) (changes : List (PendingChange FileName)) (name : FileName)
    → may_hold (record { stable = stable; pending = changes }) name (get (latest_over stable changes) name) ≡ true
holds_latest stable [] name = left_true _ _ (own_state (get stable name))
holds_latest stable (c ∷ cs) name =
    let state : Option (List ℕ) = get (latest_over (insert stable c.name (bytes_left c.written)) cs) name in
    let rest : Bool =
    list_any (λ (d : PendingChange FileName). eq_by_cmp name_cmp d.name name && may_leave d.written state) cs in
    let here : Bool = eq_by_cmp name_cmp c.name name && may_leave c.written state in
    elim (either (option_eq bytes_eq (get (insert stable c.name (bytes_left c.written)) name) state) rest
    (holds_latest (insert stable c.name (bytes_left c.written)) cs name)) [
      | inr e ↦ right_true (option_eq bytes_eq (get stable name) state) (here || rest) (right_true here rest e)
      | inl e ↦
          let is : state ≡ cond (eq_by_cmp name_cmp name c.name) (Some (bytes_left c.written)) (get stable name) =
          same_state _ state e ∙ get-insert name_cmp_total stable c.name (bytes_left c.written) name in
          elim (eq_by_cmp name_cmp name c.name) as (λ b. eq_by_cmp name_cmp name c.name ≡ b
          → (option_eq bytes_eq (get stable name) state || (here || rest)) ≡ true) [
            | true ↦ λ same.
                let now : state ≡ Some (bytes_left c.written) =
                is ∙ ap (λ b. cond b (Some (bytes_left c.written)) (get stable name)) same in
                let leaves : here ≡ true =
                ap (λ b. b && may_leave c.written state) ((eq_by_cmp_equiv name_cmp_total).symm c.name name ∙ same)
                ∙ ap (λ s. may_leave c.written s) now ∙ leaves_latest c.written in
                right_true (option_eq bytes_eq (get stable name) state) (here || rest) (left_true here rest leaves)
            | false ↦ λ apart.
                let now : state ≡ get stable name =
                is ∙ ap (λ b. cond b (Some (bytes_left c.written)) (get stable name)) apart in
                left_true _ (here || rest)
                (ap (λ s. option_eq bytes_eq (get stable name) s) now ∙ own_state (get stable name))
          ] refl
    ]

pub latest_is_an_image : (disk : FileDisk) → IsImage disk (latest disk)
latest_is_an_image disk name = holds_latest disk.stable disk.pending name

-- what is read of a directory in memory is one of its images
pub reads_an_image : (s : MemoryState) → IsTrue (memory_state s).disk.told → ReadsAnImage (memory_state s)
reads_an_image s told = record { tells = told; image = latest_is_an_image (disk_after no_files s.disk.calls) }
