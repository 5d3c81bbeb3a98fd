-- What the setting of a file leaves.
use Rattle.std.proofs.Common.{◌≡◌, Result, Ok, Err, IfOk, ℕ, zero, suc, get_or, ◌-◌, List, [], ◌∷◌, ◌++◌, true, false, cond, Option, Some, length, take, refl, sym, ap, subst, ◌∙◌, arith}
use Rattle.std.specs.Ordering.{eq_by_cmp}
use Rattle.std.specs.FinMap.{get, insert, get-insert, same_map}
use Rattle.seg_directory.specs.Disk.{PendingChange, IsImage}
use Rattle.seg_directory.specs.FileDisks.{NamedFiles, FileDisk, settled}
use Rattle.seg_common.specs.FileNameKeys.{name_cmp, name_cmp_total, name_cmp_exact}
use Rattle.seg_common.specs.declared.name.FileName.{FileName}
use Rattle.seg_directory.proofs.DiskImages.{same_name, stable_files_are_an_image}
use Rattle.std.specs.declared.alloc.AllocError.{AllocError}
use Rattle.seg_directory.specs.DiskCalls.{DiskRecordState, bytes_left, latest, latest_over, without, after_call, disk_after, no_files, latest_files, picked}
use Rattle.seg_directory.specs.LatestFiles.{latest_is_an_image}
use Rattle.seg_directory.specs.declared.disk_call.DiskCall.{DiskCall}
use Rattle.seg_directory.specs.declared.disk_call.DiskCall.TheVariants.{Put, Created, Synced}
use Rattle.seg_directory.specs.declared.disk_call.Pick.{Pick}
use Rattle.seg_directory.specs.declared.disk_call.Pick.TheVariants.{Stable, Latest}
use Rattle.seg_directory.proofs.MemorySteps.{disk_step, latest_over-append}

-- the last of a name's states
last_of : Option (List ℕ) → FileName → List (PendingChange FileName) → Option (List ℕ)
last_of state q [] = state
last_of state q (c ∷ cs) = last_of (cond (eq_by_cmp name_cmp q c.name) (Some (bytes_left c.written)) state) q cs

get_latest : (files : NamedFiles) (cs : List (PendingChange FileName)) (q : FileName) → get (latest_over files cs) q ≡ last_of (get files q) q cs
unfolding last_of
get_latest files [] q = refl
get_latest files (c ∷ cs) q = get_latest (insert files c.name (bytes_left c.written)) cs q
    ∙ ap (λ s. last_of s q cs) (get-insert name_cmp_total files c.name (bytes_left c.written) q)

same_equal : (a b c : FileName) → a ≡ b → eq_by_cmp name_cmp a c ≡ eq_by_cmp name_cmp b c
same_equal a b c e = ap (λ n. eq_by_cmp name_cmp n c) e

of_itself : (state : Option (List ℕ)) (name q : FileName) → q ≡ name → (cs : List (PendingChange FileName)) → last_of state q (without name cs) ≡ state
unfolding last_of
of_itself state name q is [] = refl
of_itself state name q is (c ∷ cs) =
    elim (eq_by_cmp name_cmp name c.name) as (λ b. eq_by_cmp name_cmp name c.name ≡ b → last_of state q (cond b (without name cs) (c ∷ without name cs)) ≡ state) [
      | true ↦ λ e. of_itself state name q is cs
      | false ↦ λ e. ap (λ b. last_of (cond b (Some (bytes_left c.written)) state) q (without name cs)) (same_equal q name c.name is ∙ e) ∙ of_itself state name q is cs
    ] refl

of_another : (state : Option (List ℕ)) (name q : FileName) → eq_by_cmp name_cmp q name ≡ false → (cs : List (PendingChange FileName)) → last_of state q (without name cs) ≡ last_of state q cs
unfolding last_of
of_another state name q apart [] = refl
of_another state name q apart (c ∷ cs) =
    elim (eq_by_cmp name_cmp name c.name) as (λ b. eq_by_cmp name_cmp name c.name ≡ b
    → last_of state q (cond b (without name cs) (c ∷ without name cs)) ≡ last_of (cond (eq_by_cmp name_cmp q c.name) (Some (bytes_left c.written)) state) q cs) [
      | true ↦ λ e. of_another state name q apart cs
          ∙ ap (λ b. last_of (cond b (Some (bytes_left c.written)) state) q cs) (sym (ap (λ n. eq_by_cmp name_cmp q n) (sym (same_name name c.name e)) ∙ apart))
      | false ↦ λ e. of_another (cond (eq_by_cmp name_cmp q c.name) (Some (bytes_left c.written)) state) name q apart cs
    ] refl

latest_put : (files : NamedFiles) (cs : List (PendingChange FileName)) (name : FileName) (bytes : List ℕ)
    → latest_over (insert files name bytes) (without name cs) ≡ insert (latest_over files cs) name bytes
unfolding last_of
latest_put files cs name bytes = same_map name_cmp_total name_cmp_exact _ _ (λ q.
    get_latest (insert files name bytes) (without name cs) q
    ∙ ap (λ s. last_of s q (without name cs)) (get-insert name_cmp_total files name bytes q)
    ∙ elim (eq_by_cmp name_cmp q name) as (λ b. eq_by_cmp name_cmp q name ≡ b
    → last_of (cond b (Some bytes) (get files q)) q (without name cs) ≡ cond b (Some bytes) (get (latest_over files cs) q)) [
      | true ↦ λ e. of_itself (Some bytes) name q (same_name q name e) cs
      | false ↦ λ e. of_another (get files q) name q e cs ∙ sym (get_latest files cs q)
    ] refl
    ∙ sym (get-insert name_cmp_total (latest_over files cs) name bytes q))

pub files_put : (cs : List DiskCall) (name : FileName) (bytes : List ℕ) → latest_files (cs ++ Put name bytes ∷ []) ≡ insert (latest_files cs) name bytes
files_put cs name bytes = ap latest (disk_step no_files cs (Put name bytes)) ∙ latest_put (disk_after no_files cs).stable (disk_after no_files cs).pending name bytes

-- either pick is an image
pub picked_is_an_image : (pick : Pick) (disk : FileDisk) → IsImage disk (picked pick disk)
picked_is_an_image Stable disk = stable_files_are_an_image disk
picked_is_an_image Latest disk = latest_is_an_image disk

-- a list is its front and its last
pub ends : (cs : List DiskCall) (n : ℕ) (call : DiskCall) → length cs ≡ suc n → call ≡ get_or cs n call → cs ≡ take n cs ++ call ∷ []
ends [] n call long is = absurd (omega (arith, long))
ends (c ∷ []) zero call long is = ap (λ d. d ∷ []) (sym is)
ends (c ∷ d ∷ cs) zero call long is = absurd (omega (arith, long))
ends (c ∷ cs) (suc n) call long is = ap (λ ds. c ∷ ds) (ends cs n call (omega (arith, long)) is)

abbrev now : DiskRecordState → FileDisk
now r = disk_after no_files r.kept.calls

module _ (calls earlier : List DiskCall) (call : DiskCall) (is : calls ≡ earlier ++ call ∷ []) where
  -- the image of one more call is the same
  pub same_image : (from to : Pick) (result : Result DiskRecordState AllocError) → ((d : FileDisk) → picked from d ≡ picked to (after_call d call))
      → IfOk result (λ r. now r ≡ settled (picked from (disk_after no_files earlier))) → IfOk result (λ r. now r ≡ settled (picked to (disk_after no_files calls)))
  same_image from to (Ok r) same so_far =
      so_far ∙ ap settled (same (disk_after no_files earlier) ∙ ap (picked to) (sym (disk_step no_files earlier call) ∙ ap (disk_after no_files) (sym is)))
  same_image from to (Err e) same so_far = tt

  -- or it has one more file
  pub more_image : (from to : Pick) (name : FileName) (bytes : List ℕ) (files : DiskRecordState) (result : Result DiskRecordState AllocError)
      → ((d : FileDisk) → insert (picked from d) name bytes ≡ picked to (after_call d call))
      → now files ≡ settled (picked from (disk_after no_files earlier)) → IfOk result (λ r. now r ≡ after_call (now files) (Put name bytes))
      → IfOk result (λ r. now r ≡ settled (picked to (disk_after no_files calls)))
  more_image from to name bytes files (Ok r) same so_far put =
      put ∙ ap (λ d. after_call d (Put name bytes)) so_far
      ∙ ap settled (same (disk_after no_files earlier) ∙ ap (picked to) (sym (disk_step no_files earlier call) ∙ ap (disk_after no_files) (sym is)))
  more_image from to name bytes files (Err e) same so_far put = tt

pub put_picked : (pick : Pick) (name : FileName) (bytes : List ℕ) (d : FileDisk) → insert (picked pick d) name bytes ≡ picked pick (after_call d (Put name bytes))
put_picked Stable name bytes d = refl
put_picked Latest name bytes d = sym (latest_put d.stable d.pending name bytes)

pub synced_picked : (pick : Pick) (d : FileDisk) → picked Latest d ≡ picked pick (after_call d Synced)
synced_picked Stable d = refl
synced_picked Latest d = refl

pub created_picked : (pick : Pick) → pick ≡ Latest → (name : FileName) (bytes : List ℕ) (d : FileDisk) → insert (latest d) name bytes ≡ picked pick (after_call d (Created name bytes))
created_picked pick is name bytes d = sym (latest_over-append d.stable d.pending _) ∙ ap (λ p. picked p (after_call d (Created name bytes))) (sym is)

pub last : (cs : List DiskCall) (found call : DiskCall) → (length cs ≡ 0 → ⊥) → found ≡ get_or cs (length cs - 1) found → found ≡ call → cs ≡ take (length cs - 1) cs ++ call ∷ []
last cs found call some at is =
    let long : length cs ≡ suc (length cs - 1) = omega (arith, some) in
    ends cs (length cs - 1) call long (subst (λ x. x ≡ get_or cs (length cs - 1) x) is at)
