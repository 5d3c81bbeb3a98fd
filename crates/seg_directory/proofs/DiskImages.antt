-- What a crash leaves of a disk.
use Rattle.std.proofs.Common.{◌≡◌, ◌≢◌, ◌⊎◌, inl, inr, ℕ, Bool, true, false, cond, List, [], ◌∷◌, ◌++◌, Some, None, Option, sym, refl, ap, subst, ◌∙◌}
use Rattle.std.specs.Prelude.{◌&&◌, ◌||◌}
use mathlib.Core.Bool.{true≢false}
use Rattle.std.specs.List.{list_any}
use Rattle.std.specs.Option.{option_eq}
use Rattle.std.specs.Ordering.{eq_by_cmp, is_eq}
use Rattle.std.specs.Cmp.{eq_by_cmp_equiv, first_so, second_so}
use Rattle.std.specs.Str.{bytes_eq}
use Rattle.std.specs.declared.cmp.Ordering.TheVariants.{Less, Equal, Greater}
use Rattle.std.specs.FinMap.{get, insert, get-insert, same_map}
use Rattle.std.proofs.lemmas.Slice.Eq.{bytes_eq-Decides}
use Rattle.std.proofs.Math.Bool.{or-false}
use Rattle.seg_directory.specs.Disk.{PendingChange, Written, exactly, may_leave, may_hold, with_change}
pub use Rattle.seg_directory.specs.LatestFiles.{same_state, own_state, either, left_true, right_true}
use Rattle.seg_directory.specs.FileDisks.{NamedFiles, FileDisk, settled, SettledFilesAreTheOnlyImage, SavedFilesAreOneOfTwo}
use Rattle.seg_directory.specs.ImageLaws.{StableFilesAreAnImage, ChangesLeaveTheirName}
use Rattle.seg_common.specs.FileNameKeys.{name_cmp, name_cmp_total, name_cmp_exact}
use Rattle.seg_common.specs.declared.name.FileName.{FileName}
use Rattle.seg_common.proofs.Bools.{or_grouped}

or_right_false : (a : Bool) → (a || false) ≡ true → a ≡ true
or_right_false true e = refl
or_right_false false e = absurd (true≢false (sym e))

pub stable_files_are_an_image : StableFilesAreAnImage name_cmp
stable_files_are_an_image disk name = left_true _ _ (own_state (get disk.stable name))

pub settled_files_are_the_only_image : SettledFilesAreTheOnlyImage
settled_files_are_the_only_image safe files image = same_map name_cmp_total name_cmp_exact files safe
    (λ name. same_state (get safe name) (get files name) (or_right_false _ (image name)))

any-append : (name : FileName) (state : Option (List ℕ)) (changed : FileName) (written : Written) (cs : List (PendingChange FileName))
    → list_any (λ (c : PendingChange FileName). eq_by_cmp name_cmp c.name name && may_leave c.written state) (cs ++ record { name = changed; written = written } ∷ [])
    ≡ (list_any (λ (c : PendingChange FileName). eq_by_cmp name_cmp c.name name && may_leave c.written state) cs || (eq_by_cmp name_cmp changed name && may_leave written state))
any-append name state changed written [] = or-false _
any-append name state changed written (c ∷ cs) =
    ap (λ b. (eq_by_cmp name_cmp c.name name && may_leave c.written state) || b) (any-append name state changed written cs)
    ∙ or_grouped (eq_by_cmp name_cmp c.name name && may_leave c.written state) _ _

pub changes_leave_their_name : ChangesLeaveTheirName name_cmp
changes_leave_their_name disk changed written name state =
    ap (λ b. option_eq bytes_eq (get disk.stable name) state || b) (any-append name state changed written disk.pending)
    ∙ or_grouped (option_eq bytes_eq (get disk.stable name) state) _ _

is_equal : (a b : FileName) → eq_by_cmp name_cmp a b ≡ true → a ≡ b
is_equal a b =
    elim (name_cmp a b) as (λ r. name_cmp a b ≡ r → is_eq r ≡ true → a ≡ b) [
      | Less ↦ λ _ e. absurd (true≢false (sym e))
      | Equal ↦ λ r _. name_cmp_exact a b r
      | Greater ↦ λ _ e. absurd (true≢false (sym e))
    ] refl

pub same_name : (a b : FileName) → eq_by_cmp name_cmp a b ≡ true → a ≡ b
same_name = is_equal

-- a change leaves other names be
pub elsewhere : (disk : FileDisk) (changed : FileName) (written : Written) (name : FileName) (state : Option (List ℕ)) → name ≢ changed
    → may_hold (with_change disk changed written) name state ≡ may_hold disk name state
elsewhere disk changed written name state apart =
    changes_leave_their_name disk changed written name state
    ∙ ap (λ b. may_hold disk name state || (b && may_leave written state)) (apart_names changed name (λ e. apart (sym e)))
    ∙ or-false (may_hold disk name state)
  where
    apart_names : (a b : FileName) → a ≢ b → eq_by_cmp name_cmp a b ≡ false
    apart_names a b apart = elim (eq_by_cmp name_cmp a b) as (λ r. eq_by_cmp name_cmp a b ≡ r → r ≡ false) [
      | true ↦ λ e. absurd (apart (is_equal a b e))
      | false ↦ λ _. refl
    ] refl

pub is_left : (bytes : List ℕ) (state : Option (List ℕ)) → may_leave (exactly bytes) state ≡ true → state ≡ Some bytes
is_left bytes None e = absurd (true≢false (sym e))
is_left bytes (Some found) e = ap Some (sym ((bytes_eq-Decides bytes found).0 e))

-- what a change of settled files leaves of each name
pub one_name : (safe : NamedFiles) (name : FileName) (bytes : List ℕ) (q : FileName) (state : Option (List ℕ))
    → may_hold (with_change (settled safe) name (exactly bytes)) q state ≡ true
    → (state ≡ get safe q) ⊎ ((eq_by_cmp name_cmp name q ≡ true) × (state ≡ Some bytes))
one_name safe name bytes q state may =
    elim (either (option_eq bytes_eq (get safe q) state) _ may) [
      | inl e ↦ inl (same_state (get safe q) state e)
      | inr e ↦ let both = or_right_false _ e in inr (first_so _ _ both, is_left bytes state (second_so _ _ both))
    ]

pub saved_files_are_one_of_two : SavedFilesAreOneOfTwo
saved_files_are_one_of_two safe files name bytes image =
    elim (one_name safe name bytes name (get files name) (image name)) [
      | inl old ↦ inl (same_map name_cmp_total name_cmp_exact files safe (λ q.
          elim (one_name safe name bytes q (get files q) (image q)) [
            | inl e ↦ e
            | inr e ↦ let same : name ≡ q = is_equal name q e.0 in subst (λ n. get files n ≡ get safe n) same old
          ]))
      | inr new ↦ inr (same_map name_cmp_total name_cmp_exact files (insert safe name bytes) (λ q.
          elim (one_name safe name bytes q (get files q) (image q)) [
            | inl e ↦ here new.1 q e
            | inr e ↦ e.1 ∙ sym (get-insert name_cmp_total safe name bytes q
                ∙ ap (λ b. cond b (Some bytes) (get safe q)) ((eq_by_cmp_equiv name_cmp_total).symm q name ∙ e.0))
          ]))
    ]
  where
    here : get files name ≡ Some bytes → (q : FileName) → get files q ≡ get safe q → get files q ≡ get (insert safe name bytes) q
    here new q e =
        elim (eq_by_cmp name_cmp q name) as (λ r. eq_by_cmp name_cmp q name ≡ r → get files q ≡ get (insert safe name bytes) q) [
          | true ↦ λ t. ap (get files) (is_equal q name t) ∙ new ∙ sym (get-insert name_cmp_total safe name bytes q ∙ ap (λ b. cond b (Some bytes) (get safe q)) t)
          | false ↦ λ f. e ∙ sym (get-insert name_cmp_total safe name bytes q ∙ ap (λ b. cond b (Some bytes) (get safe q)) f)
        ] refl
