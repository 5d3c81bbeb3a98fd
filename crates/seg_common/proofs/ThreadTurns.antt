-- A thread's turn at the count: an owner's part of the token opens the invariant, and the thread's token comes back when it is shut. Assumes `Logic`.
--     opens, shuts      the invariant, between which the count may change.        enters, leaves      the same by a `&` to an owner, whose word is read
--     word_read, word_written      the count's word
--     gains, loses      one more owner, or one less.        fills      the count is filled.        ends      the last owner has all
use mathlib.Core.Bool.{Bool, true, false, not}
use mathlib.Core.List.{List, [], ◌∷◌}
use mathlib.Core.Path.{◌≡◌, refl, sym}
use Prim.Native.Nat.{ℕ, ◌+◌, ◌-◌, ◌<◌, ◌^◌}
use native.Mathlib.Omega.{arith}
use seplogic.Ra.Ura.{Ura}
use lib.Dec.{T, eqb, eqb→eq}
use base.Fml.{Fml, Lft, Share, fat, fsep, fhide, flft, fobor, ftok, ftrue}
use base.Logic.{ent, sep, wand, apply∗, never, id⊢}
use base.Mask.{every}
use base.Share
use denote.Memory.{hidden_shr, part_at}
use denote.Opens.{Shut, unhide}
use denote.RawPtr.{Ptr, block_ptr, in_a_block}
use denote.Sharing.{some as for_some}
use denote.Steps.{nothing}
use mir.Syntax.{Sym}
use types.Kit.{Item, Goal, Seq, Step, Soaks, step, ‵, raw, some, later, given, ◌⊛◌, ◌$◌, move, drop, use1, use2, use3, pick, learn, await, group, split, split3, fsplit, fsplit3, fjoin, fjoin3, fpick, fpack, feq_i, feq_l, flt_i, flt_l, rewrite}
use types.Logic.{Logic, sem}
use types.Na.{na_inv_dup}
use types.RcWeak as rc
use types.Tokens.{shr_bor-open, obor_close}
use types.Within.{tokens_halve}
use Rattle.std.proofs.alloc.Calls.{token}
use Rattle.std_alloc.specs.Rc.Ownership.{counter_at}
use Rattle.std_alloc.proofs.BoxSteps.Form.{Bx, X, R, P}
use Rattle.std_alloc.proofs.RcSteps.{Id, Word, word, word_ty, cell, is_not, reads, read}
use Rattle.seg_common.specs.Ownership.{full_count, is_one, spare_word, stands_for}
use Rattle.seg_common.proofs.OwnerCount.{number, read_for_good}
use Rattle.seg_common.proofs.Owner.{key, whole, seen, counts, guarded, holds, together, owner_lent, tells_for_good}

by_cases : {Z : Type 1} (y : Bool) → (T y → Z) → (T (not y) → Z) → Z
by_cases true holds _ = holds tt
by_cases false _ fails = fails tt

module _ (S : Bx) (p : Ptr) (x : X S) where
  abbrev pub stands_here : ℕ → ℕ → Fml
  stands_here = stands_for (P S) (token S.al) (R S) p x

  module _ {M : Type 1} {𝓤 : Ura M} (𝓛 : Logic 𝓤) (i : Id) where
    -- what shuts the invariant again
    abbrev pub Shuts : Item 𝓤
    Shuts = raw (rc.Shut 64 (key S p x) (counts S p x) is_one (whole S p x) ftrue (spare_word p) 𝓛 i every)

    guard_twice : ent 𝓤 (sem 𝓛 (guarded S p x i)) (sep 𝓤 (sem 𝓛 (guarded S p x i)) (sem 𝓛 (guarded S p x i)))
    guard_twice = na_inv_dup 𝓛 (key S p x) (rc.Inv 64 (key S p x) (counts S p x) is_one (whole S p x) ftrue (spare_word p) i)

    pub gains : (n : ℕ) → n + 1 < 2 ^ 64 → ent 𝓤 (sem 𝓛 (holds S p x i true n)) (sep 𝓤 (sem 𝓛 (holds S p x i true (n + 1))) (sem 𝓛 (rc.part 64 i.0)))
    gains n room = rc.more 64 (key S p x) (counts S p x) is_one (whole S p x) ftrue (spare_word p) 𝓛 i n room

    pub loses : (n : ℕ) → 1 < n → ent 𝓤 (sep 𝓤 (sem 𝓛 (holds S p x i true n)) (sem 𝓛 (rc.part 64 i.0))) (sem 𝓛 (holds S p x i true (n - 1)))
    loses n many = rc.less 64 (key S p x) (counts S p x) is_one (whole S p x) ftrue (spare_word p) 𝓛 i n many

module _ (S : Bx) (p : Ptr) (x : X S) {M : Type 1} {𝓤 : Ura M} {𝓛 : Logic 𝓤} {K : Type 0} {Γ : List (Item 𝓤)} {G : Goal 𝓤 𝓛.H} where
  open 𝓛 use {H}

  -- [the way back; the part of the token; the guard; what is seen]
  borrowed : K → Soaks G → (κ : Lft) (q : Share)
      → ((i : Id) (s : Share) → Seq K 𝓛 (‵ (fobor κ q (flft (i.0 ∷ []) s)) ∷ ‵ (flft (i.0 ∷ []) s) ∷ ‵ (guarded S p x i) ∷ ‵ (seen S p x (i.0 ∷ [])) ∷ Γ) G)
      → Seq K 𝓛 (‵ (fhide (for_some Id (owner_lent S p x) κ)) ∷ ‵ (flft κ q) ∷ Γ) G
  borrowed t z κ q k = unhide t $ fpick t (λ i. fsplit3 t $ move t (0 ∷ 3 ∷ []) $ shr_bor-open t z (tokens_halve 𝓛 (i.0 ∷ [])) (λ s. k i s))

  returned : K → Soaks G → (κ : Lft) (q : Share) (i : Id) (s : Share) → Step K 𝓛 (‵ (flft κ q) ∷ Γ) G (‵ (fobor κ q (flft (i.0 ∷ []) s)) ∷ ‵ (flft (i.0 ∷ []) s) ∷ Γ) G
  returned t z κ q i s = step (λ next. obor_close t z $ drop t $ next)

  -- [the count; that the value is there; that the owners are one; what shuts; the part of the token]
  pub opens : K → Soaks G → (i : Id) (s : Share)
      → ((n : ℕ) → 0 < n → Seq K 𝓛 (‵ (counts S p x n) ∷ ‵ (holds S p x i true n) ∷ ‵ (together S p x i) ∷ Shuts S p x 𝓛 i ∷ ‵ (flft (i.0 ∷ []) s) ∷ Γ) G)
      → Seq K 𝓛 (‵ (guarded S p x i) ∷ ‵ (flft (i.0 ∷ []) s) ∷ ‵ (ftok every) ∷ Γ) G
  opens t z i s k =
      let weaks = rc.weaks 64 (key S p x) (counts S p x) is_one (whole S p x) ftrue (spare_word p) i in
      use3 𝓛 (later (some (λ (u : ℕ × ℕ). ‵ (counts S p x u.0) ⊛ ‵ (is_one u.1) ⊛ ‵ (holds S p x i true u.0) ⊛ ‵ (weaks u.1) ⊛ ‵ (flft (i.0 ∷ []) s) ⊛ Shuts S p x 𝓛 i)))
      (rc.open_strong 64 (key S p x) (counts S p x) is_one (whole S p x) ftrue (spare_word p) 𝓛 i every refl s) $ await t z $ pick t (λ u. split3 t $ move t (1 ∷ []) $ feq_l t (λ one.
      move t (1 ∷ []) $ split3 t $ use1 𝓛 (given (0 < u.0) (‵ (holds S p x i true u.0))) (rc.strong_some 64 (key S p x) (counts S p x) is_one (whole S p x) ftrue (spare_word p) 𝓛 i u.0) $ learn t (λ positive.
      -- [that the value is there; the owners; the part and what shuts; the count]
      move t (1 ∷ []) $ rewrite t 0 (λ (j : ℕ). ‵ (weaks j)) one refl $ move t (2 ∷ []) $ split t $ move t (4 ∷ 3 ∷ 2 ∷ 1 ∷ 0 ∷ []) $ k u.0 positive)))

  pub shuts : K → Soaks G → (i : Id) (n : ℕ)
      → Step K 𝓛 (‵ (ftok every) ∷ Γ) G (‵ (counts S p x n) ∷ ‵ (holds S p x i true n) ∷ ‵ (together S p x i) ∷ Shuts S p x 𝓛 i ∷ Γ) G
  shuts t z i n = step (λ next.
      feq_i t ℕ 1 1 refl $ move t (1 ∷ []) $ group t 5 $ use1 𝓛 (later (‵ (ftok every))) (rc.shut 64 (key S p x) (counts S p x) is_one (whole S p x) ftrue (spare_word p) 𝓛 i every true n 1) $ await t z $ next)

  -- [the word; what it stands for]
  pub word_read : K → (n : ℕ)
      → ((m b o : ℕ) → p ≡ block_ptr b o → m < 2 ^ 64 → Seq K 𝓛 (‵ (cell b o 0 m) ∷ ‵ (stands_here S p x m n) ∷ Γ) G) → Seq K 𝓛 (‵ (counts S p x n) ∷ Γ) G
  word_read t n k = fpick t (λ m. fsplit t $ in_a_block t p (λ r. counter_at r 0 m) (id⊢ 𝓤 (never 𝓤)) (λ b o place. fsplit t $ flt_l t (λ fits. k m b o place fits)))

  pub word_written : K → (m n b o : ℕ) → p ≡ block_ptr b o → m < 2 ^ 64 → Step K 𝓛 (‵ (counts S p x n) ∷ Γ) G (‵ (cell b o 0 m) ∷ ‵ (stands_here S p x m n) ∷ Γ) G
  word_written t m n b o place fits = step (λ next.
      flt_i t m (2 ^ 64) fits $ fjoin t $ rewrite t 0 (λ (r : Ptr). ‵ (counter_at r 0 m)) (sym place) refl $ fjoin t $ fpack t ℕ (λ j. fsep (counter_at p 0 j) (stands_here S p x j n)) m $ next)

  -- [the value and what frees the block; the spare word; the thread's token]
  pub ends : K → Soaks G → (i : Id)
      → Step K 𝓛 (‵ (whole S p x) ∷ ‵ (spare_word p) ∷ ‵ (ftok every) ∷ Γ) G (‵ (holds S p x i true 1) ∷ ‵ (rc.part 64 i.0) ∷ ‵ (together S p x i) ∷ Shuts S p x 𝓛 i ∷ Γ) G
  ends t z i = step (λ next.
      let gone = holds S p x i false 0 in
      use2 𝓛 (later (‵ (whole S p x) ⊛ ‵ (rc.part 64 i.1) ⊛ raw (wand 𝓤 (sem 𝓛 ftrue) (sem 𝓛 gone)))) (rc.last 64 (key S p x) (counts S p x) is_one (whole S p x) ftrue (spare_word p) 𝓛 i) $ await t z $ split3 t $
      -- [the whole; the part that the owners held together; the way to a block without a value; the owners; what shuts]
      nothing t $ move t (0 ∷ 3 ∷ []) $ use2 𝓛 (‵ gone) (apply∗ 𝓤 (sem 𝓛 ftrue) (sem 𝓛 gone)) $ move t (0 ∷ 3 ∷ 2 ∷ 4 ∷ []) $ group t 4 $
      use1 𝓛 (later (given (0 ≡ 0) (‵ ftrue ⊛ ‵ (spare_word p) ⊛ ‵ (ftok every)))) (rc.weak_last 64 (key S p x) (counts S p x) is_one (whole S p x) ftrue (spare_word p) 𝓛 i every false 0) $ await t z $ learn t (λ _. split3 t $ drop t $
      move t (2 ∷ 0 ∷ 1 ∷ []) $ next))

-- of a `&` to an owner for κ, whose word lies at hb and ho: the owner's part of the token, and the ways back to κ's
module _ (S : Bx) (p : Ptr) (x : X S) {M : Type 1} {𝓤 : Ura M} (𝓛 : Logic 𝓤) (ν : Sym) (κ : Lft) (q : Share) (hb ho : ℕ) where
  abbrev pub Way : Id → Share → Share → Item 𝓤
  Way i s q' = ‵ (flft (i.0 ∷ []) s) ⊛ ‵ (fobor κ (Share.left q) (flft (i.0 ∷ []) s)) ⊛ Shut 𝓛 κ (Share.right q) (part_at (Word S ν) q' (p, tt) hb ho)

module _ (S : Bx) (p : Ptr) (x : X S) {M : Type 1} {𝓤 : Ura M} {𝓛 : Logic 𝓤} {K : Type 0} {Γ : List (Item 𝓤)} {G : Goal 𝓤 𝓛.H} (ν : Sym) (κ : Lft) (q : Share) (hb ho : ℕ) where
  open 𝓛 use {H}

  -- [the count; that the value is there; that the owners are one; what shuts; the owner's word; the way back; the guard; what is seen]
  pub enters : K → Soaks G
      → ((i : Id) (s q' : Share) (n : ℕ) → 0 < n → Seq K 𝓛 (‵ (counts S p x n) ∷ ‵ (holds S p x i true n) ∷ ‵ (together S p x i) ∷ Shuts S p x 𝓛 i
      ∷ ‵ (fat q' (word_ty ν) hb ho (word p)) ∷ Way S p x 𝓛 ν κ q hb ho i s q' ∷ ‵ (guarded S p x i) ∷ ‵ (seen S p x (i.0 ∷ [])) ∷ Γ) G)
      → Seq K 𝓛 (‵ (hidden_shr (Word S ν) κ (p, tt) hb ho) ∷ ‵ (fhide (for_some Id (owner_lent S p x) κ)) ∷ ‵ (flft κ q) ∷ ‵ (ftok every) ∷ Γ) G
  enters t z k =
      move t (2 ∷ []) $ use1 𝓛 (‵ (flft κ (Share.left q)) ⊛ ‵ (flft κ (Share.right q))) (𝓛.lfts.lft_split κ q) $ split t $ move t (2 ∷ 1 ∷ []) $ reads S ν p t z hb ho (λ q'.
      move t (3 ∷ 2 ∷ []) $ borrowed S p x t z κ (Share.left q) (λ i s. move t (2 ∷ []) $ use1 𝓛 (‵ (guarded S p x i) ⊛ ‵ (guarded S p x i)) (guard_twice S p x 𝓛 i) $ split t $
      -- [the guard, twice; the way back; the part; what is seen; the word; what shuts it; the thread's token]
      move t (0 ∷ 3 ∷ 7 ∷ []) $ opens S p x t z i s (λ n positive. move t (4 ∷ 6 ∷ 9 ∷ []) $ group t 3 $ move t (1 ∷ 2 ∷ 3 ∷ 4 ∷ 7 ∷ 0 ∷ []) $ k i s q' n positive)))

  pub leaves : K → Soaks G → (i : Id) (s q' : Share) (n : ℕ)
      → Step K 𝓛 (‵ (ftok every) ∷ ‵ (flft κ q) ∷ Γ) G
      (‵ (counts S p x n) ∷ ‵ (holds S p x i true n) ∷ ‵ (together S p x i) ∷ Shuts S p x 𝓛 i ∷ ‵ (fat q' (word_ty ν) hb ho (word p)) ∷ Way S p x 𝓛 ν κ q hb ho i s q' ∷ Γ) G
  leaves t z i s q' n = step (λ next.
      shuts S p x t z i n $ move t (2 ∷ []) $ split3 t $ move t (1 ∷ []) $ returned S p x t z κ (Share.left q) i s $ move t (3 ∷ 1 ∷ []) $ read S ν p t z hb ho q' $
      move t (1 ∷ []) $ use2 𝓛 (‵ (flft κ q)) (𝓛.lfts.lft_join κ q) $ move t (1 ∷ []) $ next)

module _ (S : Bx) (p : Ptr) (x : X S) {M : Type 1} {𝓤 : Ura M} {𝓛 : Logic 𝓤} {K : Type 0} {Γ : List (Item 𝓤)} {G : Goal 𝓤 𝓛.H} where
  -- [that the value is there, for some number of owners; what is seen for good]
  pub fills : K → Soaks G → (i : Id) (m n : ℕ) → m < 2 ^ 64 → ((k : ℕ) → Seq K 𝓛 (‵ (holds S p x i true k) ∷ ‵ (seen S p x []) ∷ Γ) G)
      → Seq K 𝓛 (‵ (stands_here S p x m n) ∷ ‵ (holds S p x i true n) ∷ ‵ (guarded S p x i) ∷ ‵ (seen S p x (i.0 ∷ [])) ∷ Γ) G
  fills t z i m n fits k = by_cases {Z = Seq K 𝓛 (‵ (stands_here S p x m n) ∷ ‵ (holds S p x i true n) ∷ ‵ (guarded S p x i) ∷ ‵ (seen S p x (i.0 ∷ [])) ∷ Γ) G} (eqb m full_count)
      (λ full. use1 𝓛 (‵ (seen S p x [])) (read_for_good (P S) (token S.al) (R S) p x 𝓛 m n (eqb→eq m full_count full)) $ move t (2 ∷ 3 ∷ []) $ drop t $ drop t $ move t (1 ∷ []) $ k n)
      (λ room. let apart = is_not m full_count room in number (P S) (token S.al) (R S) p x 𝓛 t m n apart (λ same.
      use1 𝓛 (‵ (holds S p x i true (n + 1)) ⊛ ‵ (rc.part 64 i.0)) (gains S p x 𝓛 i n (omega (arith, apart))) $ split t $ move t (1 ∷ 2 ∷ 3 ∷ []) $ fjoin3 t $
      use1 𝓛 (later (‵ (seen S p x []))) (tells_for_good S p x 𝓛 i) $ await t z $ move t (1 ∷ []) $ k (n + 1)))
