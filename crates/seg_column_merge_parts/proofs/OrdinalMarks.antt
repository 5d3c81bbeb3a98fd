-- Marks of ordinals, one by one.
use Rattle.std.proofs.Common.{◌≡◌, ℕ, ◌<◌, Bool, true, false, ◌||◌, List, [], ◌∷◌, length, get_or, set, refl, sym, ap, ◌∙◌, arith}
use Rattle.std.specs.Prelude.{nat_eq, replicate}
use Rattle.std.specs.List.{list_all, list_any}
use Rattle.std.proofs.lemmas.Bool.{false≢true}
use Rattle.std.proofs.lemmas.Bool.Decides.{nat_tests}
use Rattle.std.proofs.lemmas.List.{get_or-replicate, get_or-set_same, get_or-set_other, length-replicate}
use Rattle.std.proofs.lemmas.List.Folds.{list_any-append}
use Rattle.std.proofs.Math.Bool.{or-true}
use Rattle.seg_columns.specs.TermColumns.{UsesEach}
use Rattle.seg_column_file.specs.KeptRows.{kept_values}
use Rattle.seg_column_merge_parts.specs.UsedOrdinals.{AreUsed}

-- the mark of one takes it out of what is left
pub ordinal_marked : (old new : List ℕ) (ord : ℕ) → old ≡ ord ∷ new → (marks : List Bool) (o : ℕ) → ord < length marks
    → (get_or (set marks ord true) o false || list_any (nat_eq o) new) ≡
    (get_or marks o false || list_any (nat_eq o) old)
ordinal_marked old new ord is marks o lt = by (nat_eq o ord) refl
    ∙ sym (ap (λ (l : List ℕ). get_or marks o false || list_any (nat_eq o) l) is)
  where
    by : (b : Bool) → b ≡ nat_eq o ord
        → (get_or (set marks ord true) o false || list_any (nat_eq o) new) ≡
        (get_or marks o false || (nat_eq o ord || list_any (nat_eq o) new))
    by true e =
        let same : o ≡ ord = grind (arith, nat_tests) in
        let marked : get_or (set marks ord true) o false ≡ true = ap (λ k. get_or (set marks ord true) k false) same
        ∙ get_or-set_same marks ord true false lt in
        ap (λ b. b || list_any (nat_eq o) new) marked
        ∙ sym (ap (λ b. get_or marks o false || (b || list_any (nat_eq o) new)) (sym e)
        ∙ or-true (get_or marks o false))
    by false e =
        let other : o ≡ ord → ⊥ = λ same. grind (arith, nat_tests) in
        let stays : get_or (set marks ord true) o false ≡ get_or marks o false =
        get_or-set_other marks ord o true false other in
        ap (λ b. b || list_any (nat_eq o) new) stays
        ∙ ap (λ b. get_or marks o false || (b || list_any (nat_eq o) new)) e

-- ---- all rows are kept

module _ (p : ℕ → Bool) where
  any_of : (a b c : Bool) → (b ≡ true → c ≡ true) → (a || b) ≡ true → (a || c) ≡ true
  any_of true b c f h = refl
  any_of false b c f h = f h

  any_kept : (kept : List Bool) (rows : List (List ℕ)) → length kept ≡ length rows → list_all (λ mark. mark) kept ≡ true
      → list_any (list_any p) rows ≡ true → list_any p (kept_values kept rows) ≡ true
  any_kept [] [] same all any = any
  any_kept [] (r ∷ rs) same all any = absurd (omega (arith, same))
  any_kept (k ∷ ks) [] same all any = absurd (omega (arith, same))
  any_kept (false ∷ ks) (r ∷ rs) same all any = absurd (false≢true all)
  any_kept (true ∷ ks) (r ∷ rs) same all any =
      list_any-append p r (kept_values ks rs)
      ∙ any_of (list_any p r) (list_any (list_any p) rs) (list_any p (kept_values ks rs))
      (any_kept ks rs (omega (arith, same)) all) any

-- then each is used
pub all_are_used : (count : ℕ) (kept : List Bool) (rows : List (List ℕ)) → length kept ≡ length rows
    → list_all (λ mark. mark) kept ≡ true → UsesEach count rows
    → AreUsed count (kept_values kept rows) (replicate count true)
all_are_used count kept rows same all uses = record {
  long = length-replicate count true;
  marks = λ ord lt. get_or-replicate count ord true false lt
      ∙ sym (any_kept (nat_eq ord) kept rows same all (uses.used ord lt));
}
