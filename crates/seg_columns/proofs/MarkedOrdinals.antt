-- Ordinals that are marked, document by document.
use Rattle.std.proofs.Common.{◌≡◌, ℕ, zero, suc, ◌<◌, ◌≤◌, Bool, true, false, ◌||◌, List, [], ◌∷◌, length, drop, get_or, set, refl, sym, ap, subst, ◌∙◌, arith}
use Rattle.std.specs.Prelude.{All, MatchBool, nat_eq}
use Rattle.std.specs.List.{list_any, list_all}
use Rattle.std.proofs.lemmas.Bool.{false≢true}
use Rattle.std.proofs.lemmas.Bool.Decides.{nat_tests}
use Rattle.std.proofs.lemmas.List.{drop_all, get_or-set_same, get_or-set_other}
use Rattle.std.proofs.lemmas.List.Elements.{All-cons, All-tail, All-from_get_or}
use Rattle.std.proofs.Math.Bool.{or-false, or-true}
use Rattle.seg_columns.specs.TermColumns.{UsesEach}

-- ---- one ordinal

module _ (old new : List ℕ) (ord : ℕ) (is : old ≡ ord ∷ new) where
  pub left_below : (long : ℕ) → All (λ o. o < long) old → All (λ o. o < long) new
  left_below long all = All-tail (λ (o : ℕ). o < long) ord new (subst (All (λ (o : ℕ). o < long)) is all)

  pub with_first : (long : ℕ) → ord < long → All (λ o. o < long) new → All (λ o. o < long) old
  with_first long lt all = subst (All (λ (o : ℕ). o < long)) (sym is) (All-cons (λ (o : ℕ). o < long) ord new lt all)

  -- the mark of one takes it out of what is left
  pub one_marked : (marks : List Bool) (o : ℕ) → ord < length marks
      → (get_or (set marks ord true) o false || list_any (nat_eq o) new) ≡
      (get_or marks o false || list_any (nat_eq o) old)
  one_marked marks o lt = by (nat_eq o ord) refl
      ∙ sym (ap (λ (l : List ℕ). get_or marks o false || list_any (nat_eq o) l) is)
    where
      by : (b : Bool) → b ≡ nat_eq o ord
          → (get_or (set marks ord true) o false || list_any (nat_eq o) new) ≡
          (get_or marks o false || (nat_eq o ord || list_any (nat_eq o) new))
      by true e =
          let same : o ≡ ord = grind (arith, nat_tests) in
          let marked : get_or (set marks ord true) o false ≡ true = ap (λ k. get_or (set marks ord true) k false) same
          ∙ get_or-set_same marks ord true false lt in
          ap (λ b. b || list_any (nat_eq o) new) marked
          ∙ sym (ap (λ b. get_or marks o false || (b || list_any (nat_eq o) new)) (sym e)
          ∙ or-true (get_or marks o false))
      by false e =
          let other : o ≡ ord → ⊥ = λ same. grind (arith, nat_tests) in
          let stays : get_or (set marks ord true) o false ≡ get_or marks o false =
          get_or-set_other marks ord o true false other in
          ap (λ b. b || list_any (nat_eq o) new) stays
          ∙ ap (λ b. get_or marks o false || (b || list_any (nat_eq o) new)) e

-- ---- all of them

all_true : (marks : List Bool) → ((i : ℕ) → i < length marks → get_or marks i false ≡ true)
    → list_all (λ m. m) marks ≡ true
all_true [] each = refl
all_true (true ∷ marks) each = all_true marks (λ i lt. each (suc i) (omega (arith, lt)))
all_true (false ∷ marks) each = absurd (false≢true (each 0 (omega arith)))

each_true : (marks : List Bool) → list_all (λ m. m) marks ≡ true → (i : ℕ) → i < length marks
    → get_or marks i false ≡ true
each_true [] all i lt = absurd (omega (arith, lt))
each_true (true ∷ marks) all zero lt = refl
each_true (true ∷ marks) all (suc i) lt = each_true marks all i (omega (arith, lt))
each_true (false ∷ marks) all i lt = absurd (false≢true all)

pub decided : (count doc : ℕ) (rows : List (List ℕ)) (marks : List Bool) (r : Bool) → r ≡ list_all (λ m. m) marks
    → length marks ≡ count → length rows ≤ doc → ((i : ℕ) → i < doc → All (λ ord. ord < count) (get_or rows i []))
    → ((ord : ℕ) → ord < count
    → (get_or marks ord false || list_any (list_any (nat_eq ord)) (drop doc rows)) ≡ list_any
    (list_any (nat_eq ord)) rows)
    → MatchBool r (UsesEach count rows) (UsesEach count rows → ⊥)
decided count doc rows marks r is long done below marked = by r is
  where
    at : (ord : ℕ) → ord < count → get_or marks ord false ≡ list_any (list_any (nat_eq ord)) rows
    at ord lt =
        sym (ap (λ (l : List (List ℕ)). get_or marks ord false || list_any (list_any (nat_eq ord)) l)
        (drop_all doc rows done) ∙ or-false (get_or marks ord false))
        ∙ marked ord lt

    by : (b : Bool) → b ≡ list_all (λ m. m) marks → MatchBool b (UsesEach count rows) (UsesEach count rows → ⊥)
    by true e = record {
      below = All-from_get_or (All (λ (ord : ℕ). ord < count)) rows [] (λ i lt. below i (omega (arith, lt, done)));
      used = λ ord lt. sym (at ord lt) ∙ each_true marks (sym e) ord (omega (arith, lt, long));
    }
    by false e = λ uses. false≢true
        (e ∙ all_true marks (λ i lt. at i (omega (arith, lt, long)) ∙ uses.used i (omega (arith, lt, long))))
