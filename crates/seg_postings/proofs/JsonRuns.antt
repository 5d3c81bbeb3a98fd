-- The terms of a JSON field, one path and type after another.
use Rattle.std.proofs.Common.{◌≡◌, ℕ, suc, ◌+◌, ◌<◌, Bool, true, false, List, [], ◌∷◌, ◌++◌, length, map, take, drop, refl, sym, ap, subst, ◌∙◌, arith, inl, inr}
use Rattle.std.specs.Prelude.{◌||◌, cond, filter}
use Rattle.std.specs.List.{list_all, list_any, prefix_len, AllByRecursion}
use Rattle.std.specs.List.Sorted.{IsStrictlySortedBy}
use Rattle.std.specs.Ordering.{nat_cmp}
use Rattle.std.specs.Cmp.Lexicographic.{slice_cmp}
use Rattle.std.specs.Str.{bytes_eq}
use Rattle.std.specs.declared.cmp.Ordering.TheVariants.{Less}
use Rattle.std.proofs.lemmas.Bool.{and_from, and_parts, or_right}
use Rattle.std.proofs.lemmas.List.{append-nil}
use Rattle.std.proofs.lemmas.List.Elements.{filter-append}
use Rattle.std.proofs.lemmas.Slice.Eq.{bytes_eq-Decides}
use Rattle.seg_termdict.specs.Dictionary.{Term}
use Rattle.seg_postings.specs.declared.field_space.InvertedIndexFieldSpace.{InvertedIndexFieldSpace}
use Rattle.seg_postings.specs.JsonSpaces.{path_and_type, beginning, begins_with, IsSpaceOf, IsSpaceAmong, AreSpaces}
use Rattle.seg_postings.proofs.JsonHeads.{Below, NotAbove, head_rises, below_next, unlike, unlike_back}

-- what the test says
begins : (h : List ℕ) (t : Term) → begins_with h t ≡ true → path_and_type t.0 ≡ h
begins h t is = (bytes_eq-Decides (path_and_type t.0) h).0 is

pub same_is : (h : List ℕ) (t : Term) → path_and_type t.0 ≡ h → begins_with h t ≡ true
same_is h t is = (bytes_eq-Decides (path_and_type t.0) h).1 is

-- ---- all terms of a path and type stand together

pub record IsRun (h : List ℕ) (n : ℕ) (ts : List Term) : Type 0 where
  pub alike : list_all (begins_with h) (take n ts) ≡ true
  pub behind : AllByRecursion (λ t. Below h (path_and_type t.0)) (drop n ts)

others_rise : (t : Term) (us : List Term) → AllByRecursion (λ y. slice_cmp nat_cmp t.0 y ≡ Less) (map (λ (u : Term). u.0) us) → AllByRecursion (λ (u : Term). NotAbove (path_and_type t.0) (path_and_type u.0)) us
others_rise t [] above = tt
others_rise t (u ∷ us) above = (head_rises t.0 u.0 above.0, others_rise t us above.1)

all_behind : (h g : List ℕ) → Below h g → (us : List Term) → AllByRecursion (λ (u : Term). NotAbove g (path_and_type u.0)) us → AllByRecursion (λ (u : Term). Below h (path_and_type u.0)) us
all_behind h g below [] above = tt
all_behind h g below (u ∷ us) above = (below_next h g (path_and_type u.0) below above.0, all_behind h g below us above.1)

other_below : (h : List ℕ) (t : Term) → begins_with h t ≡ false → NotAbove h (path_and_type t.0) → Below h (path_and_type t.0)
other_below h t other (inl same) = absurd (let is : begins_with h t ≡ true = same_is h t (sym same) in cc)
other_below h t other (inr below) = below

run_of : (h : List ℕ) (ts : List Term) → IsStrictlySortedBy (slice_cmp nat_cmp) (map (λ (t : Term). t.0) ts) → AllByRecursion (λ (t : Term). NotAbove h (path_and_type t.0)) ts → IsRun h (prefix_len (begins_with h) ts) ts
unfolding IsStrictlySortedBy
run_of h [] sorted above = record { alike = refl; behind = tt }
run_of h (t ∷ ts) sorted above = by (begins_with h t) refl (run_of h ts sorted.1 above.1)
  where
    by : (b : Bool) → begins_with h t ≡ b → IsRun h (prefix_len (begins_with h) ts) ts → IsRun h (cond b (1 + prefix_len (begins_with h) ts) 0) (t ∷ ts)
    by true is rest =
        let one : suc (prefix_len (begins_with h) ts) ≡ 1 + prefix_len (begins_with h) ts = omega arith in
        subst (λ (n : ℕ). IsRun h n (t ∷ ts)) one
        (record { alike = and_from (begins_with h t) (list_all (begins_with h) (take (prefix_len (begins_with h) ts) ts)) is rest.alike; behind = rest.behind })
    by false other rest =
        let below : Below h (path_and_type t.0) = other_below h t other above.0 in
        record { alike = refl; behind = (below, all_behind h (path_and_type t.0) below ts (others_rise t ts sorted.0)) }

-- the run of the first term
pub first_run : (t : Term) (ts : List Term) → IsStrictlySortedBy (slice_cmp nat_cmp) (map (λ (u : Term). u.0) (t ∷ ts)) → IsRun (path_and_type t.0) (prefix_len (begins_with (path_and_type t.0)) (t ∷ ts)) (t ∷ ts)
unfolding IsStrictlySortedBy
first_run t ts sorted = run_of (path_and_type t.0) (t ∷ ts) sorted (inl refl, others_rise t ts sorted.0)

-- ---- a space before those of the terms after it

keeps_all : (h : List ℕ) (run : List Term) → list_all (begins_with h) run ≡ true → filter (begins_with h) run ≡ run
keeps_all h [] alike = refl
keeps_all h (t ∷ run) alike =
    let both = and_parts (begins_with h t) (list_all (begins_with h) run) alike in
    ap (λ b. cond b (t ∷ filter (begins_with h) run) (filter (begins_with h) run)) both.0 ∙ ap (λ (l : List Term). t ∷ l) (keeps_all h run both.1)

keeps_none : (h : List ℕ) (rest : List Term) → AllByRecursion (λ (t : Term). begins_with h t ≡ false) rest → filter (begins_with h) rest ≡ []
keeps_none h [] none = refl
keeps_none h (t ∷ rest) none = ap (λ b. cond b (t ∷ filter (begins_with h) rest) (filter (begins_with h) rest)) none.0 ∙ keeps_none h rest none.1

none_behind : (h : List ℕ) (rest : List Term) → AllByRecursion (λ (t : Term). Below h (path_and_type t.0)) rest → AllByRecursion (λ (t : Term). begins_with h t ≡ false) rest
none_behind h [] behind = tt
none_behind h (t ∷ rest) behind = (unlike_back h (path_and_type t.0) behind.0, none_behind h rest behind.1)

none_before : (h g : List ℕ) → Below h g → (run : List Term) → list_all (begins_with h) run ≡ true → AllByRecursion (λ (t : Term). begins_with g t ≡ false) run
none_before h g below [] alike = tt
none_before h g below (t ∷ run) alike =
    let both = and_parts (begins_with h t) (list_all (begins_with h) run) alike in
    (ap (λ (x : List ℕ). bytes_eq x g) (begins h t both.0) ∙ unlike h g below, none_before h g below run both.1)

-- what begins some later term is itself later
met : (h g : List ℕ) (us : List Term) → AllByRecursion (λ (u : Term). Below h (path_and_type u.0)) us → 0 < length (filter (begins_with g) us) → Below h g
met h g [] behind some = absurd (omega (arith, some))
met h g (u ∷ us) behind some = by (begins_with g u) refl some (met h g us behind.1)
  where
    by : (b : Bool) → begins_with g u ≡ b → 0 < length (cond b (u ∷ filter (begins_with g) us) (filter (begins_with g) us)) → (0 < length (filter (begins_with g) us) → Below h g) → Below h g
    by true is some more = subst (Below h) (begins g u is) behind.0
    by false other some more = more some

module _ (space : InvertedIndexFieldSpace) (run rest : List Term) (alike : list_all (begins_with (beginning space)) run ≡ true) (behind : AllByRecursion (λ (t : Term). Below (beginning space) (path_and_type t.0)) rest) where
  abbrev h : List ℕ
  h = beginning space

  own : filter (begins_with h) (run ++ rest) ≡ run
  own = filter-append (begins_with h) run rest ∙ ap (λ (l : List Term). l ++ filter (begins_with h) rest) (keeps_all h run alike) ∙ ap (λ (l : List Term). run ++ l) (keeps_none h rest (none_behind h rest behind)) ∙ append-nil run

  others : (g : List ℕ) → Below h g → filter (begins_with g) (run ++ rest) ≡ filter (begins_with g) rest
  others g below = filter-append (begins_with g) run rest ∙ ap (λ (l : List Term). l ++ filter (begins_with g) rest) (keeps_none g run (none_before h g below run alike))

  is_behind : (other : InvertedIndexFieldSpace) → IsSpaceAmong rest other → Below h (beginning other)
  is_behind other is = met h (beginning other) rest behind (let number = is.number in let occur = is.occur in omega (arith, number, occur))

  above : (spaces : List InvertedIndexFieldSpace) → AllByRecursion (IsSpaceAmong rest) spaces → AllByRecursion (λ y. slice_cmp nat_cmp h y ≡ Less) (map beginning spaces)
  above [] each = tt
  above (other ∷ spaces) each = (is_behind other each.0, above spaces each.1)

  still : (spaces : List InvertedIndexFieldSpace) → AllByRecursion (IsSpaceAmong rest) spaces → AllByRecursion (IsSpaceAmong (run ++ rest)) spaces
  still [] each = tt
  still (other ∷ spaces) each =
      (subst (λ (ts : List Term). IsSpaceOf ts other) (sym (others (beginning other) (is_behind other each.0))) each.0, still spaces each.1)

  module _ (spaces : List InvertedIndexFieldSpace) where
    found : Term → Bool
    found t = list_any (λ (s : InvertedIndexFieldSpace). begins_with (beginning s) t) spaces

    rest_found : (ts : List Term) → AllByRecursion (λ (t : Term). found t ≡ true) ts → AllByRecursion (λ (t : Term). (begins_with h t || found t) ≡ true) ts
    rest_found [] all = tt
    rest_found (t ∷ ts) all = (or_right (begins_with h t) (found t) all.0, rest_found ts all.1)

    run_found : (us : List Term) → list_all (begins_with h) us ≡ true → AllByRecursion (λ (t : Term). found t ≡ true) rest → AllByRecursion (λ (t : Term). (begins_with h t || found t) ≡ true) (us ++ rest)
    run_found [] like all = rest_found rest all
    run_found (t ∷ us) like all =
        let both = and_parts (begins_with h t) (list_all (begins_with h) us) like in
        (ap (λ b. b || found t) both.0, run_found us both.1 all)

  pub put_first : IsSpaceOf run space → (spaces : List InvertedIndexFieldSpace) → AreSpaces rest spaces → AreSpaces (run ++ rest) (space ∷ spaces)
  unfolding IsStrictlySortedBy found
  put_first is spaces are = record {
    ascend = (above spaces are.each, are.ascend);
    each = (subst (λ (ts : List Term). IsSpaceOf ts space) (sym own) is, still spaces are.each);
    all = run_found spaces run alike are.all;
  }

pub no_spaces : AreSpaces [] []
unfolding IsStrictlySortedBy
no_spaces = record { ascend = tt; each = tt; all = tt }
