-- Merged terms, head by head.
use Rattle.std.proofs.Common.{◌≡◌, ◌⊎◌, ℕ, ◌+◌, ◌-◌, ◌<◌, ◌≤◌, true, false, List, [], ◌∷◌, ◌++◌, length, get_or, slice_get, set, Option, Some, None, refl, sym, ap, subst, ◌∙◌, arith, inl, inr}
use Rattle.std.specs.Prelude.{All, Contains, IsUtf8, MatchOption, sum_by}
use Rattle.std.specs.Cmp.Lexicographic.{slice_cmp}
use Rattle.std.specs.List.Sorted.{IsPermutation, IsStrictlySortedBy}
use Rattle.std.specs.Ordering.{nat_cmp, is_gt}
use Rattle.std.specs.declared.cmp.Ordering.TheVariants.{Less}
use Rattle.std.proofs.lemmas.Bool.{cases_eq, cases_lt, false≢true}
use Rattle.std.proofs.lemmas.List.{get_or-set_same, get_or-set_other, length-set, length_push}
use Rattle.std.proofs.lemmas.List.Elements.{All-append, All-cons, All-tail, Contains-append_right}
use Rattle.std.proofs.lemmas.List.Sorted.{All-permutation, Contains-permutation, sum_by-IsPermutation, sum_by_popped}
use Rattle.std.proofs.lemmas.List.Sums.{sum_by-cons}
use Rattle.std.proofs.lemmas.Map.Keys.{Less-from_sorted}
use Rattle.seg_column_merge_parts.specs.HeadHeaps.{Head, Pops}
use Rattle.seg_column_merge_parts.specs.TermHeads.{Advances, AreFirstHeads, AreLong, AreMergedTerms, EndsWith, IsHead, IsLast, IsTermOf, Waits, column_at, heads_at, ordinal_of, with_ordinal}
use Rattle.seg_column_merge_parts.specs.UsedTerms.{IsNextUsed, MarkedTerms, NoneUsed, no_terms}
use Rattle.seg_column_merge_parts.proofs.HeadHeaps.{least_first, there_in}
use Rattle.seg_column_merge_parts.proofs.TermOrder.{Ascends, Follows, ascends_more, follows_last, last_of, stays}

module _ (columns : List MarkedTerms) where
  -- how many ordinals a head has from its own on
  abbrev left_of : Head → ℕ
  left_of h = length (column_at columns h.1).terms - h.2

  abbrev pub measure : List Head → ℕ
  measure heads = sum_by left_of heads

  -- ---- one column goes on

  module _ (place from : ℕ) (there : place < length columns) (old new : List Head)
      (goes : Advances (column_at columns place) place from old new) where
    abbrev m : MarkedTerms
    m = column_at columns place

    next_is_head : (next : Option ℕ) → MatchOption next (NoneUsed m.used from (length m.used)) (IsNextUsed m.used from)
        → All (IsHead columns) (heads_at m place next)
    next_is_head None is = λ k d lt. absurd (omega (arith, lt))
    next_is_head (Some ord) is = All-cons (IsHead columns) (get_or m.terms ord [], place, ord) []
        (record { place = there; within = omega (arith, is.within, goes.long); used = is.is; is = refl })
        (λ k d lt. absurd (omega (arith, lt)))

    pub heads_stay : All (IsHead columns) old → All (IsHead columns) new
    heads_stay all = All-permutation (IsHead columns) (heads_at m place goes.next ++ old) new goes.moves
        (All-append (IsHead columns) (heads_at m place goes.next) old (next_is_head goes.next goes.is) all)

    waits_on : (h : Head) → Waits old h → Waits new h
    waits_on h waits = record {
      head = waits.head;
      there = Contains-permutation (heads_at m place goes.next ++ old) new waits.head goes.moves
          (Contains-append_right (heads_at m place goes.next) old waits.head waits.there);
      same = waits.same;
      before = waits.before;
    }

    -- each head of the column from the ordinal on waits
    pub column_waits : (h : Head) → IsHead columns h → h.1 ≡ place → from ≤ h.2 → Waits new h
    column_waits h is same le = by goes.next goes.is goes.moves
      where
        used_here : get_or m.used h.2 false ≡ true
        used_here = subst (λ (p : ℕ). get_or (column_at columns p).used h.2 false ≡ true) same is.used

        within_here : h.2 < length m.terms
        within_here = subst (λ (p : ℕ). h.2 < length (column_at columns p).terms) same is.within

        by : (next : Option ℕ) → MatchOption next (NoneUsed m.used from (length m.used)) (IsNextUsed m.used from)
            → IsPermutation (heads_at m place next ++ old) new → Waits new h
        by None none moves =
            absurd (false≢true (sym (none h.2 le (omega (arith, within_here, goes.long))) ∙ used_here))
        by (Some n) is_next moves =
            let head : Head = (get_or m.terms n [], place, n) in
            record {
              head = head;
              there = Contains-permutation (head ∷ old) new head moves (0, omega arith, refl);
              same = sym same;
              before = at_most (cases_lt h.2 n);
            }
          where
            at_most : (h.2 < n) ⊎ (n ≤ h.2) → n ≤ h.2
            at_most (inl before) = absurd (false≢true (sym (is_next.none h.2 le before) ∙ used_here))
            at_most (inr past) = past

    -- terms after the one before the ordinal follow it
    pub next_low : (ord : ℕ) → ord + 1 ≡ from → (P : Head → Type 0) → All P old
        → ((next : ℕ) → slice_cmp nat_cmp (get_or m.terms ord []) (get_or m.terms next []) ≡ Less
        → P (get_or m.terms next [], place, next)) → All P new
    next_low ord is P all one = by goes.next goes.is goes.moves
      where
        by : (next : Option ℕ) → MatchOption next (NoneUsed m.used from (length m.used)) (IsNextUsed m.used from)
            → IsPermutation (heads_at m place next ++ old) new → All P new
        by None none moves = All-permutation P old new moves all
        by (Some n) next moves =
            All-permutation P ((get_or m.terms n [], place, n) ∷ old) new moves
            (All-cons P (get_or m.terms n [], place, n) old
            (one n (Less-from_sorted (slice_cmp nat_cmp) m.terms ord n [] goes.ascend
            (omega (arith, is, next.after)) (omega (arith, next.within, goes.long)))) all)

    pub less_left : (ord : ℕ) → ord + 1 ≡ from → ord < length m.terms → (term : List ℕ)
        → measure new < left_of (term, place, ord) + measure old
    less_left ord is lt term = by goes.next goes.is goes.moves
      where
        by : (next : Option ℕ) → MatchOption next (NoneUsed m.used from (length m.used)) (IsNextUsed m.used from)
            → IsPermutation (heads_at m place next ++ old) new → measure new < left_of (term, place, ord) + measure old
        by None none moves = omega (arith, sum_by-IsPermutation left_of old new moves, lt)
        by (Some n) next moves =
            omega (
              arith,
              sum_by-IsPermutation left_of ((get_or m.terms n [], place, n) ∷ old) new moves,
              lt,
              is,
              next.after,
              sum_by-cons left_of (get_or m.terms n [], place, n) old,
            )

  -- ---- the heads at the start

  -- heads of the columns before a place
  pub record AreBegun (place : ℕ) (heads : List Head) : Type 0 where
    pub each : All (IsHead columns) heads
    pub all : (h : Head) → IsHead columns h → h.1 < place → Waits heads h

  pub none_begun : AreBegun 0 []
  none_begun = record {
    each = λ k d lt. absurd (omega (arith, lt));
    all = λ h is lt. absurd (omega (arith, lt));
  }

  pub one_begun : (place : ℕ) → place < length columns → (old new : List Head) → AreBegun place old
      → Advances (column_at columns place) place 0 old new → AreBegun (place + 1) new
  one_begun place there old new begun goes = record {
    each = heads_stay place 0 there old new goes begun.each;
    all = λ h is lt. by h is lt (cases_lt h.1 place);
  }
    where
      by : (h : Head) → IsHead columns h → h.1 < place + 1 → (h.1 < place) ⊎ (place ≤ h.1) → Waits new h
      by h is lt (inl before) = waits_on place 0 there old new goes h (begun.all h is before)
      by h is lt (inr past) = column_waits place 0 there old new goes h is (omega (arith, lt, past)) (omega arith)

  pub all_begun : (place : ℕ) (heads : List Head) → length columns ≤ place → AreBegun place heads
      → AreFirstHeads columns heads
  all_begun place heads le begun = record {
    each = begun.each;
    all = λ h is. begun.all h is (omega (arith, le, is.place));
  }

  -- ---- terms that were merged so far

  abbrev pub Done : List (List ℕ) → List (List ℕ) → Head → Type 0
  Done terms ordinals h = slice_get terms (ordinal_of ordinals h) ≡ Some h.0

  pub record SoFar (heads : List Head) (terms ordinals : List (List ℕ)) : Type 0 where
    pub heads_are : All (IsHead columns) heads
    pub low : All (λ h. Follows terms h.0) heads
    pub ascend : Ascends terms
    pub long : AreLong columns ordinals
    pub each : All (IsTermOf columns) terms
    pub texts : All (λ m. m.texts ≡ true) columns → All IsUtf8 terms
    pub left : (h : Head) → IsHead columns h → Done terms ordinals h ⊎ Waits heads h

  pub nothing_yet : (heads : List Head) (ordinals : List (List ℕ)) → AreFirstHeads columns heads
      → AreLong columns ordinals → SoFar heads [] ordinals
  unfolding IsStrictlySortedBy
  nothing_yet heads ordinals first long = record {
    heads_are = first.each;
    low = λ k d lt. inl (λ j e none. absurd (omega (arith, none)));
    ascend = tt;
    long = long;
    each = λ k d lt. absurd (omega (arith, lt));
    texts = λ all k d lt. absurd (omega (arith, lt));
    left = λ h is. inr (first.all h is);
  }

  pub all_merged : (terms ordinals : List (List ℕ)) → SoFar [] terms ordinals → AreMergedTerms columns terms ordinals
  all_merged terms ordinals so_far = record {
    ascend = so_far.ascend;
    long = so_far.long;
    each = so_far.each;
    texts = so_far.texts;
    numbered = λ h is. by h (so_far.left h is);
  }
    where
      by : (h : Head) → Done terms ordinals h ⊎ Waits [] h → Done terms ordinals h
      by h (inl done) = done
      by h (inr waits) = let (k, lt, is) = waits.there in absurd (omega (arith, lt))

  -- ---- a head is taken out, its term is put after the others, and its column goes on

  module _ (heads rest : List Head) (h : Head) (terms ordinals : List (List ℕ)) (so_far : SoFar heads terms ordinals)
      (pops : Pops heads rest h) where
    both : All (IsHead columns) (h ∷ rest)
    both = All-permutation (IsHead columns) heads (h ∷ rest) pops.moves so_far.heads_are

    pub is_head : IsHead columns h
    is_head = both 0 h (omega arith)

    follows : Follows terms h.0
    follows = All-permutation (λ (y : Head). Follows terms y.0) heads (h ∷ rest) pops.moves so_far.low 0 h (omega arith)

    pub list_there : h.1 < length ordinals
    list_there = omega (arith, is_head.place, so_far.long.many)

    pub ordinal_there : h.2 < length (get_or ordinals h.1 [])
    ordinal_there = omega (arith, is_head.within, so_far.long.each h.1)

    module _ (more : List (List ℕ)) (ends : EndsWith (column_at columns h.1) terms h.0 more) where
      record IsMore : Type 0 where
        last : IsLast more h.0
        ascend : Ascends more
        each : All (IsTermOf columns) more
        texts : All (λ m. m.texts ≡ true) columns → All IsUtf8 more
        stay : (i : ℕ) (x : List ℕ) → slice_get terms i ≡ Some x → slice_get more i ≡ Some x

      by_end : EndsWith (column_at columns h.1) terms h.0 more → Follows terms h.0 → IsMore
      by_end (inl (same, last)) low = record {
        last = subst (λ (ts : List (List ℕ)). IsLast ts h.0) (sym same) last;
        ascend = subst Ascends (sym same) so_far.ascend;
        each = subst (All (IsTermOf columns)) (sym same) so_far.each;
        texts = λ all. subst (All IsUtf8) (sym same) (so_far.texts all);
        stay = λ i x is. subst (λ (ts : List (List ℕ)). slice_get ts i ≡ Some x) (sym same) is;
      }
      by_end (inr (is, other, text)) (inr last) = absurd (other last)
      by_end (inr (is, other, text)) (inl below) = record {
        last = subst (λ (ts : List (List ℕ)). IsLast ts h.0) (sym is)
            (ap (slice_get (terms ++ h.0 ∷ [])) (omega (arith, length_push terms h.0)) ∙ last_of terms h.0);
        ascend = subst Ascends (sym is) (ascends_more terms h.0 so_far.ascend below);
        each = subst (All (IsTermOf columns)) (sym is) (All-append (IsTermOf columns) terms (h.0 ∷ []) so_far.each
            (one_all (IsTermOf columns) (record { head = h; is_head = is_head; is = refl })));
        texts = λ all. subst (All IsUtf8) (sym is) (All-append IsUtf8 terms (h.0 ∷ []) (so_far.texts all)
            (one_all IsUtf8 (text (all h.1 no_terms is_head.place))));
        stay = λ i x found. subst (λ (ts : List (List ℕ)). slice_get ts i ≡ Some x) (sym is) (stays terms (h.0 ∷ []) i x found);
      }
        where
          one_all : (P : List ℕ → Type 0) → P h.0 → All P (h.0 ∷ [])
          one_all P p = All-cons P h.0 [] p (λ k d lt. absurd (omega (arith, lt)))

      is_more : IsMore
      is_more = by_end ends follows

      abbrev numbered : List (List ℕ)
      numbered = with_ordinal ordinals h (length more - 1)

      list_here : get_or numbered h.1 [] ≡ set (get_or ordinals h.1 []) h.2 (length more - 1)
      list_here = get_or-set_same ordinals h.1 (set (get_or ordinals h.1 []) h.2 (length more - 1)) [] list_there

      still_long : AreLong columns numbered
      still_long = record {
        many = length-set ordinals h.1 (set (get_or ordinals h.1 []) h.2 (length more - 1)) ∙ so_far.long.many;
        each = λ p. by p (cases_eq p h.1);
      }
        where
          by : (p : ℕ) → (p ≡ h.1) ⊎ (p ≡ h.1 → ⊥) → length (get_or numbered p []) ≡ length (column_at columns p).terms
          by p (inl same) =
              ap (λ (q : ℕ). length (get_or numbered q [])) same ∙ ap length list_here
              ∙ length-set (get_or ordinals h.1 []) h.2 (length more - 1) ∙ so_far.long.each h.1
              ∙ ap (λ (q : ℕ). length (column_at columns q).terms) (sym same)
          by p (inr other) =
              ap length (get_or-set_other ordinals h.1 p (set (get_or ordinals h.1 []) h.2 (length more - 1)) [] other)
              ∙ so_far.long.each p

      here : ordinal_of numbered h ≡ length more - 1
      here = ap (λ (l : List ℕ). get_or l h.2 0) list_here
          ∙ get_or-set_same (get_or ordinals h.1 []) h.2 (length more - 1) 0 ordinal_there

      done_at : (g : Head) → IsHead columns g → g.1 ≡ h.1 → g.2 ≡ h.2 → Done more numbered g
      done_at g is place ord =
          let same : h.0 ≡ g.0 = is_head.is ∙ ap (λ (p : ℕ). get_or (column_at columns p).terms h.2 []) (sym place)
          ∙ ap (λ (o : ℕ). get_or (column_at columns g.1).terms o []) (sym ord) ∙ sym is.is in
          ap (slice_get more) (ap (λ (p : ℕ). get_or (get_or numbered p []) g.2 0) place
          ∙ ap (λ (o : ℕ). get_or (get_or numbered h.1 []) o 0) ord ∙ here) ∙ is_more.last ∙ ap Some same

      still_done : (g : Head) → IsHead columns g → Done terms ordinals g → Done more numbered g
      still_done g is done = by (cases_eq g.1 h.1) (cases_eq g.2 h.2)
        where
          stayed : ordinal_of numbered g ≡ ordinal_of ordinals g → Done more numbered g
          stayed same = ap (slice_get more) same ∙ is_more.stay (ordinal_of ordinals g) g.0 done

          by : (g.1 ≡ h.1) ⊎ (g.1 ≡ h.1 → ⊥) → (g.2 ≡ h.2) ⊎ (g.2 ≡ h.2 → ⊥) → Done more numbered g
          by (inl place) (inl ord) = done_at g is place ord
          by (inl place) (inr other) = stayed (
              ap (λ (p : ℕ). get_or (get_or numbered p []) g.2 0) place ∙ ap (λ (l : List ℕ). get_or l g.2 0) list_here
              ∙ get_or-set_other (get_or ordinals h.1 []) h.2 g.2 (length more - 1) 0 other
              ∙ ap (λ (p : ℕ). get_or (get_or ordinals p []) g.2 0) (sym place))
          by (inr other) any = stayed (ap (λ (l : List ℕ). get_or l g.2 0)
              (get_or-set_other ordinals h.1 g.1 (set (get_or ordinals h.1 []) h.2 (length more - 1)) [] other))

      module _ (new : List Head) (goes : Advances (column_at columns h.1) h.1 (h.2 + 1) rest new) where
        left_now : (g : Head) → IsHead columns g → Done terms ordinals g ⊎ Waits heads g
            → Done more numbered g ⊎ Waits new g
        left_now g is (inl done) = inl (still_done g is done)
        left_now g is (inr waits) =
            by (there_in h waits.head rest (Contains-permutation heads (h ∷ rest) waits.head pops.moves waits.there))
          where
            onwards : h.1 ≡ g.1 → (h.2 < g.2) ⊎ (g.2 ≤ h.2) → h.2 ≤ g.2 → Done more numbered g ⊎ Waits new g
            onwards place (inl before) le =
                inr (column_waits h.1 (h.2 + 1) is_head.place rest new goes g is (sym place) (omega (arith, before)))
            onwards place (inr past) le = inl (done_at g is (sym place) (omega (arith, past, le)))

            by : (h ≡ waits.head) ⊎ Contains rest waits.head → Done more numbered g ⊎ Waits new g
            by (inl same) = onwards (ap (λ (x : Head). x.1) same ∙ waits.same) (cases_lt h.2 g.2)
                (subst (λ (x : Head). x.2 ≤ g.2) (sym same) waits.before)
            by (inr there) = inr (waits_on h.1 (h.2 + 1) is_head.place rest new goes g (record {
              head = waits.head;
              there = there;
              same = waits.same;
              before = waits.before;
            }))

        low_now : All (λ y. Follows more y.0) new
        low_now = next_low h.1 (h.2 + 1) is_head.place rest new goes h.2 refl (λ y. Follows more y.0)
            (λ k d lt. follows_last more is_more.ascend h.0 is_more.last (get_or rest k d).0
            (least_first h (get_or rest k d) (pops.least k d lt)))
            (λ next less. follows_last more is_more.ascend h.0 is_more.last (get_or (column_at columns h.1).terms next [])
            (ap is_gt (ap (λ (t : List ℕ). slice_cmp nat_cmp t (get_or (column_at columns h.1).terms next [])) is_head.is
            ∙ less)))

        pub one_merged : SoFar new more numbered
        one_merged = record {
          heads_are = heads_stay h.1 (h.2 + 1) is_head.place rest new goes
              (All-tail (IsHead columns) h rest both);
          low = low_now;
          ascend = is_more.ascend;
          long = still_long;
          each = is_more.each;
          texts = is_more.texts;
          left = λ g is. left_now g is (so_far.left g is);
        }

        pub fewer_left : measure new < measure heads
        fewer_left = omega (
          arith,
          less_left h.1 (h.2 + 1) is_head.place rest new goes h.2 refl is_head.within h.0,
          sum_by_popped left_of h heads rest pops.moves,
        )
