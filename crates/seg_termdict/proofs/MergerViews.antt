-- What a merger is seen as, step by step.
use Rattle.std.proofs.Common.{◌≡◌, ℕ, ◌<◌, Bool, true, false, List, [], ◌∷◌, ◌++◌, map, length, refl, sym, ap, subst, ◌∙◌, arith, append_assoc, Option, Some, None}
use Rattle.std.specs.Prelude.{IfSome, IsSome, IsSomeAnd, nat_lt, if◌then◌else◌}
use Rattle.std.specs.FinMap.{entries}
use Rattle.std.specs.List.{AllByRecursion}
use Rattle.std.proofs.lemmas.Bool.{cond-false, lt-ltb}
use Rattle.seg_common.specs.WriterGrowth.{HasGrown}
use Rattle.seg_common.specs.declared.term_info.TermInfo.{TermInfo}
use Rattle.seg_termdict.specs.SortedTerms.{RankedTerm}
use Rattle.seg_termdict.specs.MergedTerms.{Standing, merged_terms}
use Rattle.seg_termdict.specs.TermStreams.{Stream}
use Rattle.seg_termdict.specs.MergedStreams.{MergedTerm, Merging, told, ord_of, info_of, noted, Ascends, behind, standings_first, NotBelow, at_first, stepped, terms_of_stream}
use Rattle.seg_termdict.proofs.MergeSteps.{Streams, next_merged, none_merged}

-- ---- the streams that are given

pub one_head : (done : Streams) (x : List (RankedTerm TermInfo)) (s : Stream) (left rest : List Stream) → x ≡ terms_of_stream s → left ≡ s ∷ rest → (done ++ x ∷ []) ++ map terms_of_stream rest ≡ done ++ map terms_of_stream left
one_head done x s left rest is e =
    append_assoc done (x ∷ []) (map terms_of_stream rest)
    ∙ ap (λ t. done ++ t ∷ map terms_of_stream rest) is
    ∙ ap (λ l. done ++ map terms_of_stream l) (sym e)

-- ---- steps

abbrev pub kept_of : Streams → List ℕ → List (ℕ × ℕ) → List (ℕ × TermInfo) → Merging
kept_of hs key ords infos = record { left = entries (merged_terms hs); current = noted key ords infos }

abbrev pub seen_of : Bool → Streams → List ℕ → List (ℕ × ℕ) → List (ℕ × TermInfo) → Option Merging
seen_of lacks hs key ords infos = if lacks then None else Some (kept_of hs key ords infos)

noted_is : (key : List ℕ) (ss : List (Standing TermInfo)) → 0 < length ss → noted key (map ord_of ss) (map info_of ss) ≡ Some (told (key, ss))
noted_is key [] lt = absurd (omega (arith, lt))
noted_is key (s ∷ ss) lt = refl

some_noted : (key : List ℕ) (ss : List (Standing TermInfo)) (infos : List (ℕ × TermInfo)) → 0 < length ss → IsSome (noted key (map ord_of ss) infos)
some_noted key [] infos lt = absurd (omega (arith, lt))
some_noted key (s ∷ ss) infos lt = refl

module _ (lacks : Bool) (hs : Streams) (key : List ℕ) (ords : List (ℕ × ℕ)) (infos : List (ℕ × TermInfo)) (now : Option Merging) (view : seen_of lacks hs key ords infos ≡ now) (has : lacks ≡ false) where
  was : now ≡ Some (kept_of hs key ords infos)
  was = sym view ∙ cond-false lacks None (Some (kept_of hs key ords infos)) has

  grown : (after : Option Merging) → after ≡ Some (at_first (entries (merged_terms hs))) → HasGrown now after stepped
  grown after is = record { kept = kept_of hs key ords infos; was = was; is = is }

  more_is : (more : Bool) → more ≡ nat_lt 0 (length (entries (merged_terms hs))) → IfSome now (λ m. more ≡ nat_lt 0 (length m.left))
  more_is more e = subst (λ o. IfSome o (λ (m : Merging). more ≡ nat_lt 0 (length m.left))) (sym was) e

  -- no stream has a term left
  module _ (over : AllByRecursion (λ (h : List (RankedTerm TermInfo)). h ≡ []) hs) where
    none : entries (merged_terms hs) ≡ []
    none = none_merged hs over

    pub at_end : (cleared : List (ℕ × ℕ)) (others : List (ℕ × TermInfo)) → cleared ≡ [] → HasGrown now (seen_of lacks hs key cleared others) stepped
    at_end cleared others e =
        let no : Merging = record { left = []; current = None } in
        let after : kept_of hs key cleared others ≡ no = λ i. record { left = none i; current = noted key (e i) others } in
        grown (seen_of lacks hs key cleared others) (cond-false lacks None (Some (kept_of hs key cleared others)) has ∙ ap Some (after ∙ ap at_first (sym none)))

    pub no_more : IfSome now (λ m. false ≡ nat_lt 0 (length m.left))
    no_more = more_is false (ap (λ (ts : List MergedTerm). nat_lt 0 (length ts)) (sym none))

  -- a key is the first of all
  module _ (k : List ℕ) (rise : AllByRecursion Ascends hs) (low : AllByRecursion (NotBelow k) hs) (some : 0 < length (standings_first 0 k hs)) where
    standings : List (Standing TermInfo)
    standings = standings_first 0 k hs

    next : entries (merged_terms hs) ≡ (k, standings) ∷ entries (merged_terms (map (behind k) hs))
    unfolding standings
    next = next_merged hs k rise low some

    pub at_next : (os : List (ℕ × ℕ)) (is : List (ℕ × TermInfo)) (rest : Streams) → os ≡ map ord_of (standings_first 0 k hs) → is ≡ map info_of (standings_first 0 k hs) → rest ≡ map (behind k) hs → HasGrown now (seen_of lacks rest k os is) stepped
    unfolding standings
    at_next os is rest os_are is_are rest_is =
        let after : kept_of rest k os is ≡ kept_of (map (behind k) hs) k (map ord_of standings) (map info_of standings) = λ i. kept_of (rest_is i) k (os_are i) (is_are i) in
        let t : MergedTerm = (k, standings) in
        let come : kept_of (map (behind k) hs) k (map ord_of standings) (map info_of standings) ≡ at_first (t ∷ entries (merged_terms (map (behind k) hs))) = λ i. record { left = entries (merged_terms (map (behind k) hs)); current = noted_is k standings some i } in
        grown (seen_of lacks rest k os is) (cond-false lacks None (Some (kept_of rest k os is)) has ∙ ap Some (after ∙ come ∙ ap at_first (sym next)))

    pub one_more : IfSome now (λ m. true ≡ nat_lt 0 (length m.left))
    one_more = more_is true (sym (ap (λ (ts : List MergedTerm). nat_lt 0 (length ts)) next ∙ lt-ltb 0 _ (omega arith)))

    pub stands : (os : List (ℕ × ℕ)) (is : List (ℕ × TermInfo)) (rest : Streams) → os ≡ map ord_of (standings_first 0 k hs) → IsSomeAnd (seen_of lacks rest k os is) (λ m. IsSome m.current)
    unfolding standings
    stands os is rest os_are =
        let now_is : Some (kept_of rest k os is) ≡ seen_of lacks rest k os is = sym (cond-false lacks None (Some (kept_of rest k os is)) has) in
        let there : IsSome (noted k os is) = subst (λ (l : List (ℕ × ℕ)). IsSome (noted k l is)) (sym os_are) (some_noted k standings is some) in
        subst (λ o. IsSomeAnd o (λ (m : Merging). IsSome m.current)) now_is there
