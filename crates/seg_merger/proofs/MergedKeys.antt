-- The keys of a field in segments, one after another.
use Rattle.std.proofs.Common.{◌≡◌, ℕ, suc, ◌<◌, Bool, true, false, List, [], ◌∷◌, ◌++◌, map, length, Some, None, Option, sym, refl, ap, ◌∙◌, subst, arith, append_assoc, append-nil}
use Rattle.std.specs.Prelude.{All, IfSome, IsSomeAnd, nat_lt, option_map, option_to_list, unwrap_or}
use Rattle.std.specs.FinMap.{entries, find, get, get-entries, is_sorted}
use Rattle.std.specs.FinMap.Entries.{below_all}
use Rattle.std.specs.List.{AllByRecursion, flat_map}
use Rattle.std.specs.declared.cmp.Ordering.TheVariants.{Less}
use Rattle.std.proofs.lemmas.Bool.{false≢true, lt-ltb, and_parts}
use Rattle.std.proofs.lemmas.List.Elements.{All-from_recursion}
use Rattle.std.proofs.lemmas.Option.{none-some, same_Some}
use Rattle.seg_common.specs.WriterGrowth.{HasGrown}
use Rattle.seg_common.specs.declared.term_info.TermInfo.{TermInfo}
use Rattle.seg_termdict.specs.MergedTerms.{Standing, standings_from, if_stands, merged_terms}
use Rattle.seg_model.specs.DocumentTerms.{Posting}
use Rattle.seg_termdict.specs.SortedTerms.{key_cmp}
use Rattle.seg_termdict.proofs.Exports.{merged_terms_answer}
use Rattle.seg_termdict.specs.MergedStreams.{MergedTerm, ToldTerm, Merging, told, info_of, at_first, stepped, terms_of_stream}
use Rattle.seg_termdict.specs.TermStreams.{Stream, all_terms}
use Rattle.seg_postings.specs.FieldSerializers.{TermWritten, FieldWriting, with_open, last_written, MayOpen}
use Rattle.seg_segment.specs.WrittenTerms.{IsUnwritten, term_with, with_terms, with_whole_term}
use Rattle.seg_segment.proofs.Exports.{no_terms}
use Rattle.seg_merger.specs.MovedPostings.{SourceTerms, terms_of, ranked_of, moved_from_all}
use Rattle.seg_merger.specs.JoinedSources.{joined_at, terms_joined}
use Rattle.seg_merger.proofs.SortedEntries.{find_there, first_below, sorted_entries}

-- ---- the streams

abbrev pub stream_of : SourceTerms → Stream
stream_of s = all_terms (terms_of s)

pub at_first_term : (sources : List SourceTerms) (streams : List Stream) → streams ≡ map stream_of sources → All (λ s. s.taken ≡ 0) streams
at_first_term sources streams are = subst (All (λ (s : Stream). s.taken ≡ 0)) (sym are) (All-from_recursion _ _ (each sources))
  where
    each : (xs : List SourceTerms) → AllByRecursion (λ (s : Stream). s.taken ≡ 0) (map stream_of xs)
    each [] = tt
    each (x ∷ xs) = (refl, each xs)

pub all_forward : (sources : List SourceTerms) (streams : List Stream) → streams ≡ map stream_of sources → All (λ s. s.backward ≡ false) streams
all_forward sources streams are = subst (All (λ (s : Stream). s.backward ≡ false)) (sym are) (All-from_recursion _ _ (each sources))
  where
    each : (xs : List SourceTerms) → AllByRecursion (λ (s : Stream). s.backward ≡ false) (map stream_of xs)
    each [] = tt
    each (x ∷ xs) = (refl, each xs)

pub streams_ranked : (sources : List SourceTerms) (streams : List Stream) → streams ≡ map stream_of sources → map terms_of_stream streams ≡ map ranked_of sources
streams_ranked sources streams are = ap (map terms_of_stream) are ∙ each sources
  where
    each : (xs : List SourceTerms) → map terms_of_stream (map stream_of xs) ≡ map ranked_of xs
    each [] = refl
    each (x ∷ xs) = ap (λ l. ranked_of x ∷ l) (each xs)

-- ---- the terms so far

some_stand : (ss ts : List (Standing TermInfo)) → if_stands ss ≡ Some ts → ts ≡ ss
some_stand [] ts e = absurd (none-some ts e)
some_stand (s ∷ ss) ts e = sym (same_Some (s ∷ ss) ts e)

with_open_is : (ts : List TermWritten) (o : Option TermWritten) → with_open ts o ≡ ts ++ option_to_list o
with_open_is ts None = sym (append-nil ts)
with_open_is ts (Some t) = refl

flat_map_push : {X Y : Type 0} (f : X → List Y) (xs : List X) (x : X) → flat_map f (xs ++ x ∷ []) ≡ flat_map f xs ++ f x
flat_map_push f [] x = append-nil (f x)
flat_map_push f (y ∷ xs) x = ap (λ l. f y ++ l) (flat_map_push f xs x) ∙ sym (append_assoc (f y) (flat_map f xs) (f x))

module _ (sources : List SourceTerms) where
  abbrev all : List MergedTerm
  all = entries (merged_terms (map ranked_of sources))

  in_order : is_sorted key_cmp all ≡ true
  in_order = sorted_entries (merged_terms (map ranked_of sources)) all refl

  abbrev joined : List MergedTerm → List TermWritten
  joined ts = flat_map (joined_at sources) ts

  -- the terms that were written are below the next key
  last_below : (passed : List MergedTerm) (t : MergedTerm) (left : List MergedTerm) (before : Option TermWritten) → is_sorted key_cmp (passed ++ t ∷ left) ≡ true
      → IfSome before (λ w. key_cmp w.bytes t.0 ≡ Less) → IfSome (last_written before (joined passed)) (λ w. key_cmp w.bytes t.0 ≡ Less)
  last_below [] t left before up h = h
  last_below (e ∷ passed) t left before up h =
      by (moved_from_all e.0 sources) (first_below e passed t left up) (λ (o : Option TermWritten). last_below passed t left o (and_parts (below_all key_cmp e.0 (passed ++ t ∷ left)) (is_sorted key_cmp (passed ++ t ∷ left)) up).1)
    where
      by : (ps : List Posting) → key_cmp e.0 t.0 ≡ Less → ((o : Option TermWritten) → IfSome o (λ w. key_cmp w.bytes t.0 ≡ Less) → IfSome (last_written o (joined passed)) (λ w. key_cmp w.bytes t.0 ≡ Less))
          → IfSome (last_written before (option_to_list (term_with e.0 ps) ++ joined passed)) (λ w. key_cmp w.bytes t.0 ≡ Less)
      by [] less later = later before h
      by (p ∷ ps) less later = later (Some _) less

  -- a merger has passed some merged terms, and these were joined
  pub record HasMerged (merger : Option Merging) (before now : Option FieldWriting) : Type 0 where
    pub passed : List MergedTerm
    pub left : List MergedTerm
    pub current : Option ToldTerm
    pub split : all ≡ passed ++ left
    pub is : merger ≡ Some (record { left = left; current = current })
    pub grown : HasGrown before now (with_terms (joined passed))

  -- how many are left
  abbrev pub left_of : Option Merging → ℕ
  left_of merger = length (unwrap_or (option_map (λ (m : Merging). m.left) merger) [])

  pub none_merged : (merger : Option Merging) (o : Option FieldWriting) → merger ≡ Some (record { left = entries (merged_terms (map ranked_of sources)); current = None }) → IsSomeAnd o IsUnwritten → HasMerged merger o o
  none_merged merger o is h = record { passed = []; left = all; current = None; split = refl; is = is; grown = no_terms o h }

  module _ (merger next : Option Merging) (before now : Option FieldWriting) (so_far : HasMerged merger before now) (step : HasGrown merger next stepped) (more : Bool) (told_more : IfSome merger (λ m. more ≡ nat_lt 0 (length m.left))) where
    more_is : more ≡ nat_lt 0 (length so_far.left)
    more_is = subst (λ o. IfSome o (λ (m : Merging). more ≡ nat_lt 0 (length m.left))) so_far.is told_more

    next_is : next ≡ Some (at_first so_far.left)
    next_is = step.is ∙ ap (λ m. Some (stepped m)) (same_Some step.kept _ (sym step.was ∙ so_far.is))

    -- at the end
    pub all_merged : more ≡ false → HasGrown before now (with_terms (terms_joined sources))
    all_merged over = by so_far.left refl
      where
        by : (left : List MergedTerm) → so_far.left ≡ left → HasGrown before now (with_terms (terms_joined sources))
        by [] none =
            let whole : so_far.passed ≡ all = sym (append-nil so_far.passed) ∙ ap (λ l. so_far.passed ++ l) (sym none) ∙ sym so_far.split in
            record { kept = so_far.grown.kept; was = so_far.grown.was; is = so_far.grown.is ∙ ap (λ ts. Some (record so_far.grown.kept { terms = joined ts; current = None })) whole }
        by (t ∷ ts) e = absurd (false≢true (sym over ∙ more_is ∙ ap (λ (l : List MergedTerm). nat_lt 0 (length l)) e ∙ lt-ltb 0 _ (omega arith)))

    -- at a term
    record IsAt : Type 0 where
      term : MergedTerm
      rest : List MergedTerm
      are : so_far.left ≡ term ∷ rest

    module _ (goes_on : more ≡ true) where
      is_at : IsAt
      is_at = by so_far.left refl
        where
          by : (left : List MergedTerm) → so_far.left ≡ left → IsAt
          by [] none = absurd (false≢true (sym (ap (λ (l : List MergedTerm). nat_lt 0 (length l)) none) ∙ sym more_is ∙ goes_on))
          by (t ∷ ts) e = record { term = t; rest = ts; are = e }

      abbrev term : MergedTerm
      term = is_at.term

      stands_at : next ≡ Some (record { left = is_at.rest; current = Some (told term) })
      stands_at = next_is ∙ ap (λ ts. Some (at_first ts)) is_at.are

      whole : all ≡ so_far.passed ++ term ∷ is_at.rest
      whole = so_far.split ∙ ap (λ l. so_far.passed ++ l) is_at.are

      sorted : is_sorted key_cmp (so_far.passed ++ term ∷ is_at.rest) ≡ true
      sorted = ap (is_sorted key_cmp) (sym whole) ∙ in_order

      standings_are : term.1 ≡ standings_from 0 term.0 (map ranked_of sources)
      standings_are =
          let found : get (merged_terms (map ranked_of sources)) term.0 ≡ Some term.1 =
          get-entries (merged_terms (map ranked_of sources)) term.0 ∙ ap (find key_cmp term.0) whole ∙ find_there so_far.passed term is_at.rest sorted in
          some_stand (standings_from 0 term.0 (map ranked_of sources)) term.1 (sym (merged_terms_answer TermInfo (map ranked_of sources) term.0) ∙ found)

      module _ (key : List ℕ) (key_is : IsSomeAnd next (λ m. IsSomeAnd m.current (λ t. key ≡ t.key))) where
        same_key : key ≡ term.0
        same_key = subst (λ o. IsSomeAnd o (λ (m : Merging). IsSomeAnd m.current (λ t. key ≡ t.key))) stands_at key_is

        pub standings_told : (infos : List (ℕ × TermInfo)) → IsSomeAnd next (λ m. IsSomeAnd m.current (λ t. infos ≡ t.infos)) → infos ≡ map info_of (standings_from 0 key (map ranked_of sources))
        standings_told infos infos_are =
            let same : infos ≡ map info_of term.1 = subst (λ o. IsSomeAnd o (λ (m : Merging). IsSomeAnd m.current (λ t. infos ≡ t.infos))) stands_at infos_are in
            same ∙ ap (map info_of) standings_are ∙ ap (λ k. map info_of (standings_from 0 k (map ranked_of sources))) (sym same_key)

        pub may_open : IsSomeAnd now (λ w. MayOpen w key)
        may_open =
            let opens : MayOpen (record so_far.grown.kept { terms = joined so_far.passed; current = None }) key = record {
              closed = refl;
              ascends = subst (λ k. IfSome (last_written None (joined so_far.passed)) (λ w. key_cmp w.bytes k ≡ Less)) (sym same_key) (last_below so_far.passed term is_at.rest None sorted tt);
            } in
            subst (λ o. IsSomeAnd o (λ w. MayOpen w key)) (sym so_far.grown.is) opens

        pub one_merged : (after : Option FieldWriting) → HasGrown now after (with_whole_term key (moved_from_all key sources)) → HasMerged next before after
        one_merged after g =
            let kept = so_far.grown.kept in
            let terms : with_open (joined so_far.passed) (term_with key (moved_from_all key sources)) ≡ joined (so_far.passed ++ term ∷ []) =
            ap (λ k. with_open (joined so_far.passed) (term_with k (moved_from_all k sources))) same_key
            ∙ with_open_is (joined so_far.passed) (term_with term.0 (moved_from_all term.0 sources))
            ∙ sym (flat_map_push (joined_at sources) so_far.passed term) in
            record {
              passed = so_far.passed ++ term ∷ [];
              left = is_at.rest;
              current = Some (told term);
              split = whole ∙ sym (append_assoc so_far.passed (term ∷ []) is_at.rest);
              is = stands_at;
              grown = record {
                kept = kept;
                was = so_far.grown.was;
                is = g.is
                    ∙ ap (λ w. Some (with_whole_term key (moved_from_all key sources) w)) (same_Some g.kept _ (sym g.was ∙ so_far.grown.is))
                    ∙ ap (λ ts. Some (record kept { terms = ts; current = None })) terms;
              };
            }

        pub fewer : left_of next < left_of merger
        fewer =
            let was : left_of merger ≡ suc (length is_at.rest) = ap left_of so_far.is ∙ ap length is_at.are in
            let now_left : left_of next ≡ length is_at.rest = ap left_of stands_at in
            omega (arith, was, now_left)
