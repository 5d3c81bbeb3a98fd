-- Where a key is in segments, and the postings that it has there.
use Rattle.std.proofs.Common.{◌≡◌, ℕ, zero, suc, ◌+◌, ◌<◌, Bool, true, false, cond, List, [], ◌∷◌, ◌++◌, map, length, drop, get_or, Some, None, sym, refl, ap, ◌∙◌, subst, arith, append_assoc, length-append, inl, inr, ◌⊎◌}
use Rattle.std.specs.Prelude.{IsSomeAnd, option_map, unwrap_or, filter}
use Rattle.std.specs.FinMap.{is_sorted}
use Rattle.std.specs.FinMap.Entries.{below_all}
use Rattle.std.specs.List.{AllByRecursion, flat_map, enumerate_from}
use Rattle.std.specs.Ordering.{nat_cmp, is_lt, is_eq}
use Rattle.std.specs.Cmp.Lexicographic.{slice_cmp}
use Rattle.std.specs.Str.{bytes_eq}
use Rattle.std.specs.declared.cmp.Ordering.{Ordering}
use Rattle.std.specs.declared.cmp.Ordering.TheVariants.{Less, Equal, Greater}
use Rattle.std.proofs.lemmas.Bool.{false≢true, and_parts}
use Rattle.std.proofs.lemmas.List.{get_or_at, get_or_read, drop_more, length_push}
use Rattle.std.proofs.lemmas.Map.Text.{is_eq-slice_cmp}
use Rattle.std.proofs.lemmas.Slice.Eq.{bytes_eq-Decides}
use Rattle.seg_segment.proofs.Exports.{pair_of, term_of}
use Rattle.seg_common.specs.declared.term_info.TermInfo.{TermInfo}
use Rattle.seg_termdict.specs.MergedTerms.{Standing, standing_in, standings_from}
use Rattle.seg_model.specs.DocumentTerms.{Posting}
use Rattle.seg_termdict.specs.SortedTerms.{RankedTerm}
use Rattle.seg_termdict.specs.Dictionary.{Term}
use Rattle.seg_termdict.specs.MergedStreams.{info_of}
use Rattle.seg_termdict.specs.TermStreams.{no_term}
use Rattle.seg_postings.specs.OpenedFields.{ReadTerm}
use Rattle.seg_merger.specs.MovedPostings.{SourceTerms, term_at, moved, moved_from, moved_from_all, ranked_of}
use Rattle.seg_merger.specs.JoinedSources.{IsJoinable}

-- terms with their ordinals, the first of which is n
abbrev ranked_at : ℕ → List ReadTerm → List (RankedTerm TermInfo)
ranked_at n ts = map (λ (t : ℕ × Term). record { ord = t.0; key = t.1.0; info = t.1.1 }) (enumerate_from n (map term_of ts))

differs : (o : Ordering) → is_lt o ≡ true → is_eq o ≡ false
differs Less h = refl
differs Equal h = absurd (false≢true h)
differs Greater h = absurd (false≢true h)

module _ (key : List ℕ) (segment : ℕ) where
  -- terms after the key
  none_after : (n : ℕ) (ts : List ReadTerm) → below_all (slice_cmp nat_cmp) key (map pair_of ts) ≡ true → standing_in segment key (ranked_at n ts) ≡ []
  none_after n [] h = refl
  none_after n (t ∷ ts) h =
      let parts = and_parts (is_lt (slice_cmp nat_cmp key t.bytes)) (below_all (slice_cmp nat_cmp) key (map pair_of ts)) h in
      let other : bytes_eq key t.bytes ≡ false = sym (is_eq-slice_cmp key t.bytes) ∙ differs (slice_cmp nat_cmp key t.bytes) parts.0 in
      ap (λ b. map (λ (u : RankedTerm TermInfo). record { segment = segment; ord = u.ord; info = u.info }) (cond b (record { ord = n; key = t.bytes; info = t.info } ∷ filter (λ (u : RankedTerm TermInfo). bytes_eq key u.key) (ranked_at (n + 1) ts)) (filter (λ (u : RankedTerm TermInfo). bytes_eq key u.key) (ranked_at (n + 1) ts)))) other
      ∙ none_after (n + 1) ts parts.1

  -- a segment doesn't have the key
  record IsLacking (standings : List (Standing TermInfo)) (ts : List ReadTerm) : Type 0 where
    none : standings ≡ []
    lacks : term_at key ts ≡ None

  -- or it has it once
  record IsStanding (standings : List (Standing TermInfo)) (ts : List ReadTerm) : Type 0 where
    ord : ℕ
    term : ReadTerm
    one : standings ≡ record { segment = segment; ord = ord; info = term.info } ∷ []
    has : term_at key ts ≡ Some term

  abbrev Stands : List (Standing TermInfo) → List ReadTerm → Type 0
  Stands standings ts = IsLacking standings ts ⊎ IsStanding standings ts

  stands : (n : ℕ) (ts : List ReadTerm) → is_sorted (slice_cmp nat_cmp) (map pair_of ts) ≡ true → Stands (standing_in segment key (ranked_at n ts)) ts
  stands n [] up = inl (record { none = refl; lacks = refl })
  stands n (t ∷ ts) up =
      let parts = and_parts (below_all (slice_cmp nat_cmp) t.bytes (map pair_of ts)) (is_sorted (slice_cmp nat_cmp) (map pair_of ts)) up in
      by (bytes_eq key t.bytes) refl parts.0 (stands (n + 1) ts parts.1)
    where
      split : (b : Bool) → bytes_eq key t.bytes ≡ b → standing_in segment key (ranked_at n (t ∷ ts)) ≡ cond b (record { segment = segment; ord = n; info = t.info } ∷ standing_in segment key (ranked_at (n + 1) ts)) (standing_in segment key (ranked_at (n + 1) ts))
      split true e = ap (λ b. map (λ (u : RankedTerm TermInfo). record { segment = segment; ord = u.ord; info = u.info }) (cond b (record { ord = n; key = t.bytes; info = t.info } ∷ filter (λ (u : RankedTerm TermInfo). bytes_eq key u.key) (ranked_at (n + 1) ts)) (filter (λ (u : RankedTerm TermInfo). bytes_eq key u.key) (ranked_at (n + 1) ts)))) e
      split false e = ap (λ b. map (λ (u : RankedTerm TermInfo). record { segment = segment; ord = u.ord; info = u.info }) (cond b (record { ord = n; key = t.bytes; info = t.info } ∷ filter (λ (u : RankedTerm TermInfo). bytes_eq key u.key) (ranked_at (n + 1) ts)) (filter (λ (u : RankedTerm TermInfo). bytes_eq key u.key) (ranked_at (n + 1) ts)))) e

      at : (b : Bool) → bytes_eq key t.bytes ≡ b → term_at key (t ∷ ts) ≡ cond b (Some t) (term_at key ts)
      at b e = ap (λ c. cond c (Some t) (term_at key ts)) (is_eq-slice_cmp key t.bytes ∙ e)

      later : bytes_eq key t.bytes ≡ false → Stands (standing_in segment key (ranked_at (n + 1) ts)) ts → Stands (standing_in segment key (ranked_at n (t ∷ ts))) (t ∷ ts)
      later e (inl h) = inl (record { none = split false e ∙ h.none; lacks = at false e ∙ h.lacks })
      later e (inr h) = inr (record { ord = h.ord; term = h.term; one = split false e ∙ h.one; has = at false e ∙ h.has })

      by : (b : Bool) → bytes_eq key t.bytes ≡ b → below_all (slice_cmp nat_cmp) t.bytes (map pair_of ts) ≡ true → Stands (standing_in segment key (ranked_at (n + 1) ts)) ts → Stands (standing_in segment key (ranked_at n (t ∷ ts))) (t ∷ ts)
      by true e low rest =
          let same : key ≡ t.bytes = (bytes_eq-Decides key t.bytes).0 e in
          let none = none_after (n + 1) ts (ap (λ k. below_all (slice_cmp nat_cmp) k (map pair_of ts)) same ∙ low) in
          inr (record { ord = n; term = t; one = split true e ∙ ap (λ ss. record { segment = segment; ord = n; info = t.info } ∷ ss) none; has = at true e })
      by false e low rest = later e rest

-- ---- in all segments

abbrev pub no_source : SourceTerms
no_source = record { terms = []; ids = [] }

-- the postings of a key in the segment where it is
abbrev pub given_at : List SourceTerms → List ℕ → ℕ × TermInfo → List Posting
given_at sources key s = moved_from key (get_or sources s.0 no_source)

-- a segment where a key is found is there, and its term has this info
pub record IsThere (sources : List SourceTerms) (key : List ℕ) (s : ℕ × TermInfo) : Type 0 where
  pub within : s.0 < length sources
  pub has : IsSomeAnd (term_at key (get_or sources s.0 no_source).terms) (λ t. t.info ≡ s.1)

module _ (key : List ℕ) where
  abbrev told_from : ℕ → List SourceTerms → List (ℕ × TermInfo)
  told_from n rest = map info_of (standings_from n key (map ranked_of rest))

  -- all facts of the segments from a place on
  record Told (sources rest : List SourceTerms) (n : ℕ) : Type 0 where
    there : AllByRecursion (IsThere sources key) (told_from n rest)
    given : flat_map (given_at sources key) (told_from n rest) ≡ moved_from_all key rest

  module _ (pre : List SourceTerms) (s : SourceTerms) (rest : List SourceTerms) (n : ℕ) (at : length pre ≡ n) where
    abbrev sources : List SourceTerms
    sources = pre ++ s ∷ rest

    here : get_or sources n no_source ≡ s
    here = get_or_at pre s rest no_source n at

    within : n < length sources
    within = let both_are = length-append pre (s ∷ rest) in omega (arith, both_are, at)

    one : List (Standing TermInfo)
    one = standing_in n key (ranked_of s)

    first : Stands key n (standing_in n key (ranked_of s)) s.terms → Told sources rest (n + 1) → Told sources (s ∷ rest) n
    first (inl h) later =
        let none : told_from n (s ∷ rest) ≡ told_from (n + 1) rest = ap (λ ss. map info_of (ss ++ standings_from (n + 1) key (map ranked_of rest))) h.none in
        record {
          there = subst (AllByRecursion (IsThere sources key)) (sym none) later.there;
          given = ap (flat_map (given_at sources key)) none ∙ later.given ∙ ap (λ o. moved s.ids (unwrap_or (option_map (λ (t : ReadTerm). t.postings) o) []) ++ moved_from_all key rest) (sym h.lacks);
        }
    first (inr h) later =
        let told : told_from n (s ∷ rest) ≡ (n, h.term.info) ∷ told_from (n + 1) rest = ap (λ ss. map info_of (ss ++ standings_from (n + 1) key (map ranked_of rest))) h.one in
        let has : IsSomeAnd (term_at key (get_or sources n no_source).terms) (λ t. t.info ≡ h.term.info) =
        subst (λ (x : SourceTerms). IsSomeAnd (term_at key x.terms) (λ t. t.info ≡ h.term.info)) (sym here) (subst (λ o. IsSomeAnd o (λ t. t.info ≡ h.term.info)) (sym h.has) refl) in
        record {
          there = subst (AllByRecursion (IsThere sources key)) (sym told) (record { within = within; has = has }, later.there);
          given = ap (flat_map (given_at sources key)) told ∙ ap (λ ps. moved_from key (get_or sources n no_source) ++ ps) later.given ∙ ap (λ x. moved_from key x ++ moved_from_all key rest) here;
        }

  told : (pre rest : List SourceTerms) (n : ℕ) → length pre ≡ n → AllByRecursion IsJoinable rest → Told (pre ++ rest) rest n
  told pre [] n at all = record { there = tt; given = refl }
  told pre (s ∷ rest) n at all =
      let later : Told ((pre ++ s ∷ []) ++ rest) rest (n + 1) = told (pre ++ s ∷ []) rest (n + 1) (length_push pre s ∙ ap (λ k. k + 1) at) all.1 in
      first pre s rest n at (stands key n 0 s.terms all.0.ascend) (subst (λ (xs : List SourceTerms). Told xs rest (n + 1)) (append_assoc pre (s ∷ []) rest) later)

  module _ (sources : List SourceTerms) (all : AllByRecursion IsJoinable sources) where
    pub all_there : AllByRecursion (IsThere sources key) (map info_of (standings_from 0 key (map ranked_of sources)))
    all_there = (told [] sources 0 refl all).there

    pub all_given_at : flat_map (given_at sources key) (map info_of (standings_from 0 key (map ranked_of sources))) ≡ moved_from_all key sources
    all_given_at = (told [] sources 0 refl all).given

-- ---- one standing after another

abbrev pub no_standing : ℕ × TermInfo
no_standing = (0, no_term.1)

at_place : {X : Type 0} (P : X → Type 0) (xs : List X) (i : ℕ) (d : X) → i < length xs → AllByRecursion P xs → P (get_or xs i d)
at_place P [] i d lt all = absurd (omega (arith, lt))
at_place P (x ∷ xs) zero d lt all = all.0
at_place P (x ∷ xs) (suc i) d lt all = at_place P xs i d (omega (arith, lt)) all.1

module _ (key : List ℕ) (sources : List SourceTerms) (each : AllByRecursion IsJoinable sources) (standings : List (ℕ × TermInfo)) (are : standings ≡ map info_of (standings_from 0 key (map ranked_of sources))) (i : ℕ) (lt : i < length standings) where
  abbrev standing : ℕ × TermInfo
  standing = get_or standings i no_standing

  there : IsThere sources key (get_or standings i no_standing)
  there = at_place (IsThere sources key) standings i no_standing lt (subst (AllByRecursion (IsThere sources key)) (sym are) (all_there key sources each))

  pub segment_within : (get_or standings i no_standing).0 < length sources
  segment_within = there.within

  module _ (source : SourceTerms) (is : source ≡ get_or sources (get_or standings i no_standing).0 source) where
    source_is : source ≡ get_or sources (get_or standings i no_standing).0 no_source
    source_is = get_or_read sources standing.0 source segment_within is no_source

    pub source_joinable : IsJoinable source
    source_joinable = subst IsJoinable (sym source_is) (at_place IsJoinable sources standing.0 no_source segment_within each)

    pub source_has : IsSomeAnd (term_at key source.terms) (λ t. t.info ≡ (get_or standings i no_standing).1)
    source_has = subst (λ (x : SourceTerms). IsSomeAnd (term_at key x.terms) (λ t. t.info ≡ (get_or standings i no_standing).1)) (sym source_is) there.has

    pub next_given : flat_map (given_at sources key) (drop i standings) ≡ moved_from key source ++ flat_map (given_at sources key) (drop (i + 1) standings)
    next_given =
        ap (flat_map (given_at sources key)) (drop_more standings i no_standing lt)
        ∙ ap (λ x. moved_from key x ++ flat_map (given_at sources key) (drop (i + 1) standings)) (sym source_is)
