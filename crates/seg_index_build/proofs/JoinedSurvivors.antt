-- What the segments that were opened are merged into: the survivors.
use Rattle.std.proofs.Common.{◌≡◌, ◌≤◌, ◌∙◌, ℕ, ◌+◌, List, [], ◌∷◌, ◌++◌, map, length, Bool, true, false, cond, nat_lt, Option, None, Some, refl, sym, ap, arith}
use Rattle.std.specs.Prelude.{not}
use Rattle.std.specs.List.{AllByRecursion, filter, flat_map, list_all, count_by}
use Rattle.std.proofs.lemmas.Bool.{false≢true, and_parts, eqb-true, ltb-false}
use Rattle.std.proofs.lemmas.List.{length-append}
use Rattle.std.proofs.lemmas.List.Sums.{count_by-le-length, length-filter}
use Rattle.seg_bits.specs.BitSets.{member_count}
use Rattle.seg_meta.specs.Metas.{deleted}
use Rattle.seg_model.specs.Contents.{full_reading}
use Rattle.seg_model.specs.Fields.{Schema, Analyzer}
use Rattle.seg_model.specs.Input.{Filter, Input, input_batches, input_survivors}
use Rattle.seg_model.specs.Laws.{AreReadingsOf, JoiningIsInvisible}
use Rattle.seg_model.specs.Operations.{Batch, both_marked, filtered, filtered_by, kept, live}
use Rattle.seg_model.specs.ValidInputs.{filter_fits, filters_fit}
use Rattle.seg_open.specs.OpenSegment.{OpenSegment, kept_count, part_of}
use Rattle.seg_open.proofs.Exports.{count-more}
use Rattle.seg_index_build.specs.MergedSegments.{joined}
use Rattle.seg_index_build.proofs.WorkReadings.{IsCounted, batches_counted, has_live, live_batches, under}

-- ---- batches without a live document

-- nothing is kept of nothing
kept_nothing : {X : Type 0} (marks : List Bool) → kept {X = X} marks [] ≡ []
kept_nothing [] = refl
kept_nothing (true ∷ bs) = refl
kept_nothing (false ∷ bs) = refl

-- nor where nothing is marked
none_marked : (f : Option Filter) (alive : List Bool) → AllByRecursion (λ b. b ≡ false) alive
    → AllByRecursion (λ b. b ≡ false) (filtered_by f alive)
none_marked None alive h = h
none_marked (Some keeps) alive h = both_none alive keeps h
  where
    both_none : (alive keeps : List Bool) → AllByRecursion (λ b. b ≡ false) alive
        → AllByRecursion (λ b. b ≡ false) (both_marked alive keeps)
    both_none [] keeps h = tt
    both_none (a ∷ alive) [] h = tt
    both_none (true ∷ alive) (b ∷ keeps) h = absurd (false≢true (sym h.0))
    both_none (false ∷ alive) (b ∷ keeps) h = (refl, both_none alive keeps h.1)

none_kept : {X : Type 0} (marks : List Bool) (xs : List X) → AllByRecursion (λ b. b ≡ false) marks → kept marks xs ≡ []
none_kept [] [] h = refl
none_kept [] (x ∷ xs) h = refl
none_kept (true ∷ bs) xs h = absurd (false≢true (sym h.0))
none_kept (false ∷ bs) [] h = refl
none_kept (false ∷ bs) (x ∷ xs) h = none_kept bs xs h.1

-- where as many are not marked as there are, none is
all_dead : (alive : List Bool) → length alive ≤ length (filter not alive) → AllByRecursion (λ b. b ≡ false) alive
all_dead [] h = tt
all_dead (true ∷ bs) h =
    let most = count_by-le-length not bs in
    let same = length-filter not bs in
    absurd (omega (arith, h, most, same))
all_dead (false ∷ bs) h = (refl, all_dead bs (omega (arith, h)))

no_documents : {X : Type 0} (xs : List X) → length xs ≤ 0 → xs ≡ []
no_documents [] h = refl
no_documents (x ∷ xs) h = absurd (omega (arith, h))

module _ (stamp : ℕ) where
  none_alive : (f : Option Filter) (batch : Batch) → IsCounted batch → (t : Bool)
      → nat_lt (deleted (cond t None (Some (record { number = count_by not batch.alive; stamp = stamp })))) (length batch.documents) ≡ false
      → live (under f batch) ≡ []
  none_alive f batch counted true dead =
      ap (kept (filtered_by f batch.alive)) (no_documents batch.documents (ltb-false 0 (length batch.documents) dead))
      ∙ kept_nothing (filtered_by f batch.alive)
  none_alive f batch counted false dead =
      let most : length batch.documents ≤ count_by not batch.alive = ltb-false (count_by not batch.alive) (length batch.documents) dead in
      let same = length-filter not batch.alive in
      none_kept (filtered_by f batch.alive) batch.documents
      (none_marked f batch.alive (all_dead batch.alive (omega (arith, most, same, counted))))

  -- nothing of them is live
  dead : (f : Option Filter) (batch : Batch) → IsCounted batch → has_live stamp batch ≡ false → live (under f batch) ≡ []
  dead f batch counted h = none_alive f batch counted (list_all (λ b. b) batch.alive) h

  -- what is live of a batch and those after it, also without the batches of which nothing is
  with_first : (t : Bool) (f : Option Filter) (batch : Batch) (all some : List Batch) → (t ≡ false → live (under f batch) ≡ [])
      → flat_map live some ≡ flat_map live all
      → flat_map live (cond t (under f batch ∷ some) some) ≡ live (under f batch) ++ flat_map live all
  with_first true f batch all some none same = ap (λ l. live (under f batch) ++ l) same
  with_first false f batch all some none same = same ∙ sym (ap (λ l. l ++ flat_map live all) (none refl))

  pub live_survive : (filters : List (Option Filter)) (batches : List Batch) → filters_fit filters batches ≡ true
      → AllByRecursion IsCounted batches
      → flat_map live (live_batches stamp filters batches) ≡ flat_map live (filtered filters batches)
  live_survive [] [] fit counted = refl
  live_survive (f ∷ filters) [] fit counted = refl
  live_survive [] (batch ∷ batches) fit counted = absurd (false≢true fit)
  live_survive (f ∷ filters) (batch ∷ batches) fit counted =
      with_first (has_live stamp batch) f batch (filtered filters batches) (live_batches stamp filters batches)
      (dead f batch counted.0)
      (live_survive filters batches (and_parts (filter_fits f batch) (filters_fit filters batches) fit).1 counted.1)

-- ---- what they are joined to

-- the full reading of the survivors, each undefined exactly where the other is
pub survivors_joined : JoiningIsInvisible
    → (stamp : ℕ) (analyzer : Analyzer) (input : Input) (opened : List OpenSegment)
    → filters_fit input.filters (input_batches analyzer input) ≡ true
    → AreReadingsOf input.schema analyzer (live_batches stamp input.filters (input_batches analyzer input)) (map part_of opened)
    → full_reading input.schema analyzer (input_survivors analyzer input) ≡ joined input.schema opened
survivors_joined law stamp analyzer input opened fit h =
    ap (full_reading input.schema analyzer)
    (sym
    (live_survive stamp input.filters (input_batches analyzer input) fit
    (batches_counted input.schema analyzer 0 input.cuts input.operations)))
    ∙ sym (law input.schema analyzer (live_batches stamp input.filters (input_batches analyzer input)) (map part_of opened) h)

-- ---- how many are kept

pub kept_counted : {X : Type 0} (marks : List Bool) (xs : List X) → length marks ≡ length xs
    → member_count marks ≡ length (kept marks xs)
kept_counted [] [] h = refl
kept_counted [] (x ∷ xs) h = absurd (omega (arith, h))
kept_counted (b ∷ bs) [] h = absurd (omega (arith, h))
kept_counted (true ∷ bs) (x ∷ xs) h =
    let first : member_count (true ∷ bs) ≡ 1 + member_count bs = count-more true bs in
    let rest = kept_counted bs xs (omega (arith, h)) in
    omega (arith, first, rest)
kept_counted (false ∷ bs) (x ∷ xs) h =
    let first : member_count (false ∷ bs) ≡ 0 + member_count bs = count-more false bs in
    let rest = kept_counted bs xs (omega (arith, h)) in
    omega (arith, first, rest)

module _ (schema : Schema) (analyzer : Analyzer) where
  kept_live : (batches : List Batch) (read : List OpenSegment) → AllByRecursion IsCounted batches
      → AreReadingsOf schema analyzer batches (map part_of read) → kept_count read ≡ length (flat_map live batches)
  kept_live [] [] counted h = refl
  kept_live [] (r ∷ read) counted h = absurd h
  kept_live (batch ∷ batches) [] counted h = absurd h
  kept_live (batch ∷ batches) (r ∷ read) counted h =
      let first : member_count r.alive ≡ length (live batch) =
      ap (λ (set : List Bool). member_count set) h.0.alive ∙ kept_counted batch.alive batch.documents counted.0 in
      let rest = kept_live batches read counted.1 h.1 in
      let both = length-append (live batch) (flat_map live batches) in
      ap (λ n. n + kept_count read) first ∙ ap (λ n. length (live batch) + n) rest ∙ sym both

both_counted : (as' bs : List Bool) → length as' ≡ length bs → length (both_marked as' bs) ≡ length as'
both_counted [] [] h = refl
both_counted [] (b ∷ bs) h = refl
both_counted (a ∷ as') [] h = absurd (omega (arith, h))
both_counted (a ∷ as') (b ∷ bs) h = let rest = both_counted as' bs (omega (arith, h)) in omega (arith, rest)

one_filtered : (f : Option Filter) (batch : Batch) → filter_fits f batch ≡ true → IsCounted batch
    → length (filtered_by f batch.alive) ≡ length batch.documents
one_filtered None batch fit counted = counted
one_filtered (Some f) batch fit counted =
    both_counted batch.alive f (counted ∙ sym (eqb-true (length f) (length batch.documents) fit)) ∙ counted

counted_if : (t : Bool) (batch : Batch) (batches : List Batch) → IsCounted batch → AllByRecursion IsCounted batches
    → AllByRecursion IsCounted (cond t (batch ∷ batches) batches)
counted_if true batch batches one rest = (one, rest)
counted_if false batch batches one rest = rest

live_counted : (stamp : ℕ) (filters : List (Option Filter)) (batches : List Batch) → filters_fit filters batches ≡ true
    → AllByRecursion IsCounted batches → AllByRecursion IsCounted (live_batches stamp filters batches)
live_counted stamp [] [] fit counted = tt
live_counted stamp (f ∷ filters) [] fit counted = tt
live_counted stamp [] (batch ∷ batches) fit counted = tt
live_counted stamp (f ∷ filters) (batch ∷ batches) fit counted =
    let fits = and_parts (filter_fits f batch) (filters_fit filters batches) fit in
    counted_if (has_live stamp batch) (under f batch) (live_batches stamp filters batches)
    (one_filtered f batch fits.0 counted.0) (live_counted stamp filters batches fits.1 counted.1)

-- as many are kept as there are survivors
pub kept_survivors : (stamp : ℕ) (analyzer : Analyzer) (input : Input) (opened : List OpenSegment)
    → filters_fit input.filters (input_batches analyzer input) ≡ true
    → AreReadingsOf input.schema analyzer (live_batches stamp input.filters (input_batches analyzer input)) (map part_of opened)
    → kept_count opened ≡ length (input_survivors analyzer input)
kept_survivors stamp analyzer input opened fit h =
    let all = batches_counted input.schema analyzer 0 input.cuts input.operations in
    kept_live input.schema analyzer (live_batches stamp input.filters (input_batches analyzer input)) opened
    (live_counted stamp input.filters (input_batches analyzer input) fit all) h
    ∙ ap length (live_survive stamp input.filters (input_batches analyzer input) fit all)
