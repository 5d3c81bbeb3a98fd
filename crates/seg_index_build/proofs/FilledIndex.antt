-- A work index that is filled, or where its filling ends.
use Rattle.std.proofs.Common.{◌≡◌, ◌≢◌, ◌∙◌, ℕ, ◌+◌, ◌<◌, ◌≤◌, ◌^◌, true, List, [], ◌∷◌, ◌++◌, IsTrue, length, map, Option, None, Some, Result, Ok, Err, refl, sym, ap, subst, inl, inr, arith}
use Rattle.std.specs.Prelude.{◌⊎◌}
use Rattle.std.specs.List.{AllByRecursion, enumerate_from, list_all}
use Rattle.std.specs.Option.{option_or}
use Rattle.seg_common.specs.declared.name.FileName.TheVariants.{Meta}
use Rattle.seg_common.proofs.Results.{error_is}
use Rattle.seg_values.specs.declared.error.TantivyError.{TantivyError}
use Rattle.seg_values.specs.declared.error.TantivyError.TheVariants.{IndexAlreadyExists}
use Rattle.seg_directory.proofs.Exports.{all_went, answers, quiet_steps, then_does}
use Rattle.seg_directory.specs.DirectoryStates.{DirectoryState}
use Rattle.seg_directory.specs.DirectorySteps.{Step, Works}
use Rattle.seg_meta.specs.ParsedMeta.{meta_read}
use Rattle.seg_meta.specs.MetaText.{meta_text}
use Rattle.seg_meta.specs.SavableMetas.{IsMetaList}
use Rattle.seg_model.specs.TextDocuments.{is_taken}
use Rattle.seg_model.specs.Fields.{Schema, Analyzer}
use Rattle.seg_meta.specs.IndexOfFiles as index
use Rattle.seg_meta.specs.IndexOfFiles.{Deletes, ListedSegment}
use Rattle.seg_model.specs.Input.{Settings}
use Rattle.seg_model.specs.Operations.{Operation, Batch, additions, batches}
use Rattle.seg_model.specs.DocumentCheck.{first_of}
use Rattle.seg_model.specs.Refusals.{cut_from, IfRefusal, IsRefusal, batch_refusal, batches_error}
use Rattle.seg_model.specs.ValidInputs.{are_distinct}
use Rattle.seg_model.proofs.Exports.{Fits}
use Rattle.seg_segment.specs.IndexForms.{segment_forms}
use Rattle.seg_segment.specs.SegmentFiles.{AreAbsent, KeepsAllBut, segment_names}
use Rattle.seg_segment.specs.declared.segment_files.SegmentFiles.{SegmentFiles}
use Rattle.seg_segment.proofs.Exports.{all_touched, failing, keeps_untouched, same_error}
use Rattle.seg_batches.specs.AliveFiles.{WritesAlive, alive_step, alive_steps}
use Rattle.seg_batches.specs.BatchTotals.{AllHaveTotals}
use Rattle.seg_batches.specs.WrittenSegments.{AllStand, AllTellAlive, WrittenSegment, alive_file, alive_files, all_listed, deletes_of, six_files}
use Rattle.seg_batches.specs.BatchWriteSteps.{MakesBatches, batch_cause, batch_causes, batches_steps}
use Rattle.seg_batches.proofs.Exports.{IsFirst, TellsRefusal, alive_fresh, all_fit, all_stand, all_taken, all_tell, all_totals, batches_fresh, batches_none, batches_told, causes_tell, first_cause, refusal_weaker, as_many as as_many_cut}
use Rattle.seg_index_build.specs.IndexFiles.{listed_of, segments_files, written_of}
use Rattle.seg_index_build.specs.WorkIndexSteps.{FillsIndex, FinishesIndex, WritesSegments, after_batches, finish_steps, in_batches, listing_meta}
use Rattle.seg_index_build.specs.IndexWriteSteps.{publish_steps}
use Rattle.seg_index_build.proofs.FillSteps.{alive_absent, as_many, ids_are, listed_are, meta_list, no_alive_file, six_absent, stand_kept, tell_kept, totals_kept}
use Rattle.seg_index_build.proofs.FinishSteps.{FinishParts, in_alive, in_meta, finish_parts}
use Rattle.seg_index_build.proofs.ToldDirectories.{tells-still}
use Rattle.seg_index_build.proofs.MergeTurns.{works_as}
use Rattle.seg_index_build.proofs.PublishSteps.{published, publishing_keeps}
use Rattle.seg_index_build.proofs.WriteErrors.{IsWriteError, all_alive_write, batches_write, both_write, calls_so, finish_writes, write_unrefused, writes_so}

-- the meta that lists the segments of batches is read back
pub read_back : (schema : Schema) (analyzer : Analyzer) (ids cuts : List ℕ) (operations : List Operation)
    → length ids ≡ length cuts + 1 → length ids < 2 ^ 32 → are_distinct ids ≡ true
    → (settings : Settings) (given : index.Meta)
    → given ≡ listing_meta settings schema (length operations) (written_of schema analyzer ids cuts operations) → (IsMetaList given.segments → meta_read (meta_text given) ≡ Some given)
    → meta_read (meta_text (listing_meta settings schema (length operations) (written_of schema analyzer ids cuts operations))) ≡ Some (listing_meta settings schema (length operations) (written_of schema analyzer ids cuts operations))
read_back schema analyzer ids cuts operations many few distinct settings given is law =
    let written = written_of schema analyzer ids cuts operations in
    subst (λ (m : index.Meta). meta_read (meta_text m) ≡ Some m) is
    (law (meta_list (length operations) written given.segments (ap (λ (m : index.Meta). m.segments) is)
    (subst (λ (n : ℕ). n < 2 ^ 32) (sym (as_many schema analyzer ids cuts operations many)) few)
    (ap are_distinct (ids_are schema analyzer ids cuts operations many) ∙ distinct)))

-- the steps of batches touch the six files of each
touched_six : (ids : List ℕ) (causes : List (Option TantivyError)) (files : List SegmentFiles)
    → length files ≡ length ids → length causes ≡ length ids
    → all_touched (batches_steps ids causes files) ≡ six_files ids
touched_six [] causes files many each = refl
touched_six (id ∷ ids) [] files many each = absurd (omega (arith, each))
touched_six (id ∷ ids) (cause ∷ causes) [] many each = absurd (omega (arith, many))
touched_six (id ∷ ids) (cause ∷ causes) (f ∷ files) many each =
    ap (λ l. segment_names id ++ l) (touched_six ids causes files (omega (arith, many)) (omega (arith, each)))

-- and those of alive files these
module _ (stamp : ℕ) where
  touched_one : (id : ℕ) (d : Option Deletes) (bytes : List ℕ) (more : List Step)
      → all_touched (alive_step id d bytes ++ more) ≡ alive_file id d ++ all_touched more
  touched_one id None bytes more = refl
  touched_one id (Some d) bytes more = refl

  touched_alive : (files : List (List ℕ)) (segments : List WrittenSegment) → length files ≡ length segments
      → all_touched (alive_steps stamp files segments) ≡ alive_files (all_listed stamp segments)
  touched_alive [] [] many = refl
  touched_alive [] (s ∷ segments) many = absurd (omega (arith, many))
  touched_alive (f ∷ files) [] many = absurd (omega (arith, many))
  touched_alive (f ∷ files) (s ∷ segments) many =
      touched_one s.id (deletes_of stamp s.alive) f (alive_steps stamp files segments)
      ∙ ap (λ l. alive_file s.id (deletes_of stamp s.alive) ++ l) (touched_alive files segments (omega (arith, many)))

-- batches without a cause are not refused
none_first : (schema : Schema) (analyzer : Analyzer) (parts : List (List (ℕ × Operation)))
    → AllByRecursion (λ cause. cause ≡ None) (map (batch_cause None schema analyzer) parts)
    → first_of (batch_refusal schema analyzer) parts ≡ None
none_first schema analyzer [] h = refl
none_first schema analyzer (part ∷ parts) h =
    ap (λ o. option_or o (first_of (batch_refusal schema analyzer) parts)) h.0 ∙ none_first schema analyzer parts h.1

module _ (settings : Settings) (schema : Schema) (analyzer : Analyzer) (ids cuts : List ℕ) (operations : List Operation) where
  abbrev parts_of : List (List (ℕ × Operation))
  parts_of = cut_from 0 cuts (enumerate_from 0 operations)

  abbrev causes : List (Option TantivyError)
  causes = batch_causes None schema analyzer cuts operations

  abbrev all : List Batch
  all = batches schema analyzer cuts operations

  abbrev written : List WrittenSegment
  written = written_of schema analyzer ids cuts operations

  abbrev listed : List ListedSegment
  listed = listed_of schema analyzer ids cuts operations

  abbrev pub meta : index.Meta
  meta = listing_meta settings schema (length operations) written

  abbrev last_steps : List (List ℕ) → List Step
  last_steps alive = finish_steps meta (length operations) alive written

  abbrev Fills : {T : Type 0} → Result T TantivyError → DirectoryState → DirectoryState → Type 0
  Fills r a c = FillsIndex settings schema analyzer ids cuts operations r a c

  abbrev Makes : {T : Type 0} → Result T TantivyError → DirectoryState → DirectoryState → Type 0
  Makes r a c = WritesSegments settings schema analyzer ids cuts operations r a c

  abbrev Finishes : {T : Type 0} → Result T TantivyError → DirectoryState → DirectoryState → Type 0
  Finishes r b c = FinishesIndex settings schema (length operations) written r b c

  -- another answer
  made_as : {S T : Type 0} (x : S) (y : T) (a b : DirectoryState) → Makes (Ok x) a b → Makes (Ok y) a b
  made_as x y a b w = record { files = w.files; stand = w.stand; whole = w.whole; works = answers w.works }

  made_fails_as : (S T : Type 0) (e : TantivyError) (a b : DirectoryState) → Makes {T = S} (Err e) a b → Makes {T = T} (Err e) a b
  made_fails_as S T e a b w = record { files = w.files; stand = w.stand; whole = tt; works = works_as S T _ e a b w.works }

  finished_as : {S T : Type 0} (x : S) (y : T) (b c : DirectoryState) → Finishes (Ok x) b c → Finishes (Ok y) b c
  finished_as x y b c f = record { alive = f.alive; tell = f.tell; whole = f.whole; works = answers f.works }

  -- where a writer can be started
  module _ (start : Option TantivyError) (none : start ≡ None) where
    abbrev Started : {T : Type 0} → Result T TantivyError → DirectoryState → DirectoryState → Type 0
    Started r a b = MakesBatches (batch_causes start schema analyzer cuts operations) schema settings.block_size analyzer ids all r a b

    makes_of : {T : Type 0} (r : Result T TantivyError) (a b : DirectoryState) → Started r a b → Makes r a b
    makes_of r a b w =
        subst
        (λ (o : Option TantivyError). MakesBatches (batch_causes o schema analyzer cuts operations) schema settings.block_size analyzer ids
        all r a b)
        none w

    -- it ends in a batch
    pub batches_end : {S T : Type 0} (e : TantivyError) (a b : DirectoryState) → Started {T = S} (Err e) a b → Fills {T = T} (Err e) a b
    batches_end {S = S} e a b w = in_batches e refl (made_fails_as S (Unit {0}) e a b (makes_of {T = S} (Err e) a b w))

    -- or is finished after them
    pub batches_finished : {S T : Type 0} (x : S) (r : Result T TantivyError) (a b c : DirectoryState)
        → Started (Ok x) a b → (stamp : ℕ) (segments : List WrittenSegment) → stamp ≡ length operations
        → segments ≡ written
        → FinishesIndex settings schema stamp segments r b c → Fills r a c
    batches_finished x r a b c w stamp segments counted are finishes =
        after_batches b (made_as x tt a b (makes_of (Ok x) a b w))
        (subst (λ (l : List WrittenSegment). FinishesIndex settings schema (length operations) l r b c) are
        (subst (λ (n : ℕ). FinishesIndex settings schema n segments r b c) counted finishes))

  -- another answer
  pub filled_as : {S T : Type 0} (x : S) (y : T) (a c : DirectoryState) → Fills (Ok x) a c → Fills (Ok y) a c
  filled_as x y a c (in_batches e is w) = absurd (cc is)
  filled_as x y a c (after_batches b w f) = after_batches b w (finished_as x y b c f)

  -- or the same error of another call
  pub filled_fails_as : (S T : Type 0) (e : TantivyError) (a c : DirectoryState) → Fills {T = S} (Err e) a c → Fills {T = T} (Err e) a c
  filled_fails_as S T e a c (in_batches d is w) = in_batches d (ap (failing T) (same_error S e d is)) w
  filled_fails_as S T e a c (after_batches b w f) =
      after_batches b w (record { alive = f.alive; tell = f.tell; whole = tt; works = works_as S T _ e b c f.works })

  tells : AllByRecursion TellsRefusal causes
  tells = causes_tell schema analyzer None parts_of (λ e is. absurd (cc is))

  -- with which errors it ends
  pub filled_so : {T : Type 0} (e : TantivyError) (a c : DirectoryState) → Fills {T = T} (Err e) a c → IsWriteError e a.faults c.faults ⊎ IsRefusal e
  filled_so {T = T} e a c (in_batches d is w) =
      subst (λ (x : TantivyError). IsWriteError x a.faults c.faults ⊎ IsRefusal x) (sym (same_error T e d is))
      (writes_so {T = Unit {0}} IsRefusal d (batches_write ids causes w.files tells) w.works)
  filled_so e a c (after_batches b w f) =
      writes_so IsRefusal e
      (both_write IsRefusal (batches_steps ids causes w.files) (last_steps f.alive)
      (batches_write ids causes w.files tells) (finish_writes IsRefusal (length operations) meta f.alive written))
      (then_does w.works f.works)

  -- what is told of the directory
  pub filled_tells : {T : Type 0} (x : T) (a c : DirectoryState) → Fills (Ok x) a c → c.tells ≡ a.tells
  filled_tells x a c (in_batches e is w) = absurd (cc is)
  filled_tells x a c (after_batches b w f) = (all_went f.works).tells ∙ (all_went w.works).tells

  pub filled_counts : {T : Type 0} (x : T) (a c : DirectoryState) → Fills (Ok x) a c → a.faults ≤ c.faults
  filled_counts x a c (in_batches e is w) = absurd (cc is)
  filled_counts x a c (after_batches b w f) = omega (arith, (all_went w.works).later, (all_went f.works).later)

  -- both parts, where all of it went well
  pub record FilledParts (a c : DirectoryState) : Type 0 where
    pub between : DirectoryState
    pub makes : Makes {T = Unit {0}} (Ok tt) a between
    pub finishes : Finishes {T = Unit {0}} (Ok tt) between c

  pub filled_parts : {T : Type 0} (x : T) (a c : DirectoryState) → Fills (Ok x) a c → FilledParts a c
  filled_parts x a c (in_batches e is w) = absurd (cc is)
  filled_parts x a c (after_batches b w f) = record { between = b; makes = w; finishes = finished_as x tt b c f }

  module _ (many : length ids ≡ length cuts + 1) where
    each : length causes ≡ length ids
    each = as_many_cut (batch_cause None schema analyzer) 0 cuts (enumerate_from 0 operations) ∙ sym many

    -- their files alone change
    six_kept : (a b : DirectoryState) → Makes {T = Unit {0}} (Ok tt) a b → KeepsAllBut (six_files ids) a.files b.files
    six_kept a b w =
        subst (λ names. KeepsAllBut names a.files b.files) (touched_six ids causes w.files w.whole each)
        (keeps_untouched w.works)

    -- ---- all of it went well

    record AllFilled {T : Type 0} (x : T) (a c : DirectoryState) : Type 0 where
      pub batches_at : DirectoryState
      pub alive_at : DirectoryState
      pub makes : Makes {T = Unit {0}} (Ok tt) a batches_at
      pub writes : WritesAlive {T = Unit {0}} (length operations) written (Ok tt) batches_at alive_at
      pub publishes : Works (publish_steps meta) (Ok x) alive_at c

    all_filled : {T : Type 0} (x : T) (a c : DirectoryState) → Fills (Ok x) a c → AllFilled x a c
    all_filled x a c (in_batches e is w) = absurd (cc is)
    all_filled {T = T} x a c (after_batches b w f) =
        finished (finish_parts meta (length operations) f.alive written (Ok x) b c f.tell f.whole f.works)
      where
        finished : FinishParts meta (length operations) written (Ok x) b c → AllFilled x a c
        finished (in_alive e is writes) = absurd (cc is)
        finished (in_meta d writes next) = record { batches_at = b; alive_at = d; makes = w; writes = writes; publishes = next }

    none_caused : (a b : DirectoryState) → Makes {T = Unit {0}} (Ok tt) a b → AllByRecursion (λ cause. cause ≡ None) causes
    none_caused a b w = batches_none ids causes w.files tt a b w.whole each w.works

    pub filled_fit : {T : Type 0} (x : T) (a c : DirectoryState) → Fills (Ok x) a c → AllByRecursion (Fits schema analyzer) all
    filled_fit x a c w = let p = all_filled x a c w in all_fit schema analyzer None cuts operations (none_caused a p.batches_at p.makes)

    pub filled_taken : {T : Type 0} (x : T) (a c : DirectoryState) → Fills (Ok x) a c
        → list_all (is_taken schema analyzer) (additions operations) ≡ true
    filled_taken x a c w = let p = all_filled x a c w in all_taken schema analyzer None cuts operations (none_caused a p.batches_at p.makes)

    -- no batch was refused
    pub filled_unrefused : {T : Type 0} (x : T) (a c : DirectoryState) → Fills (Ok x) a c
        → batches_error schema analyzer 0 cuts operations ≡ None
    filled_unrefused x a c w =
        let p = all_filled x a c w in none_first schema analyzer parts_of (none_caused a p.batches_at p.makes)

    module _ (distinct : are_distinct ids ≡ true) where
      apart : are_distinct (map (λ (s : WrittenSegment). s.id) written) ≡ true
      apart = ap are_distinct (ids_are schema analyzer ids cuts operations many) ∙ distinct

      module _ {T : Type 0} (x : T) (a c : DirectoryState) (w : Fills (Ok x) a c) (told : IsTrue a.tells) where
        abbrev parts : AllFilled x a c
        parts = all_filled x a c w

        told_batches : IsTrue parts.batches_at.tells
        told_batches = tells-still _ _ (all_went parts.makes.works).tells told

        told_alive : IsTrue parts.alive_at.tells
        told_alive = tells-still _ _ (all_went parts.writes.works).tells told_batches

        -- the files read as an index with this meta
        pub filled_index : meta_read (meta_text meta) ≡ Some meta → index.index_of segment_forms c.files ≡ Some meta
        filled_index reads = published meta (Ok x) parts.publishes reads told_alive

        alive_kept : KeepsAllBut (alive_files listed) parts.batches_at.files parts.alive_at.files
        alive_kept =
            subst (λ names. KeepsAllBut names parts.batches_at.files parts.alive_at.files)
            (touched_alive (length operations) parts.writes.files written parts.writes.whole)
            (keeps_untouched parts.writes.works)

        batches_kept : KeepsAllBut (Meta ∷ alive_files listed) parts.batches_at.files c.files
        batches_kept other untouched =
            publishing_keeps meta parts.publishes other (untouched.0, tt) ∙ alive_kept other untouched.1

        -- those of each batch stand for its documents
        pub filled_stand : AllStand schema analyzer c.files ids all
        filled_stand =
            stand_kept listed parts.batches_at.files c.files batches_kept schema analyzer ids all
            (all_stand schema analyzer settings.block_size causes ids all (Ok tt) a parts.batches_at each distinct parts.makes told)

        -- and tell its totals
        pub filled_totals : AllHaveTotals schema analyzer c.files ids all
        filled_totals =
            totals_kept listed parts.batches_at.files c.files batches_kept schema analyzer ids all
            (all_totals schema analyzer settings.block_size causes ids all (Ok tt) a parts.batches_at each distinct parts.makes told)

        -- and alive files tell what is left of it
        pub filled_alive : AllTellAlive c.files (length operations) written
        filled_alive =
            tell_kept parts.alive_at.files c.files (publishing_keeps meta parts.publishes) (length operations) written
            (all_tell (length operations) written (Ok tt) parts.batches_at parts.alive_at apart parts.writes
            told_batches)

      -- ---- whatever it comes to

      same_ids : map (λ (s : ListedSegment). s.id) listed ≡ ids
      same_ids = listed_are schema analyzer ids cuts operations many

      fresh_error : {T : Type 0} (r : Result T TantivyError) (e : TantivyError) → r ≡ Err e
          → failing (Unit {0}) e ≢ failing (Unit {0}) IndexAlreadyExists → r ≢ Err IndexAlreadyExists
      fresh_error r e is fresh at = fresh (ap (failing (Unit {0})) (error_is r e IndexAlreadyExists is at))

      fresh_finish : {T : Type 0} (r : Result T TantivyError) (a b c : DirectoryState) → IsTrue a.tells
          → AreAbsent (segments_files listed) a.files → Makes {T = Unit {0}} (Ok tt) a b
          → FinishParts meta (length operations) written r b c → r ≢ Err IndexAlreadyExists
      fresh_finish {T = T} r a b c told absent w (in_alive e is alive) =
          subst (λ (s : Result T TantivyError). s ≢ Err IndexAlreadyExists) (sym is)
          (alive_fresh (length operations) written (Err e) b c apart alive
          (tells-still _ _ (all_went w.works).tells told)
          (alive_absent listed ids a.files b.files (six_kept a b w) (no_alive_file listed a.files absent)))
      fresh_finish r a b c told absent w (in_meta d alive next) = quiet_steps (tt, (tt, (tt, tt))) next

      -- where none of its files is there, none is found
      pub filled_fresh : {T : Type 0} (r : Result T TantivyError) (a c : DirectoryState) → Fills r a c → IsTrue a.tells
          → AreAbsent (segments_files listed) a.files → r ≢ Err IndexAlreadyExists
      filled_fresh r a c (in_batches e is w) told absent =
          fresh_error r e is
          (batches_fresh ids causes w.files (failing (Unit {0}) e) a c tells distinct w.works told
          (six_absent listed ids a.files same_ids absent))
      filled_fresh r a c (after_batches b w f) told absent =
          fresh_finish r a b c told absent w
          (finish_parts meta (length operations) f.alive written r b c f.tell f.whole f.works)

    abbrev IsCause : TantivyError → Type 0
    IsCause e = batches_error schema analyzer 0 cuts operations ≡ Some e

    cause_of : (e : TantivyError) → IsFirst causes e → IsCause e
    cause_of e first = elim (first_cause schema analyzer None parts_of e first) [
      | inl none ↦ absurd (cc none)
      | inr is ↦ is
    ]

    finish_refused : (T : Type 0) (e : TantivyError) (b c : DirectoryState)
        → FinishParts meta (length operations) written (failing T e) b c → IfRefusal IsCause e
    finish_refused T e b c (in_alive d is w) =
        subst (IfRefusal IsCause) (sym (same_error T e d is)) (write_unrefused IsCause d b.faults c.faults (calls_so {T =
        T} d (all_alive_write (λ x. ⊥) (length operations) w.files written) w.works))
    finish_refused T e b c (in_meta d w next) = write_unrefused IsCause e d.faults c.faults (calls_so
        {T = T} e (tt, (tt, (tt, tt))) next)

    -- an error that tells a refusal tells that of the first batch that is refused
    pub filled_refused : {T : Type 0} (e : TantivyError) (a c : DirectoryState) → Fills {T = T} (Err e) a c → IfRefusal IsCause e
    filled_refused {T = T} e a c (in_batches d is w) =
        subst (IfRefusal IsCause) (sym (same_error T e d is))
        (refusal_weaker (IsFirst causes) IsCause cause_of d (batches_told ids causes w.files (failing (Unit {0}) d) a c w.works))
    filled_refused {T = T} e a c (after_batches b w f) =
        finish_refused T e b c
        (finish_parts meta (length operations) f.alive written (failing T e) b c f.tell f.whole f.works)
