-- What the opening of the work segments comes to: those that are live have the readings of their batches.
use Rattle.std.proofs.Common.{◌≡◌, ◌∙◌, ℕ, ◌-◌, List, [], ◌∷◌, map, length, take, drop, Bool, true, false, cond, Option, None, Some, refl, sym, ap, arith}
use Rattle.std.specs.Prelude.{◌&&◌, not, replicate}
use Rattle.std.specs.List.{AllByRecursion, list_all, count_by}
use Rattle.std.proofs.lemmas.Bool.{false≢true, and_parts}
use Rattle.std.proofs.lemmas.Option.{same_Some}
use Rattle.seg_common.proofs.Lists.{all_marked}
use Rattle.seg_values.specs.Tree.{Document}
use Rattle.seg_directory.specs.Files.{NamedFiles}
use Rattle.seg_bits.specs.BitSets.{set_of}
use Rattle.seg_model.specs.Contents.{Contents, full_reading}
use Rattle.seg_model.specs.Fields.{Schema, Analyzer}
use Rattle.seg_meta.specs.IndexOfFiles as index
use Rattle.seg_meta.specs.IndexOfFiles.{Deletes, ListedSegment}
use Rattle.seg_meta.specs.Metas as metas
use Rattle.seg_meta.specs.Metas.{SegmentParts}
use Rattle.seg_model.specs.Input.{Filter}
use Rattle.seg_model.specs.Laws.{IsReadingOf, AreReadingsOf}
use Rattle.seg_model.specs.Operations.{Operation, Batch, batches_from, filtered_by}
use Rattle.seg_model.specs.ValidInputs.{filter_fits, filters_fit}
use Rattle.seg_model.proofs.Exports.{was_read}
use Rattle.seg_segment.specs.IndexForms.{segment_forms}
use Rattle.seg_segment.specs.AliveFiles.{HoldsAlive, HoldsMarks}
use Rattle.seg_segment.specs.Laws.{HoldsOneContents}
use Rattle.seg_open.specs.OpenSegment.{OpenSegment, contents_of, part_of}
use Rattle.seg_open.specs.OpeningSteps.{Asked}
use Rattle.seg_merger.specs.Merger.{all_fit, fits}
use Rattle.seg_batches.specs.WrittenSegments.{AllStand, AllTellAlive, TellsAlive, all_listed, deletes_of, listed, segment_of, segments_of}
use Rattle.seg_batches.proofs.Exports.{length-alive_after}
use Rattle.seg_index_build.specs.MergeAnswers.{AllHaveHeld, HasHeld, LiveAreWhole}
use Rattle.seg_index_build.specs.MergedSegments.{is_live, live_asked}

-- ---- batches

-- it is told for each document whether it is alive
abbrev pub IsCounted : Batch → Type 0
IsCounted b = length b.alive ≡ length b.documents

module _ (schema : Schema) (analyzer : Analyzer) where
  pub batches_counted : (from : ℕ) (cuts : List ℕ) (operations : List Operation)
      → AllByRecursion IsCounted (batches_from schema analyzer from cuts operations)
  batches_counted from [] operations = (length-alive_after schema analyzer operations [], tt)
  batches_counted from (cut ∷ cuts) operations = (
    length-alive_after schema analyzer (take (cut - from) operations) (drop (cut - from) operations),
    batches_counted cut cuts
        (drop (cut - from) operations),
  )

-- a batch under its filter
abbrev pub under : Option Filter → Batch → Batch
under f batch = record { documents = batch.documents; alive = filtered_by f batch.alive }

module _ (stamp : ℕ) where
  -- whether the meta counts a document of its segment that isn't deleted
  abbrev pub has_live : Batch → Bool
  has_live batch = is_live (listed stamp (segment_of 0 batch))

  -- the batches with such a document, each under its filter
  abbrev pub live_batches : List (Option Filter) → List Batch → List Batch
  live_batches filters [] = []
  live_batches [] (batch ∷ batches) = []
  live_batches (f ∷ filters) (batch ∷ batches) =
      cond (has_live batch) (under f batch ∷ live_batches filters batches) (live_batches filters batches)

  -- their segments
  abbrev pub parts_of : Schema → List ℕ → List Batch → List SegmentParts
  parts_of schema ids batches = map (metas.segment_of schema) (all_listed stamp (segments_of ids batches))

-- ---- what is opened

-- an alive file tells one set
pub one_set : (files : NamedFiles) (id stamp documents : ℕ) (as' bs : List Bool) → HoldsAlive files id stamp documents as'
    → HoldsAlive files id stamp documents bs → as' ≡ bs
one_set files id stamp documents as' bs h k =
    same_Some as' bs (sym h.set ∙ ap set_of (same_Some h.file k.file (sym h.there ∙ k.there)) ∙ k.set)

module _ (files : NamedFiles) (stamp id documents : ℕ) (alive read : List Bool) (counted : length alive ≡ documents) where
  abbrev removed : Deletes
  removed = record { number = count_by not alive; stamp = stamp }

  alive_as : (t : Bool) → list_all (λ b. b) alive ≡ t → TellsAlive files id documents alive (cond t None (Some removed))
      → HoldsMarks files id documents (cond t None (Some removed)) read → read ≡ alive
  alive_as true all tells held = held ∙ ap (λ n. replicate n true) (sym counted) ∙ sym (all_marked alive all)
  alive_as false all tells held = one_set files id stamp documents read alive held tells

  pub alive_read : TellsAlive files id documents alive (deletes_of stamp alive)
      → HoldsMarks files id documents (deletes_of stamp alive) read → read ≡ alive
  alive_read tells held = alive_as (list_all (λ b. b) alive) refl tells held

no_members : {Y : Type 0} (y : Y) (ys : List Y) → 0 ≡ length (y ∷ ys) → ⊥
no_members y ys many = omega (arith, many)

some_members : {X : Type 0} (x : X) (xs : List X) → length (x ∷ xs) ≡ 0 → ⊥
some_members x xs many = omega (arith, many)

one_fewer : {X Y : Type 0} (x : X) (xs : List X) (y : Y) (ys : List Y) → length (x ∷ xs) ≡ length (y ∷ ys)
    → length xs ≡ length ys
one_fewer x xs y ys many = omega (arith, many)

module _ (schema : Schema) (analyzer : Analyzer) (stamp : ℕ) (files : NamedFiles) (law : HoldsOneContents) where
  abbrev asked_for : Option Filter → ℕ → Batch → Asked
  asked_for f id batch = record { segment = metas.segment_of schema (listed stamp (segment_of id batch)); custom = f }

  reads_one : (f : Option Filter) (id : ℕ) (batch : Batch) (read : OpenSegment) → IsCounted batch
      → index.StandsFor segment_forms files schema analyzer id batch.documents
      → TellsAlive files id (length batch.documents) batch.alive (deletes_of stamp batch.alive)
      → HasHeld files (asked_for f id batch) read → IsReadingOf schema analyzer (under f batch) (part_of read)
  reads_one f id batch read counted stands tell held = record {
    contents =
        stands.read ∙ ap (λ (c : Contents). Some c)
        (law files id schema stands.contents (contents_of read) stands.held held.contents);
    alive =
        held.cut ∙ ap (filtered_by f)
        (alive_read files stamp id (length batch.documents) batch.alive held.marks counted tell held.alive);
  }

  abbrev Read : List Batch → List Asked → Type 0
  Read batches asked =
      (opened : List OpenSegment) → AllHaveHeld files asked opened → AreReadingsOf schema analyzer batches (map part_of opened)

  read_if : (t : Bool) (f : Option Filter) (id : ℕ) (batch : Batch) (asked : List Asked) (batches : List Batch)
      → ((s : OpenSegment) → HasHeld files (asked_for f id batch) s → IsReadingOf schema analyzer (under f batch) (part_of s))
      → Read batches asked → Read (cond t (under f batch ∷ batches) batches) (cond t (asked_for f id batch ∷ asked) asked)
  read_if true f id batch asked batches one next [] h = absurd h
  read_if true f id batch asked batches one next (s ∷ opened) h = (one s h.0, next opened h.1)
  read_if false f id batch asked batches one next opened h = next opened h

  -- each segment that is opened has the reading of its batch
  pub readings : (filters : List (Option Filter)) (ids : List ℕ) (batches : List Batch) → length ids ≡ length batches
      → AllByRecursion IsCounted batches → AllStand schema analyzer files ids batches
      → AllTellAlive files stamp (segments_of ids batches)
      → Read (live_batches stamp filters batches) (live_asked (parts_of stamp schema ids batches) filters)
  readings filters [] [] many counted stand tell [] h = tt
  readings filters [] [] many counted stand tell (s ∷ opened) h = absurd h
  readings filters [] (batch ∷ batches) many counted stand tell opened h = absurd (no_members batch batches many)
  readings filters (id ∷ ids) [] many counted stand tell opened h = absurd (some_members id ids many)
  readings [] (id ∷ ids) (batch ∷ batches) many counted stand tell [] h = tt
  readings [] (id ∷ ids) (batch ∷ batches) many counted stand tell (s ∷ opened) h = absurd h
  readings (f ∷ filters) (id ∷ ids) (batch ∷ batches) many counted stand tell opened h =
      read_if (has_live stamp batch) f id batch (live_asked (parts_of stamp schema ids batches) filters)
      (live_batches stamp filters batches)
      (λ s held. reads_one f id batch s counted.0 stand.0 tell.0 held)
      (readings filters ids batches (one_fewer id ids batch batches many) counted.1 stand.1 tell.1) opened h

-- ---- no damage

-- what is read of documents counts them
pub counts : (schema : Schema) (analyzer : Analyzer) (ds : List Document) (contents : Contents)
    → full_reading schema analyzer ds ≡ Some contents → contents.documents ≡ length ds
counts schema analyzer ds contents h =
    ap (λ (c : Contents). c.documents) (was_read schema analyzer ds contents h).is_reading

module _ (schema : Schema) (analyzer : Analyzer) (stamp : ℕ) (files : NamedFiles) where
  agrees : (id : ℕ) (batch : Batch) (t : Bool) → IsCounted batch → TellsAlive files id (length batch.documents) batch.alive (cond t None (Some (record { number = count_by not batch.alive; stamp = stamp })))
      → index.DeletesAgree segment_forms files (listed stamp (segment_of id batch)) (cond t None (Some (record {
        number =
            count_by not batch.alive;
        stamp = stamp;
      })))
  agrees id batch true counted tell = tt
  agrees id batch false counted tell = (batch.alive, tell, counted, refl)

  whole_one : (id : ℕ) (batch : Batch) → IsCounted batch
      → index.StandsFor segment_forms files schema analyzer id batch.documents
      → TellsAlive files id (length batch.documents) batch.alive (deletes_of stamp batch.alive)
      → index.IsWhole segment_forms files schema (listed stamp (segment_of id batch))
  whole_one id batch counted stands tell = record {
    contents = stands.contents;
    held = stands.held;
    number = counts schema analyzer batch.documents stands.contents stands.read;
    deletes_agree = agrees id batch (list_all (λ b. b) batch.alive) counted tell;
  }

  -- segments that stand for documents are whole
  pub are_whole : (ids : List ℕ) (batches : List Batch) → AllByRecursion IsCounted batches
      → AllStand schema analyzer files ids batches → AllTellAlive files stamp (segments_of ids batches)
      → LiveAreWhole files (parts_of stamp schema ids batches)
  are_whole [] batches counted stand tell = tt
  are_whole (id ∷ ids) [] counted stand tell = tt
  are_whole (id ∷ ids) (batch ∷ batches) counted stand tell = (
    λ live. whole_one id batch counted.0 stand.0 tell.0,
    are_whole ids batches counted.1 stand.1 tell.1,
  )

-- ---- what the merge asks for

pub parts_of_one : (schema : Schema) (segments : List ListedSegment)
    → AllByRecursion (λ (s : SegmentParts). s.schema ≡ schema) (map (metas.segment_of schema) segments)
parts_of_one schema [] = tt
parts_of_one schema (s ∷ segments) = (refl, parts_of_one schema segments)

one_fits : (schema : Schema) (stamp : ℕ) (f : Option Filter) (id : ℕ) (batch : Batch) → filter_fits f batch ≡ true
    → fits f (metas.segment_of schema (listed stamp (segment_of id batch))) ≡ true
one_fits schema stamp None id batch h = refl
one_fits schema stamp (Some f) id batch h = h

-- filters that fit the batches fit their segments
pub parts_fit : (schema : Schema) (stamp : ℕ) (filters : List (Option Filter)) (ids : List ℕ) (batches : List Batch)
    → length ids ≡ length batches → filters_fit filters batches ≡ true
    → all_fit filters (parts_of stamp schema ids batches) ≡ true
parts_fit schema stamp [] [] [] many fit = refl
parts_fit schema stamp [] ids (batch ∷ batches) many fit = absurd (false≢true fit)
parts_fit schema stamp [] (id ∷ ids) [] many fit = absurd (some_members id ids many)
parts_fit schema stamp (f ∷ filters) ids [] many fit = absurd (false≢true fit)
parts_fit schema stamp (f ∷ filters) [] (batch ∷ batches) many fit = absurd (no_members batch batches many)
parts_fit schema stamp (f ∷ filters) (id ∷ ids) (batch ∷ batches) many fit =
    let both = and_parts (filter_fits f batch) (filters_fit filters batches) fit in
    ap (λ t. t && all_fit filters (parts_of stamp schema ids batches)) (one_fits schema stamp f id batch both.0)
    ∙ parts_fit schema stamp filters ids batches (one_fewer id ids batch batches many) both.1
