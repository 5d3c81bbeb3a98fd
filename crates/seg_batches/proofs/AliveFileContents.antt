-- What the alive files of segments tell, and where none is found.
use Rattle.std.proofs.Common.{◌≡◌, ◌≢◌, ◌∙◌, ℕ, true, Bool, List, [], ◌∷◌, ◌++◌, length, map, Option, Some, None, Result, Ok, Err, IsTrue, refl, sym, ap, subst, arith}
use Rattle.std.specs.Prelude.{OnOk}
use Rattle.std.specs.FinMap.{get}
use Rattle.std.specs.List.{AllByRecursion}
use Rattle.std.proofs.lemmas.Bool.{and_parts}
use Rattle.seg_common.specs.declared.name.FileName.{FileName}
use Rattle.seg_common.specs.declared.name.FileName.TheVariants.{Alive}
use Rattle.seg_common.proofs.Lists.{all_front, all_back}
use Rattle.seg_values.specs.declared.error.TantivyError.{TantivyError}
use Rattle.seg_values.specs.declared.error.TantivyError.TheVariants.{IndexAlreadyExists}
use Rattle.seg_directory.proofs.Exports.{all_went, keeps_others, never_there}
use Rattle.seg_directory.specs.Files.{NamedFiles}
use Rattle.seg_directory.specs.DirectoryStates.{DirectoryState}
use Rattle.seg_directory.specs.DirectorySteps.{Step, AllSuit, all_files_after}
use Rattle.seg_meta.specs.IndexOfFiles.{Deletes}
use Rattle.seg_model.specs.ValidInputs.{are_distinct}
use Rattle.seg_segment.specs.SegmentFiles.{AreAbsent}
use Rattle.seg_segment.proofs.Exports.{newest}
use Rattle.seg_batches.specs.AliveFiles.{AllTellMarks, TellMarks, WritesAlive, alive_step, alive_steps}
use Rattle.seg_batches.specs.WrittenSegments.{AllTellAlive, TellsAlive, WrittenSegment, alive_file, alive_files, all_listed, deletes_of}
use Rattle.seg_batches.proofs.DistinctSegments.{alive_apart, others_after}

-- ---- one file

module _ (id : ℕ) (bytes : List ℕ) where
  step_keeps : (other : FileName) (d : Option Deletes) (files : NamedFiles) → ((stamp : ℕ) → other ≢ Alive id stamp)
      → get (all_files_after (alive_step id d bytes) files) other ≡ get files other
  step_keeps other None files apart = refl
  step_keeps other (Some d) files apart = keeps_others files (Alive id d.stamp) bytes other (apart d.stamp)

  step_tells : (documents : ℕ) (alive : List Bool) (d : Option Deletes) (files : NamedFiles)
      → TellMarks bytes documents alive d
      → TellsAlive (all_files_after (alive_step id d bytes) files) id documents alive d
  step_tells documents alive None files h = tt
  step_tells documents alive (Some d) files h =
      record { file = bytes; there = newest files (Alive id d.stamp) bytes; set = h.0; counted = h.1 }

  step_suits : (d : Option Deletes) (files : NamedFiles) (more : List Step) → AreAbsent (alive_file id d) files
      → AllSuit more (all_files_after (alive_step id d bytes) files) → AllSuit (alive_step id d bytes ++ more) files
  step_suits None files more absent suit = suit
  step_suits (Some d) files more absent suit = (absent.0, suit)

  files_after : (d : Option Deletes) (files : NamedFiles) (more : List Step)
      → all_files_after (alive_step id d bytes ++ more) files ≡ all_files_after more (all_files_after (alive_step id d bytes) files)
  files_after None files more = refl
  files_after (Some d) files more = refl

-- ---- all of them

module _ (stamp : ℕ) where
  abbrev names_of : List WrittenSegment → List FileName
  names_of segments = alive_files (all_listed stamp segments)

  -- the file of another segment stays
  steps_keep : (files : List (List ℕ)) (segments : List WrittenSegment) (id at : ℕ) (old : NamedFiles)
      → AllByRecursion (λ (s : WrittenSegment). s.id ≢ id) segments
      → get (all_files_after (alive_steps stamp files segments) old) (Alive id at) ≡ get old (Alive id at)
  steps_keep [] segments id at old ne = refl
  steps_keep (f ∷ files) [] id at old ne = refl
  steps_keep (f ∷ files) (s ∷ segments) id at old ne =
      ap (λ (now : NamedFiles). get now (Alive id at)) (files_after s.id f (deletes_of stamp s.alive) old (alive_steps stamp files segments))
      ∙ steps_keep files segments id at (all_files_after (alive_step s.id (deletes_of stamp s.alive) f) old) ne.1
      ∙ step_keeps s.id f (Alive id at) (deletes_of stamp s.alive) old (λ t is. alive_apart s.id id t at ne.0 (sym is))

  tells_on : (id documents : ℕ) (alive : List Bool) (d : Option Deletes) (old new : NamedFiles)
      → ((at : ℕ) → get new (Alive id at) ≡ get old (Alive id at)) → TellsAlive old id documents alive d
      → TellsAlive new id documents alive d
  tells_on id documents alive None old new kept h = tt
  tells_on id documents alive (Some d) old new kept h =
      record { file = h.file; there = kept d.stamp ∙ h.there; set = h.set; counted = h.counted }

  others_are : (s : WrittenSegment) (segments : List WrittenSegment)
      → are_distinct (map (λ (t : WrittenSegment). t.id) (s ∷ segments)) ≡ true
      → AllByRecursion (λ (t : WrittenSegment). t.id ≢ s.id) segments
  others_are s segments distinct = others_after (λ (t : WrittenSegment). t.id) (s ∷ segments) 0 s distinct refl

  rest_distinct : (s : WrittenSegment) (segments : List WrittenSegment)
      → are_distinct (map (λ (t : WrittenSegment). t.id) (s ∷ segments)) ≡ true
      → are_distinct (map (λ (t : WrittenSegment). t.id) segments) ≡ true
  rest_distinct s segments distinct =
      (and_parts _ (are_distinct (map (λ (t : WrittenSegment). t.id) segments)) distinct).1

  steps_tell : (files : List (List ℕ)) (segments : List WrittenSegment) (old : NamedFiles)
      → length files ≡ length segments → are_distinct (map (λ (s : WrittenSegment). s.id) segments) ≡ true
      → AllTellMarks stamp files segments
      → AllTellAlive (all_files_after (alive_steps stamp files segments) old) stamp segments
  steps_tell files [] old many distinct tell = tt
  steps_tell [] (s ∷ segments) old many distinct tell = absurd (omega (arith, many))
  steps_tell (f ∷ files) (s ∷ segments) old many distinct tell =
      let d = deletes_of stamp s.alive in
      let now = all_files_after (alive_step s.id d f) old in
      subst (λ (new : NamedFiles). AllTellAlive new stamp (s ∷ segments)) (sym (files_after s.id f d old (alive_steps stamp files segments))) (
        tells_on s.id s.documents s.alive d now (all_files_after (alive_steps stamp files segments) now) (λ at. steps_keep files segments s.id at now (others_are s segments distinct)) (step_tells s.id f s.documents s.alive d old tell.0),
        steps_tell files segments now (omega (arith, many)) (rest_distinct s segments distinct) tell.1,
      )

  -- once they are made, they tell which documents are alive
  pub all_tell : {T : Type 0} (segments : List WrittenSegment) (r : Result T TantivyError) (a b : DirectoryState)
      → are_distinct (map (λ (s : WrittenSegment). s.id) segments) ≡ true → WritesAlive stamp segments r a b
      → IsTrue a.tells → OnOk r (AllTellAlive b.files stamp segments)
  all_tell segments (Ok x) a b distinct w told =
      subst (λ (now : NamedFiles). AllTellAlive now stamp segments) (sym ((all_went w.works).files told)) (steps_tell w.files segments a.files w.whole distinct w.tell)
  all_tell segments (Err e) a b distinct w told = tt

  -- those that are absent stay so while another is made
  still_absent : (segments : List WrittenSegment) (id : ℕ) (bytes : List ℕ) (d : Option Deletes) (old : NamedFiles)
      → AllByRecursion (λ (s : WrittenSegment). s.id ≢ id) segments → AreAbsent (names_of segments) old
      → AreAbsent (names_of segments) (all_files_after (alive_step id d bytes) old)
  still_absent [] id bytes d old ne absent = tt
  still_absent (s ∷ segments) id bytes d old ne absent =
      one (deletes_of stamp s.alive) (still_absent segments id bytes d old ne.1) absent
    where
      one : (own : Option Deletes)
          → (AreAbsent (names_of segments) old → AreAbsent (names_of segments) (all_files_after (alive_step id d bytes) old))
          → AreAbsent (alive_file s.id own ++ names_of segments) old
          → AreAbsent (alive_file s.id own ++ names_of segments) (all_files_after (alive_step id d bytes) old)
      one None rest h = rest h
      one (Some own) rest h =
          (step_keeps id bytes (Alive s.id own.stamp) d old (λ t. alive_apart s.id id own.stamp t ne.0) ∙ h.0, rest h.1)

  suit : (files : List (List ℕ)) (segments : List WrittenSegment) (old : NamedFiles)
      → are_distinct (map (λ (s : WrittenSegment). s.id) segments) ≡ true → AreAbsent (names_of segments) old
      → AllSuit (alive_steps stamp files segments) old
  suit [] segments old distinct absent = tt
  suit (f ∷ files) [] old distinct absent = tt
  suit (f ∷ files) (s ∷ segments) old distinct absent =
      let d = deletes_of stamp s.alive in
      step_suits s.id f d old (alive_steps stamp files segments) (all_front (λ name. get old name ≡ None) (alive_file s.id d) (names_of segments) absent)
      (suit files segments (all_files_after (alive_step s.id d f) old) (rest_distinct s segments distinct)
      (still_absent segments s.id f d old (others_are s segments distinct) (all_back (λ name. get old name ≡ None) (alive_file s.id d) (names_of segments) absent)))

  -- where none of them is there, none is found
  pub alive_fresh : {T : Type 0} (segments : List WrittenSegment) (r : Result T TantivyError) (a b : DirectoryState)
      → are_distinct (map (λ (s : WrittenSegment). s.id) segments) ≡ true → WritesAlive stamp segments r a b
      → IsTrue a.tells → AreAbsent (names_of segments) a.files → r ≢ Err IndexAlreadyExists
  alive_fresh segments r a b distinct w told absent =
      never_there told (suit w.files segments a.files distinct absent) w.works
