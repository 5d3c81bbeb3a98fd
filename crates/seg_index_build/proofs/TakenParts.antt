-- The parts that were taken of the batches of an input are those that the output was joined from.
use Rattle.std.proofs.Common.{◌≡◌, ◌≢◌, ◌∙◌, ℕ, Bool, true, false, cond, List, [], ◌∷◌, ◌++◌, IsTrue, append_assoc, length, map, drop, Option, Some, None, Ok, refl, sym, ap, subst, arith}
use Rattle.std.specs.Prelude.{◌&&◌, ◌||◌, ◌==◌, is_some, nat_eq, nat_lt, not, replicate}
use Rattle.std.specs.List.{AllByRecursion, count_by, filter, list_all, list_any}
use Rattle.std.specs.Option.{option_and_then}
use Rattle.std.proofs.lemmas.Bool.Decides.{nat_tests}
use Rattle.std.proofs.lemmas.List.{drop_at}
use Rattle.std.proofs.lemmas.Option.{cond_some}
use Rattle.std.proofs.Math.Bool.{and-true}
use Rattle.seg_common.proofs.Lists.{all_both, all_each, all_weaker, all_filtered, all_map}
use Rattle.seg_common.specs.declared.name.FileName.TheVariants.{Alive, Part}
use Rattle.seg_common.specs.declared.name.SegmentComponent.{SegmentComponent}
use Rattle.seg_common.specs.declared.name.SegmentComponent.TheVariants.{Terms, Postings, Positions, Store, FastFields, FieldNorms}
use Rattle.seg_values.specs.declared.error.ArgumentCause.TheVariants as argument
use Rattle.seg_values.specs.declared.error.TantivyError.TheVariants.{InvalidArgument}
use Rattle.seg_bits.specs.BitSets.{set_of}
use Rattle.seg_directory.proofs.Exports.{all_went, then_does}
use Rattle.seg_directory.specs.DirectorySteps.{Step, all_told}
use Rattle.seg_directory.specs.declared.answer.Answer.{Answer}
use Rattle.seg_meta.specs.IndexOfFiles.{Deletes, ListedSegment}
use Rattle.seg_meta.specs.Metas as metas
use Rattle.seg_meta.specs.Metas.{SegmentParts, deleted}
use Rattle.seg_model.specs.DocumentCheck.{unless}
use Rattle.seg_model.specs.Fields.{Schema, Analyzer}
use Rattle.seg_model.specs.Input.{Filter, Input, input_batches}
use Rattle.seg_model.specs.Join.{join}
use Rattle.seg_model.specs.Operations.{Batch}
use Rattle.seg_model.specs.ValidInputs.{Known, are_distinct, batches_fit, cuts_fit, filters_fit, input_refusal, shape_refusal}
use Rattle.seg_model.proofs.Exports.{or_both, unless_true}
use Rattle.seg_segment.specs.FileContents.{Holds}
use Rattle.seg_segment.specs.SegmentFiles.{bytes_of}
use Rattle.seg_segment.specs.SpelledContents.{Spell}
use Rattle.seg_open.specs.OpenSegment.{OpenSegment, contents_of, part_of}
use Rattle.seg_open.specs.OpeningSteps.{AreReadersOf, Asked, Found, IsReaderOf, agreeing, alive_read, asked_of}
use Rattle.seg_check.specs.AdmittedInputs.{Fits}
use Rattle.seg_batches.specs.WrittenSegments.{WrittenSegment, all_listed, deletes_of, listed, segment_of, segments_of}
use Rattle.seg_batches.specs.BatchWriteSteps.{batch_causes, batches_steps}
use Rattle.seg_index_build.specs.DirectoryCalls.{BuildsIndexes, WritesIndexes, lists_none, merge_of}
use Rattle.seg_index_build.specs.IndexFiles.{output_id, work_ids, work_segments}
use Rattle.seg_index_build.specs.MergedSegments.{is_live, live_asked}
use Rattle.seg_index_build.specs.TakenBatches.{ArePartsOf, HoldsTaken, IsPartOf, NamedBatch, gained, last_read, named_batches, read_after_write, taken_batches, was_taken, was_written}
use Rattle.seg_index_build.specs.TwoDirectories.{Directories, goes_on, stops}
use Rattle.seg_index_build.specs.WorkIndexSteps.{finish_steps, listing_meta}
use Rattle.seg_index_build.specs.IndexWriteSteps.{begin_steps}
use Rattle.seg_index_build.proofs.WritingExits.{Wrote, wrote}
use Rattle.seg_index_build.proofs.FilledIndex.{FilledParts, filled_parts}
use Rattle.seg_index_build.proofs.FillSteps.{ids_are}
use Rattle.seg_index_build.proofs.MergeContents.{merged_holds}
use Rattle.seg_index_build.proofs.MergeLists.{all_asked}
use Rattle.seg_index_build.proofs.WritingPlaces.{distinct, many, output_told}
use Rattle.seg_index_build.proofs.LastReads.{ReadNothing, ReadsNothing, after_writes, last_still, written_front}
use Rattle.seg_index_build.proofs.DistinctLists.{Apart, all_apart, all_two, any_passed, apart_map, apart_passed, passed_map, told_of}
use Rattle.seg_index_build.proofs.OpeningAnswers.{AllWereRead, AreUpTo, WasRead, alive_were_read, all_were_read, asked_id, never_written, opening_told}
use Rattle.seg_index_build.proofs.FillingAnswers.{batches_read, batches_write, begin_reads, finish_reads, finish_writes, is_written}
use Rattle.seg_index_build.proofs.FilledWorkIndex.{work_schema}

-- ---- what is gained in four turns

all_seen : (p q r s t one two three four : List Answer) → q ≡ p ++ one → r ≡ q ++ two → s ≡ r ++ three → t ≡ s ++ four
    → t ≡ p ++ ((one ++ (two ++ three)) ++ four)
all_seen p q r s t one two three four first second third last =
    last ∙ ap (λ l. l ++ four) in_three ∙ append_assoc p (one ++ (two ++ three)) four
  where
    in_three : s ≡ p ++ (one ++ (two ++ three))
    in_three =
        third ∙ ap (λ l. l ++ three) (second ∙ ap (λ l. l ++ two) first) ∙ append_assoc (p ++ one) two three
        ∙ append_assoc p one (two ++ three)

pub gained_as : (p t more : List Answer) → t ≡ p ++ more → gained p t ≡ more
gained_as p t more is = ap (drop (length p)) is ∙ drop_at p more (length p) refl

-- ---- which batches are taken

-- a segment that is asked for, as its batch
abbrev batch_of : Asked → NamedBatch
batch_of a = record { id = asked_id a; documents = a.segment.meta.documents; keeps = a.custom }

abbrev asked_for : Schema → ℕ → ℕ → Batch → Option Filter → Asked
asked_for schema stamp id batch f =
    record { segment = metas.segment_of schema (listed stamp (segment_of id batch)); custom = f }

named_are : (schema : Schema) (stamp : ℕ) (ids : List ℕ) (batches : List Batch) (filters : List (Option Filter))
    → named_batches ids batches filters
    ≡ map batch_of (asked_of (map (metas.segment_of schema) (all_listed stamp (segments_of ids batches))) filters)
named_are schema stamp [] batches filters = refl
named_are schema stamp (id ∷ ids) [] filters = refl
named_are schema stamp (id ∷ ids) (batch ∷ batches) [] = refl
named_are schema stamp (id ∷ ids) (batch ∷ batches) (f ∷ filters) =
    ap (λ l. batch_of (asked_for schema stamp id batch f) ∷ l) (named_are schema stamp ids batches filters)

both_less : (n m : ℕ) → (nat_lt 0 m && nat_lt n m) ≡ nat_lt n m
both_less n m = grind (arith, nat_tests)

-- by its meta: whether its alive file was written, and read then
taken_if : (documents : ℕ) (deletes : Option Deletes) (written back read : Bool) → written ≡ is_some deletes
    → (written ≡ true → back ≡ read) → read ≡ (nat_lt (deleted deletes) documents && is_some deletes)
    → (nat_lt 0 documents && (not written || back)) ≡ nat_lt (deleted deletes) documents
taken_if documents None written back read is same was =
    ap (λ b. nat_lt 0 documents && (not b || back)) is ∙ and-true (nat_lt 0 documents)
taken_if documents (Some d) written back read is same was =
    ap (λ b. nat_lt 0 documents && (not b || back)) is
    ∙ ap (λ b. nat_lt 0 documents && b) (same is ∙ was ∙ and-true (nat_lt d.number documents))
    ∙ both_less d.number documents

-- its alive file was written where its meta has deletes
abbrev WasWritten : ℕ → List Answer → Asked → Type 0
WasWritten stamp answers a = was_written (Alive (asked_id a) stamp) answers ≡ is_some a.segment.meta.deletes

-- and read where it is live too
abbrev WasReadThen : ℕ → List Answer → Asked → Type 0
WasReadThen stamp reading a =
    is_some (last_read (Alive (asked_id a) stamp) reading) ≡ (is_live a.segment.meta && is_some a.segment.meta.deletes)

abbrev IsUpTo : ℕ → Asked → Type 0
IsUpTo stamp a = AreUpTo stamp a.segment.meta.deletes

abbrev IsIn : Schema → Asked → Type 0
IsIn schema a = a.segment.schema ≡ schema

-- ---- what is taken of a batch

agree : (documents : ℕ) (d : Deletes) (o : Option (List Bool)) (marks : List Bool) → agreeing documents d o ≡ Some marks
    → o ≡ Some marks
agree documents d None marks is = is
agree documents d (Some alive) marks is =
    ap (λ l. Some l) (cond_some ((length alive == documents) && (count_by not alive == d.number)) alive marks is).1

marked_if : (documents number : ℕ) (deletes : Option Deletes) (bytes : List ℕ) (marks : List Bool) (written : Bool)
    (back : Option (List ℕ)) → number ≡ documents → written ≡ is_some deletes
    → ((d : Deletes) → deletes ≡ Some d → written ≡ true → back ≡ Some bytes)
    → alive_read documents deletes bytes ≡ Some marks
    → cond written (option_and_then set_of back) (Some (replicate number true)) ≡ Some marks
marked_if documents number None bytes marks written back same is was marked =
    ap (λ b. cond b (option_and_then set_of back) (Some (replicate number true))) is
    ∙ ap (λ n. Some (replicate n true)) same ∙ marked
marked_if documents number (Some d) bytes marks written back same is was marked =
    ap (λ b. cond b (option_and_then set_of back) (Some (replicate number true))) is
    ∙ ap (λ o. option_and_then set_of o) (was d refl is)
    ∙ agree documents d (set_of bytes) marks marked

module _ (schema : Schema) (stamp : ℕ) (writing reading : List Answer) (nothing : ReadNothing writing)
    (unwritten : (id : ℕ) → was_written (Alive id stamp) reading ≡ false) where
  abbrev answers : List Answer
  answers = writing ++ reading

  read_then : (id : ℕ) → was_written (Alive id stamp) answers ≡ true
      → read_after_write (Alive id stamp) answers ≡ last_read (Alive id stamp) reading
  read_then id written =
      after_writes (Alive id stamp) writing reading nothing (unwritten id)
      (sym (written_front (Alive id stamp) writing reading (unwritten id)) ∙ written)

  taken_one : (a : Asked) → WasWritten stamp answers a → WasReadThen stamp reading a → was_taken stamp answers (batch_of a) ≡ is_live a.segment.meta
  taken_one a written read =
      taken_if a.segment.meta.documents a.segment.meta.deletes (was_written (Alive (asked_id a) stamp) answers)
      (is_some (read_after_write (Alive (asked_id a) stamp) answers))
      (is_some (last_read (Alive (asked_id a) stamp) reading)) written
      (λ was. ap (λ o. is_some o) (read_then (asked_id a) was)) read

  taken_live : (asked : List Asked) → AllByRecursion (WasWritten stamp answers) asked
      → AllByRecursion (WasReadThen stamp reading) asked
      → filter (was_taken stamp answers) (map batch_of asked) ≡ map batch_of (filter (λ a. is_live a.segment.meta) asked)
  taken_live asked written read =
      passed_map (was_taken stamp answers) batch_of (λ a. is_live a.segment.meta) asked
      (all_two (WasWritten stamp answers) (WasReadThen stamp reading)
      (λ a. was_taken stamp answers (batch_of a) ≡ is_live a.segment.meta) taken_one asked written read)

  one_part : (a : Asked) (f : Found) (s : OpenSegment) → IsReaderOf a f s → WasRead reading a f
      → WasWritten stamp answers a → IsUpTo stamp a → IsIn schema a → IsPartOf schema stamp answers (batch_of a) (part_of s)
  one_part a f s is was written up_to same = record {
    files = f.files;
    read = (part Terms, (part Store, (part Postings, (part Positions, (part FastFields, (part FieldNorms, tt))))));
    spell = subst (λ (x : Schema). Spell x f.files (contents_of s)) same is.has.spell;
    marks = is.marks;
    marked =
        marked_if a.segment.meta.documents s.documents a.segment.meta.deletes f.alive_file is.marks
        (was_written (Alive (asked_id a) stamp) answers) (read_after_write (Alive (asked_id a) stamp) answers)
        is.has.of_number written (λ d some true_then. read_then (asked_id a) true_then ∙ alive_at d some) is.marked;
    cut = is.alive;
  }
    where
      part : (c : SegmentComponent) → last_read (Part (asked_id a) c) answers ≡ Some (bytes_of f.files c)
      part c = last_still (Part (asked_id a) c) writing reading (bytes_of f.files c) (was.parts c)

      alive_at : (d : Deletes) → a.segment.meta.deletes ≡ Some d
          → last_read (Alive (asked_id a) stamp) reading ≡ Some f.alive_file
      alive_at d some =
          let up : d.stamp ≡ stamp = subst (AreUpTo stamp) some up_to in
          ap (λ t. last_read (Alive (asked_id a) t) reading) (sym up) ∙ was.alive d some

  all_parts : (asked : List Asked) (found : List Found) (opened : List OpenSegment) → AreReadersOf asked found opened
      → AllWereRead reading asked found → AllByRecursion (WasWritten stamp answers) asked
      → AllByRecursion (IsUpTo stamp) asked → AllByRecursion (IsIn schema) asked
      → ArePartsOf schema stamp answers (map batch_of asked) (map part_of opened)
  all_parts [] found [] are were written up_to same = tt
  all_parts [] found (s ∷ opened) are were written up_to same = absurd are
  all_parts (a ∷ asked) [] opened are were written up_to same = absurd are
  all_parts (a ∷ asked) (f ∷ found) [] are were written up_to same = absurd are
  all_parts (a ∷ asked) (f ∷ found) (s ∷ opened) are were written up_to same = (
    one_part a f s are.0 were.0 written.0 up_to.0 same.0,
    all_parts asked found opened are.1 were.1 written.1 up_to.1 same.1,
  )

-- ---- the segments that are asked for

apart_asked : (segments : List SegmentParts) (filters : List (Option Filter))
    → Apart (λ (s : SegmentParts). s.meta.id) segments → Apart asked_id (asked_of segments filters)
apart_asked [] filters h = tt
apart_asked (s ∷ segments) [] h = tt
apart_asked (s ∷ segments) (f ∷ filters) h = (
  all_asked (λ (t : SegmentParts). t.meta.id ≢ s.meta.id) segments filters h.0,
  apart_asked segments filters h.1,
)

up_to_if : (stamp number : ℕ) (t : Bool)
    → AreUpTo stamp (cond t None (Some (let d : Deletes = record { number = number; stamp = stamp } in d)))
up_to_if stamp number true = tt
up_to_if stamp number false = refl

-- ---- both indexes are written

module _ (analyzer : Analyzer) (input : Input) (fits : Fits analyzer input) (a b : Directories) (w : Wrote analyzer input a b) where
  abbrev stamp_of : ℕ
  stamp_of = length input.operations

  abbrev written : List WrittenSegment
  written = work_segments analyzer input

  abbrev all_asked_for : List Asked
  all_asked_for = asked_of (merge_of analyzer input).segments input.filters

  abbrev live : List Asked
  live = live_asked (merge_of analyzer input).segments input.filters

  abbrev found_of : List Found
  found_of = w.merged.was.opens.found

  abbrev filled : FilledParts input.settings input.schema analyzer (work_ids input.ids) input.cuts input.operations w.filled.begun_at w.between.work
  filled =
      filled_parts input.settings input.schema analyzer (work_ids input.ids) input.cuts input.operations tt
      w.filled.begun_at w.between.work w.filled.fills

  abbrev finishing : List Step
  finishing =
      finish_steps (listing_meta input.settings input.schema stamp_of written) stamp_of filled.finishes.alive written

  abbrev filling : List Step
  filling =
      batches_steps (work_ids input.ids) (batch_causes None input.schema analyzer input.cuts input.operations)
      filled.makes.files ++ finishing

  abbrev writing_of : List Answer
  writing_of = all_told lists_none ++ (all_told (begin_steps input.settings input.schema) ++ all_told filling)

  abbrev reading_of : List Answer
  reading_of = opening_told live found_of

  seen_as : b.work.seen ≡ a.work.seen ++ (writing_of ++ reading_of)
  seen_as =
      all_seen a.work.seen w.filled.begun.listed_at.seen w.filled.begun_at.seen w.between.work.seen b.work.seen
      (all_told lists_none) (all_told (begin_steps input.settings input.schema)) (all_told filling) reading_of
      (all_went w.filled.begun.lists).seen (all_went w.filled.begun.begins).seen (all_went (then_does filled.makes.works filled.finishes.works)).seen
      (all_went w.merged.was.opens.works).seen

  gained_is : gained a.work.seen b.work.seen ≡ writing_of ++ reading_of
  gained_is = gained_as a.work.seen b.work.seen (writing_of ++ reading_of) seen_as

  pub seen_on : b.work.seen ≡ a.work.seen ++ gained a.work.seen b.work.seen
  seen_on = seen_as ∙ ap (λ l. a.work.seen ++ l) (sym gained_is)

  -- ---- what is written

  nothing_of : ReadNothing writing_of
  nothing_of =
      all_both ReadsNothing (all_told lists_none) (all_told (begin_steps input.settings input.schema) ++ all_told filling)
      (tt, tt)
      (all_both ReadsNothing (all_told (begin_steps input.settings input.schema)) (all_told filling)
      (begin_reads input.settings input.schema)
      (batches_read (work_ids input.ids) (batch_causes None input.schema analyzer input.cuts input.operations)
      filled.makes.files finishing
      (finish_reads stamp_of (listing_meta input.settings input.schema stamp_of written) filled.finishes.alive written filled.finishes.whole)))

  unwritten_of : (id : ℕ) → was_written (Alive id stamp_of) reading_of ≡ false
  unwritten_of id = never_written (Alive id stamp_of) live found_of

  written_at : (id : ℕ) → was_written (Alive id stamp_of) (writing_of ++ reading_of) ≡ list_any (is_written stamp_of id) written
  written_at id =
      written_front (Alive id stamp_of) writing_of reading_of (unwritten_of id)
      ∙ batches_write id stamp_of (work_ids input.ids) (batch_causes None input.schema analyzer input.cuts input.operations)
      filled.makes.files finishing
      ∙ finish_writes stamp_of (listing_meta input.settings input.schema stamp_of written) id filled.finishes.alive written filled.finishes.whole

  apart_written : Apart (λ (s : WrittenSegment). s.id) written
  apart_written =
      all_apart (λ (s : WrittenSegment). s.id) written
      (ap are_distinct (ids_are input.schema analyzer (work_ids input.ids) input.cuts input.operations (many analyzer input fits))
      ∙ distinct analyzer input fits)

  -- what holds of each segment holds of each that is asked for
  of_each : (P : SegmentParts → Type 0)
      → AllByRecursion (λ (s : WrittenSegment). P (metas.segment_of input.schema (listed stamp_of s))) written
      → AllByRecursion (λ (x : Asked). P x.segment) all_asked_for
  of_each P h =
      all_asked P (merge_of analyzer input).segments input.filters
      (all_map P (metas.segment_of input.schema) (all_listed stamp_of written)
      (all_map (λ (l : ListedSegment). P (metas.segment_of input.schema l)) (listed stamp_of) written h))

  each_written : AllByRecursion (WasWritten stamp_of (writing_of ++ reading_of)) all_asked_for
  each_written =
      of_each (λ (s : SegmentParts). was_written (Alive s.meta.id stamp_of) (writing_of ++ reading_of) ≡ is_some s.meta.deletes)
      (all_weaker (λ (s : WrittenSegment). list_any (λ (t : WrittenSegment). is_written stamp_of s.id t) written ≡ is_some (deletes_of stamp_of s.alive))
      (λ (s : WrittenSegment). was_written (Alive s.id stamp_of) (writing_of ++ reading_of) ≡ is_some (deletes_of stamp_of s.alive))
      (λ s is. written_at s.id ∙ is) written
      (told_of (λ (s : WrittenSegment). s.id) (λ (s : WrittenSegment). is_some (deletes_of stamp_of s.alive)) written apart_written))

  each_up_to : AllByRecursion (IsUpTo stamp_of) all_asked_for
  each_up_to =
      of_each (λ (s : SegmentParts). AreUpTo stamp_of s.meta.deletes)
      (all_each (λ (s : WrittenSegment). AreUpTo stamp_of (deletes_of stamp_of s.alive))
      (λ s. up_to_if stamp_of (count_by not s.alive) (list_all (λ t. t) s.alive)) written)

  each_in : AllByRecursion (IsIn input.schema) all_asked_for
  each_in =
      of_each (λ (s : SegmentParts). s.schema ≡ input.schema)
      (all_each (λ (s : WrittenSegment). input.schema ≡ input.schema) (λ s. refl) written)

  -- ---- what is read

  apart_of : Apart asked_id all_asked_for
  apart_of =
      apart_asked (merge_of analyzer input).segments input.filters
      (apart_map (λ (s : SegmentParts). s.meta.id) (metas.segment_of input.schema) (all_listed stamp_of written)
      (apart_map (λ (l : ListedSegment). l.id) (listed stamp_of) written apart_written))

  read_at : (id : ℕ) → is_some (last_read (Alive id stamp_of) reading_of)
      ≡ list_any (λ (x : Asked). (is_live x.segment.meta && is_some x.segment.meta.deletes) && nat_eq id (asked_id x)) all_asked_for
  read_at id =
      alive_were_read id stamp_of live found_of w.opened w.merged.was.opens.are
      (all_filtered (IsUpTo stamp_of) (λ x. is_live x.segment.meta) all_asked_for each_up_to)
      ∙ any_passed (λ (x : Asked). is_live x.segment.meta) (λ (x : Asked). is_some x.segment.meta.deletes)
      (λ (x : Asked). nat_eq id (asked_id x)) all_asked_for

  each_read : AllByRecursion (WasReadThen stamp_of reading_of) all_asked_for
  each_read =
      all_weaker
      (λ (x : Asked). list_any (λ (y : Asked). (is_live y.segment.meta && is_some y.segment.meta.deletes) && nat_eq (asked_id x) (asked_id y)) all_asked_for
      ≡ (is_live x.segment.meta && is_some x.segment.meta.deletes))
      (WasReadThen stamp_of reading_of)
      (λ x is. read_at (asked_id x) ∙ is) all_asked_for
      (told_of asked_id (λ (x : Asked). is_live x.segment.meta && is_some x.segment.meta.deletes) all_asked_for apart_of)

  -- ---- what is taken

  batches_are : taken_batches analyzer input (writing_of ++ reading_of) ≡ map batch_of live
  batches_are =
      ap (filter (was_taken stamp_of (writing_of ++ reading_of)))
      (named_are input.schema stamp_of (work_ids input.ids) (input_batches analyzer input) input.filters)
      ∙ taken_live input.schema stamp_of writing_of reading_of nothing_of unwritten_of all_asked_for each_written each_read

  parts_are : ArePartsOf input.schema stamp_of (writing_of ++ reading_of) (map batch_of live) (map part_of w.opened)
  parts_are =
      all_parts input.schema stamp_of writing_of reading_of nothing_of unwritten_of live found_of w.opened
      w.merged.was.opens.are
      (all_were_read live found_of (apart_passed asked_id (λ x. is_live x.segment.meta) all_asked_for apart_of))
      (all_filtered (WasWritten stamp_of (writing_of ++ reading_of)) (λ x. is_live x.segment.meta) all_asked_for each_written)
      (all_filtered (IsUpTo stamp_of) (λ x. is_live x.segment.meta) all_asked_for each_up_to)
      (all_filtered (IsIn input.schema) (λ x. is_live x.segment.meta) all_asked_for each_in)

  taken_of : (l : List Answer) → l ≡ writing_of ++ reading_of
      → ArePartsOf input.schema stamp_of l (taken_batches analyzer input l) (map part_of w.opened)
  taken_of l is =
      subst (λ (m : List Answer). ArePartsOf input.schema stamp_of m (taken_batches analyzer input m) (map part_of w.opened)) (sym is)
      (subst (λ (batches : List NamedBatch). ArePartsOf input.schema stamp_of (writing_of ++ reading_of) batches (map part_of w.opened))
      (sym batches_are) parts_are)

  pub output_holds : IsTrue a.output.tells → HoldsTaken analyzer input (gained a.work.seen b.work.seen) b.output.files
  output_holds told = record {
    parts = map part_of w.opened;
    taken = taken_of (gained a.work.seen b.work.seen) gained_is;
    contents = w.merged.made.joins.contents;
    joined =
        sym (ap (λ (s : Schema). join s (map part_of w.opened)) (work_schema analyzer input fits))
        ∙ w.merged.made.joins.joined;
    holds =
        subst (λ (s : Schema). Holds b.output.files (output_id input.ids) s w.merged.made.joins.contents)
        (work_schema analyzer input fits)
        (merged_holds (merge_of analyzer input) w.opened w.between b w.merged
        (output_told analyzer input fits a w.between.work w.between.output w.filled told));
  }

-- ---- from the calls alone

pub fits_of : (known : Known) (analyzer : Analyzer) (input : Input) → input_refusal known analyzer input ≡ None
    → Fits analyzer input
fits_of known analyzer input none =
    let shaped =
    or_both (shape_refusal input.operations input.cuts input.filters (input_batches analyzer input) input.ids) _ none in
    let cuts = or_both (unless (cuts_fit input.operations input.cuts) (InvalidArgument argument.Cuts)) _ shaped.0 in
    let batches = or_both (unless (batches_fit input.cuts) (InvalidArgument argument.Batches)) _ cuts.1 in
    let filters =
    or_both (unless (filters_fit input.filters (input_batches analyzer input)) (InvalidArgument argument.Filters)) _
    batches.1 in
    record {
      cuts = unless_true _ (InvalidArgument argument.Cuts) cuts.0;
      batches = unless_true _ (InvalidArgument argument.Batches) batches.0;
      filters = unless_true _ (InvalidArgument argument.Filters) filters.0;
      ids = unless_true _ (InvalidArgument argument.SegmentIds) filters.1;
    }

module _ {T : Type 0} (x : T) (known : Known) (analyzer : Analyzer) (input : Input) (a b : Directories) where
  -- the work directory keeps what it answered before
  pub builds_seen : BuildsIndexes known analyzer input (Ok x) a b → b.work.seen ≡ a.work.seen ++ gained a.work.seen b.work.seen
  builds_seen (stops e is h) = absurd (cc is)
  builds_seen (goes_on u n h writes) =
      seen_on analyzer input (fits_of known analyzer input h.0) a b
      (wrote analyzer input x a b (subst (λ (d : Directories). WritesIndexes analyzer input (Ok x) d b) h.1 writes))
