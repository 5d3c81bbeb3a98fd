-- What is known of both directories, where their writing comes to some place.
use Rattle.std.proofs.Common.{◌≡◌, ◌≤◌, ◌∙◌, ◌+◌, List, [], ◌∷◌, IsTrue, map, length, true, sym, arith}
use Rattle.std.specs.FinMap.{len}
use Rattle.seg_common.specs.declared.name.FileName.TheVariants.{Meta}
use Rattle.seg_directory.proofs.Exports.{all_went}
use Rattle.seg_directory.specs.DirectoryStates.{DirectoryState}
use Rattle.seg_model.specs.Fields.{Analyzer}
use Rattle.seg_model.specs.Input.{Input, input_batches}
use Rattle.seg_model.specs.Laws.{AreReadingsOf}
use Rattle.seg_model.specs.ValidInputs.{are_distinct}
use Rattle.seg_segment.specs.Laws.{HoldsOneContents}
use Rattle.seg_segment.specs.SegmentFiles.{AreAbsent, KeepsAllBut}
use Rattle.seg_segment.proofs.Exports.{keeps_untouched}
use Rattle.seg_open.specs.OpenSegment.{OpenSegment, part_of}
use Rattle.seg_batches.specs.WrittenSegments.{AllStand, AllTellAlive}
use Rattle.seg_check.specs.AdmittedInputs.{Fits}
use Rattle.seg_index_build.specs.DirectoryCalls.{merge_of}
use Rattle.seg_index_build.specs.IndexFiles.{segments_files, work_ids, work_listed, work_segments}
use Rattle.seg_index_build.specs.IndexTotals.{HasWorkTotals}
use Rattle.seg_index_build.specs.MergeAnswers.{AllHaveHeld, LiveAreWhole}
use Rattle.seg_index_build.specs.MergedSegments.{live_asked}
use Rattle.seg_index_build.specs.TwoDirectories.{Directories}
use Rattle.seg_index_build.proofs.WritingExits.{Begun, Filled}
use Rattle.seg_index_build.proofs.FilledIndex.{filled_alive, filled_fit, filled_stand, filled_taken, filled_tells, filled_totals}
use Rattle.seg_index_build.proofs.FillSteps.{length-batches}
use Rattle.seg_index_build.proofs.ToldDirectories.{tells-still}
use Rattle.seg_index_build.proofs.SegmentIds.{work_distinct, work_many}
use Rattle.seg_index_build.proofs.WorkReadings.{are_whole, batches_counted, live_batches, readings}
use Rattle.seg_index_build.proofs.BuildRefusals.{IsWritten}
use Rattle.seg_index_build.proofs.FilledWorkIndex.{segments_absent}

module _ (analyzer : Analyzer) (input : Input) where
  -- ---- both directories list no file, and the work index is begun

  module _ (a : Directories) (w o : DirectoryState) (begun : Begun analyzer input a w o) where
    pub begun_tells : w.tells ≡ a.work.tells
    begun_tells = (all_went begun.begins).tells ∙ (all_went begun.lists).tells

    pub begun_later : a.work.faults ≤ w.faults
    begun_later = omega (arith, (all_went begun.lists).later, (all_went begun.begins).later)

    pub work_empty : IsTrue a.work.tells → len a.work.files ≡ 0
    work_empty told = sym ((all_went begun.lists).suits told).0

    pub output_empty : IsTrue a.output.tells → len a.output.files ≡ 0
    output_empty told = sym ((all_went begun.lists_output).suits told).0

    begun_keeps : KeepsAllBut (Meta ∷ []) a.work.files w.files
    begun_keeps other untouched = keeps_untouched begun.begins other untouched ∙ keeps_untouched begun.lists other tt

    -- the work directory has no file of a segment
    pub begun_absent : len a.work.files ≡ 0 → AreAbsent (segments_files (work_listed analyzer input)) w.files
    begun_absent none = segments_absent a.work.files w.files none begun_keeps (work_listed analyzer input)

  -- ---- and the work index is filled

  module _ (fits : Fits analyzer input) where
    pub many : length (work_ids input.ids) ≡ length input.cuts + 1
    many = work_many input.cuts input.ids fits.ids

    pub distinct : are_distinct (work_ids input.ids) ≡ true
    distinct = work_distinct input.cuts input.ids fits.ids

    module _ (a : Directories) (w o : DirectoryState) (filled : Filled analyzer input a w o) where
      pub is_written : IsWritten analyzer input
      is_written = record {
        fit =
            filled_fit input.settings input.schema analyzer (work_ids input.ids) input.cuts input.operations many tt
            filled.begun_at w filled.fills;
        taken =
            filled_taken input.settings input.schema analyzer (work_ids input.ids) input.cuts input.operations many tt
            filled.begun_at w filled.fills;
      }

      pub output_told : IsTrue a.output.tells → IsTrue o.tells
      output_told told = tells-still _ _ (all_went filled.begun.lists_output).tells told

      module _ (told : IsTrue a.work.tells) where
        pub told_begun : IsTrue filled.begun_at.tells
        told_begun = tells-still _ _ (begun_tells a filled.begun_at o filled.begun) told

        pub told_filled : IsTrue w.tells
        told_filled =
            tells-still _ _
            (filled_tells input.settings input.schema analyzer (work_ids input.ids) input.cuts input.operations tt
            filled.begun_at w filled.fills)
            told_begun

        pub work_stands : AllStand input.schema analyzer w.files (work_ids input.ids) (input_batches analyzer input)
        work_stands =
            filled_stand input.settings input.schema analyzer (work_ids input.ids) input.cuts input.operations many
            distinct tt filled.begun_at w filled.fills told_begun

        pub work_tells_alive : AllTellAlive w.files (length input.operations) (work_segments analyzer input)
        work_tells_alive =
            filled_alive input.settings input.schema analyzer (work_ids input.ids) input.cuts input.operations many
            distinct tt filled.begun_at w filled.fills told_begun

        pub work_totals : HasWorkTotals analyzer input w.files
        work_totals =
            filled_totals input.settings input.schema analyzer (work_ids input.ids) input.cuts input.operations many
            distinct tt filled.begun_at w filled.fills told_begun

        -- its segments are whole
        pub work_whole : LiveAreWhole w.files (merge_of analyzer input).segments
        work_whole =
            are_whole input.schema analyzer (length input.operations) w.files (work_ids input.ids)
            (input_batches analyzer input) (batches_counted input.schema analyzer 0 input.cuts input.operations)
            work_stands work_tells_alive

        -- what is opened of it are the readings of the live batches
        pub are_readings : HoldsOneContents → (opened : List OpenSegment)
            → AllHaveHeld w.files (live_asked (merge_of analyzer input).segments input.filters) opened
            → AreReadingsOf input.schema analyzer
            (live_batches (length input.operations) input.filters (input_batches analyzer input)) (map part_of opened)
        are_readings law opened held =
            readings input.schema analyzer (length input.operations) w.files law input.filters (work_ids input.ids)
            (input_batches analyzer input)
            (many ∙ sym (length-batches input.schema analyzer 0 input.cuts input.operations))
            (batches_counted input.schema analyzer 0 input.cuts input.operations) work_stands work_tells_alive opened held
