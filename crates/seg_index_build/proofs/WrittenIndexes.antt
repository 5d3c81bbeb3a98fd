-- What is known where both indexes are written.
use Rattle.std.specs.Prelude.{is_some}
use Rattle.std.proofs.Common.{◌≡◌, ◌<◌, ◌^◌, ◌∙◌, ℕ, List, IsTrue, length, map, None, Some, Ok, sym, ap, subst}
use Rattle.seg_directory.specs.Files.{NamedFiles}
use Rattle.seg_directory.specs.DirectoryStates.{DirectoryState}
use Rattle.seg_model.specs.Contents.{full_reading}
use Rattle.seg_model.specs.TokenEstimate.{joined_estimate}
use Rattle.seg_model.specs.Fields.{Schema, Analyzer}
use Rattle.seg_meta.specs.MetaBounds.{AreReadBack}
use Rattle.seg_meta.specs.IndexOfFiles as index
use Rattle.seg_model.specs.Input.{Input, input_batches, input_survivors}
use Rattle.seg_model.specs.Operations.{Batch}
use Rattle.seg_model.specs.Laws.{AreReadingsOf, JoiningIsInvisible}
use Rattle.seg_model.specs.ValidInputs.{FitsSegment, Known, are_distinct, input_refusal}
use Rattle.seg_model.proofs.Exports.{was_read}
use Rattle.seg_segment.specs.FileContents.{Holds}
use Rattle.seg_segment.specs.Laws.{HoldsOneContents}
use Rattle.seg_batches.specs.BatchTotals.{HasTotals}
use Rattle.seg_batches.specs.WrittenSegments.{WrittenSegment}
use Rattle.seg_open.specs.OpenSegment.{kept_count, part_of}
use Rattle.seg_merger.specs.JoinedTotals.{joined_total}
use Rattle.seg_check.specs.AdmittedInputs.{Fits}
use Rattle.seg_index_build.specs.BuildOutcomes.{Builds, IsBuilt}
use Rattle.seg_index_build.specs.DirectoryCalls.{WritesIndexes, merge_of}
use Rattle.seg_index_build.specs.IndexFiles.{IsOutputIndexOf, IsWorkIndexOf, merged_meta, output_id, output_meta, work_ids, work_segments}
use Rattle.seg_index_build.specs.IndexTotals.{HasOutputTotals, HasWorkTotals, merged_batches, with_totals}
use Rattle.seg_index_build.specs.MergeAnswers.{AllHaveHeld, IsMergeOf}
use Rattle.seg_index_build.specs.MergedSegments.{joined, live_asked}
use Rattle.seg_index_build.specs.TwoDirectories.{Directories}
use Rattle.seg_index_build.proofs.BuildOnDisk.{build_leaves, build_rests}
use Rattle.seg_index_build.proofs.WritingExits.{Wrote, wrote}
use Rattle.seg_index_build.proofs.FilledIndex.{filled_index}
use Rattle.seg_index_build.proofs.FillSteps.{ids_are, length-batches}
use Rattle.seg_index_build.proofs.DistinctLists.{all_apart}
use Rattle.seg_index_build.proofs.KeptDirectories.{work_kept}
use Rattle.seg_index_build.proofs.MissingAlive.{none_alive}
use Rattle.seg_index_build.proofs.MergeErrors.{few_passed}
use Rattle.seg_index_build.proofs.MergeContents.{opened_held, opened_stays}
use Rattle.seg_index_build.proofs.WritingPlaces.{are_readings, distinct, is_written, many, output_empty, told_begun, told_filled, work_empty, work_stands, work_tells_alive, work_totals}
use Rattle.seg_index_build.proofs.TakenParts.{output_holds}
use Rattle.seg_index_build.proofs.ReadTotals.{are_live, joined_told}
use Rattle.seg_index_build.proofs.JoinedSurvivors.{kept_survivors, survivors_joined}
use Rattle.seg_index_build.proofs.WorkReadings.{batches_counted, live_batches}
use Rattle.seg_index_build.proofs.BuildRefusals.{is_valid_if}
use Rattle.seg_index_build.proofs.FilledWorkIndex.{work_merged_meta, work_schema}

module _ {T : Type 0} (x : T) (known : Known) (analyzer : Analyzer) (input : Input) (fits : Fits analyzer input) (none : input_refusal known analyzer input ≡ None)
    (meta : index.Meta) (a b : Directories) (built : IsBuilt analyzer input a b meta) (writes : WritesIndexes analyzer input (Ok x) a b) where
  abbrev w : Wrote analyzer input a b
  w = wrote analyzer input x a b writes

  abbrev work_at : DirectoryState
  work_at = w.between.work

  abbrev output_at : DirectoryState
  output_at = w.between.output

  same_files : b.work.files ≡ work_at.files
  same_files = opened_stays (merge_of analyzer input) w.opened work_at b.work w.merged.was.opens

  -- ---- the work index

  module _ (told : IsTrue a.work.tells) where
    work_index : IsWorkIndexOf analyzer input b.work.files
    work_index = subst (IsWorkIndexOf analyzer input) (sym same_files) (record {
      index_of =
          filled_index input.settings input.schema analyzer (work_ids input.ids) input.cuts input.operations
          (many analyzer input fits) (distinct analyzer input fits)
          tt w.filled.begun_at work_at w.filled.fills
          (told_begun analyzer input fits a work_at output_at w.filled told) built.work_read;
      stand = work_stands analyzer input fits a work_at output_at w.filled told;
      alive = work_tells_alive analyzer input fits a work_at output_at w.filled told;
    })

    totals : HasWorkTotals analyzer input b.work.files
    totals =
        subst (HasWorkTotals analyzer input) (sym same_files) (work_totals analyzer input fits a work_at output_at w.filled told)

    -- the survivors are no more than a segment can hold
    few : HoldsOneContents → length (input_survivors analyzer input) < 2 ^ 31
    few one =
        let held = opened_held (merge_of analyzer input) w.opened work_at b.work (told_filled analyzer input fits a work_at output_at w.filled told) w.merged.was.opens in
        subst (λ (n : ℕ). n < 2 ^ 31)
        (kept_survivors (length input.operations) analyzer input w.opened fits.filters
        (are_readings analyzer input fits a work_at output_at w.filled told one w.opened held))
        (few_passed (kept_count w.opened) w.merged.few)

    -- ---- the merge, of what the work files hold

    abbrev merge : IsMergeOf (merge_of analyzer input) b.work.files (IsTrue a.output.tells) b.output.files meta
    merge = built.merged.merged told

    module _ (one : HoldsOneContents) where
      readings_of : AreReadingsOf input.schema analyzer (live_batches (length input.operations) input.filters (input_batches analyzer input)) (map part_of merge.opened)
      readings_of =
          are_readings analyzer input fits a work_at output_at w.filled told one merge.opened
          (subst (λ (files : NamedFiles). AllHaveHeld files (live_asked (merge_of analyzer input).segments input.filters) merge.opened) same_files merge.held)

      as_many : kept_count merge.opened ≡ length (input_survivors analyzer input)
      as_many = kept_survivors (length input.operations) analyzer input merge.opened fits.filters readings_of

      meta_is : meta ≡ output_meta analyzer input
      meta_is =
          merge.counted ∙ work_merged_meta analyzer input fits (kept_count merge.opened)
          ∙ ap (merged_meta input.settings input.schema (work_ids input.ids) (output_id input.ids)) as_many

      survivors : JoiningIsInvisible
          → full_reading input.schema analyzer (input_survivors analyzer input) ≡ Some merge.contents
      survivors law =
          survivors_joined law (length input.operations) analyzer input merge.opened fits.filters readings_of
          ∙ sym (ap (λ (s : Schema). joined s merge.opened) (work_schema analyzer input fits)) ∙ merge.joins

      -- one segment can hold them
      survivors_fit : JoiningIsInvisible → FitsSegment input.schema analyzer (input_survivors analyzer input)
      survivors_fit law = record {
        few = few one;
        columns =
            ap is_some
            (was_read input.schema analyzer (input_survivors analyzer input) merge.contents (survivors law)).are_columns;
      }

      output_index : JoiningIsInvisible → IsTrue a.output.tells → IsOutputIndexOf analyzer input b.output.files
      output_index law told_output = record {
        index_of = merge.index_of told_output ∙ ap (λ (m : index.Meta). Some m) meta_is;
        stands = record {
          contents = merge.contents;
          read = survivors law;
          held =
              subst (λ (s : Schema). Holds b.output.files (output_id input.ids) s merge.contents)
              (work_schema analyzer input fits) (merge.holds told_output);
        };
      }

      abbrev OfBatches : List Batch → Type 0
      OfBatches batches =
          AreReadingsOf input.schema analyzer batches (map part_of merge.opened)
          × HasTotals b.output.files (output_id input.ids) input.schema
          (λ f. joined_estimate f (with_totals input.schema analyzer f batches (map part_of merge.opened)))

      output_totals : IsTrue a.output.tells → HasOutputTotals analyzer input b.output.files
      output_totals told_output =
          let all = input_batches analyzer input in
          let stamp = length input.operations in
          let joined_so : HasTotals b.output.files (output_id input.ids) input.schema (joined_total merge.opened) =
          subst (λ (s : Schema). HasTotals b.output.files (output_id input.ids) s (joined_total merge.opened))
          (work_schema analyzer input fits) (merge.totals told_output) in
          let told_so =
          joined_told input.schema analyzer b.work.files b.output.files stamp (output_id input.ids) input.filters
          (work_ids input.ids) all
          (many analyzer input fits ∙ sym (length-batches input.schema analyzer 0 input.cuts input.operations))
          totals merge.opened merge.held readings_of joined_so in
          let of : OfBatches (merged_batches input.filters all) =
          subst OfBatches
          (are_live stamp input.filters all (batches_counted input.schema analyzer 0 input.cuts input.operations))
          (readings_of, told_so) in
          record { parts = map part_of merge.opened; read = of.0; tells = of.1 }

  -- ---- both

  pub builds_both : JoiningIsInvisible → HoldsOneContents → AreReadBack input.settings input.schema
      → output_id input.ids < 2 ^ 128 → Builds known analyzer input meta a b
  builds_both law one reads id_fits = record {
    admitted = none;
    valid =
        is_valid_if known analyzer input (IsTrue a.work.tells)
        (is_written analyzer input fits a work_at output_at w.filled) none (λ told. survivors_fit told one law);
    counted = (
      built.merged.counted.0,
      built.merged.counted.1 ∙ work_merged_meta analyzer input fits built.merged.counted.0,
    );
    in_work = λ told. record {
      was_empty = work_empty analyzer input a w.filled.begun_at output_at w.filled.begun told;
      index = work_index told;
      meta_is = meta_is told one;
      totals = totals told;
      unmarked =
          none_alive (length input.operations) (work_ids input.ids) (work_segments analyzer input) a.work.files b.work.files
          (all_apart (λ (s : WrittenSegment). s.id) (work_segments analyzer input)
          (ap are_distinct
          (ids_are input.schema analyzer (work_ids input.ids) input.cuts input.operations (many analyzer input fits))
          ∙ distinct analyzer input fits))
          (work_empty analyzer input a w.filled.begun_at output_at w.filled.begun told)
          (work_kept analyzer input (Ok x) a b writes);
      output_index = output_index told one law;
      output_totals = output_totals told one;
    };
    in_output = λ told. record {
      was_empty = output_empty analyzer input a w.filled.begun_at output_at w.filled.begun told;
      index_of = built.merged.index_of told;
    };
    reads = λ told. output_holds analyzer input fits a b w told;
    any_moment = λ told clean. build_leaves analyzer input fits reads id_fits one law a told clean (Ok x) b writes;
    at_rest = λ told clean. build_rests analyzer input fits reads id_fits one law a told clean x b writes;
  }
