-- What is known where segments are merged.
use Rattle.std.proofs.Common.{◌≡◌, ◌∙◌, ℕ, List, [], ◌∷◌, IsTrue, Option, Some, Ok, sym, ap, subst, true}
use Rattle.std.specs.Prelude.{IsSomeAnd}
use Rattle.seg_directory.proofs.Exports.{all_went}
use Rattle.seg_directory.specs.Files.{NamedFiles}
use Rattle.seg_directory.specs.DirectoryStates.{DirectoryState}
use Rattle.seg_meta.specs.IndexOfFiles as index
use Rattle.seg_meta.specs.IndexOfFiles.{Meta}
use Rattle.seg_segment.specs.IndexForms.{segment_forms}
use Rattle.seg_segment.specs.FileContents.{Holds}
use Rattle.seg_segment.specs.TokenTotals.{TellTotals}
use Rattle.seg_open.specs.OpenSegment.{OpenSegment, kept_count}
use Rattle.seg_open.specs.OpeningSteps.{Asked, HaveTotals}
use Rattle.seg_open.proofs.Exports.{AreTold, EachRead, IsHeld, segments_held, segments_stay, segments_totals}
use Rattle.seg_merger.specs.JoinedTotals.{joined_total}
use Rattle.seg_batches.specs.BatchTotals.{HasTotals}
use Rattle.seg_index_build.specs.MergeAnswers.{AllHaveHeld, HasHeld, IsMergeOf, IsWholeIndex}
use Rattle.seg_merger.specs.Merger.{all_fit}
use Rattle.seg_index_build.specs.MergedSegments.{IsReadBack, MergeInput, first_schema, live_asked, output_meta_of}
use Rattle.seg_index_build.specs.TwoDirectories.{Directories}
use Rattle.seg_index_build.proofs.ToldDirectories.{tells-still}
use Rattle.seg_index_build.proofs.MergeCounts.{opened_number}
use Rattle.seg_index_build.proofs.MergeTurns.{Answered, Merged, Opens}
use Rattle.seg_index_build.proofs.OutputSteps.{one_files, one_index}

-- ---- what was opened

one_held : (files : NamedFiles) (a : Asked) (s : OpenSegment) → IsHeld files a s → AreTold files a s → HasHeld files a s
one_held files a s h told = record {
  contents = h.contents;
  marks = h.marks;
  alive = h.alive;
  cut = h.cut;
  totals =
      subst (λ (file : Option (List ℕ)). IsSomeAnd file (HaveTotals s.fields)) (sym h.contents.there.1.1.0)
      (told h.contents.files.postings h.contents.there.1.1.0);
}

each_held : (files : NamedFiles) (asked : List Asked) (opened : List OpenSegment)
    → EachRead (IsHeld files) asked opened → EachRead (AreTold files) asked opened → AllHaveHeld files asked opened
each_held files [] [] h told = tt
each_held files [] (s ∷ opened) h told = absurd h
each_held files (a ∷ asked) [] h told = absurd h
each_held files (a ∷ asked) (s ∷ opened) h told =
    (one_held files a s h.0 told.0, each_held files asked opened h.1 told.1)

module _ (m : MergeInput) where
  -- it is what the work directory holds
  pub opened_held : (opened : List OpenSegment) (a b : DirectoryState) → IsTrue a.tells → Opens m (Ok opened) a b
      → AllHaveHeld a.files (live_asked m.segments m.filters) opened
  opened_held opened a b told h =
      each_held a.files (live_asked m.segments m.filters) opened
      (segments_held (live_asked m.segments m.filters) a b opened told h)
      (segments_totals (live_asked m.segments m.filters) a b opened told h)

  -- and that stays
  pub opened_stays : (opened : List OpenSegment) (a b : DirectoryState) → Opens m (Ok opened) a b → b.files ≡ a.files
  opened_stays opened a b h = (segments_stay (live_asked m.segments m.filters) a b (Ok opened) h).files

  -- ---- the output index

  module _ (opened : List OpenSegment) (a b : Directories) (w : Merged m opened a b) (told : IsTrue a.output.tells) where
    told_begun : IsTrue w.begun_at.tells
    told_begun = tells-still _ _ (all_went w.was.begins).tells told

    pub merged_index : IsReadBack (output_meta_of m (kept_count opened))
        → index.index_of segment_forms b.output.files ≡ Some (output_meta_of m (kept_count opened))
    merged_index reads =
        one_index (output_meta_of m (kept_count opened)) m.id w.made.files (Ok tt) w.made.works reads told_begun

    pub merged_holds : Holds b.output.files m.id (first_schema m.segments) w.made.joins.contents
    merged_holds = record {
      files = w.made.files;
      there = one_files (output_meta_of m (kept_count opened)) m.id w.made.files (Ok tt) w.made.works told_begun;
      spelled = w.made.joins.spell;
    }

    pub merged_totals : HasTotals b.output.files m.id (first_schema m.segments) (joined_total opened)
    merged_totals =
        subst
        (λ (file : Option (List ℕ)). IsSomeAnd file (TellTotals (first_schema m.segments) (joined_total opened)))
        (sym
        (one_files (output_meta_of m (kept_count opened)) m.id w.made.files (Ok tt) w.made.works told_begun).1.1.0)
        w.made.joins.totals

  -- ---- what is answered

  module _ (meta : Meta) (a b : Directories) (answer : Answered m meta a b) where
    answer_read : IsReadBack (output_meta_of m (kept_count answer.opened))
    answer_read = subst (λ (x : Meta). IsReadBack x) answer.counted answer.read_back

    pub answer_index : IsTrue a.output.tells → index.index_of segment_forms b.output.files ≡ Some meta
    answer_index told =
        merged_index answer.opened a b answer.merged told answer_read ∙ ap (λ (x : Meta). Some x) (sym answer.counted)

    -- it is that of a merge
    pub answer_merge : IsTrue a.work.tells
        → IsMergeOf m a.work.files (IsTrue a.output.tells) b.output.files meta
    answer_merge told = record {
      opened = answer.opened;
      held = opened_held answer.opened a.work b.work told answer.merged.was.opens;
      counted = answer.counted;
      index_of = answer_index;
      contents = answer.merged.made.joins.contents;
      joins = answer.merged.made.joins.joined;
      holds = merged_holds answer.opened a b answer.merged;
      totals = merged_totals answer.opened a b answer.merged;
    }

    answer_segments : all_fit m.filters m.segments ≡ true → IsTrue a.output.tells
        → index.AreWhole segment_forms b.output.files (output_meta_of m (kept_count answer.opened))
    answer_segments fit told = (
      record {
        contents = answer.merged.made.joins.contents;
        held = merged_holds answer.opened a b answer.merged told;
        number =
            opened_number m answer.opened a.work b.work answer.merged.was.opens fit answer.merged.made.joins.contents
            answer.merged.made.joins.joined;
        deletes_agree = tt;
      },
      tt,
    )

    -- the output is whole
    pub answer_whole : all_fit m.filters m.segments ≡ true → IsTrue a.output.tells → IsWholeIndex b.output.files meta
    answer_whole fit told = record {
      is_index = answer_index told;
      whole =
          subst (λ (x : Meta). index.AreWhole segment_forms b.output.files x) (sym answer.counted) (answer_segments fit told);
    }
