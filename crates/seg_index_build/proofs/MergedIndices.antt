-- What is known of the merge of indices, by what it answers.
use Rattle.std.proofs.Common.{◌≡◌, ◌∙◌, ℕ, List, [], ◌∷◌, IsTrue, map, Option, None, Some, Result, Ok, Err, sym, ap, subst, inl, inr}
use Rattle.std.specs.Prelude.{◌⊎◌, IfOk, IsSomeAnd}
use Rattle.seg_segment.proofs.Exports.{failing}
use Rattle.seg_values.specs.declared.error.TantivyError.{TantivyError}
use Rattle.seg_values.specs.declared.error.TantivyError.TheVariants.{OutOfMemory}
use Rattle.seg_directory.proofs.Exports.{all_went}
use Rattle.seg_directory.specs.DirectoryStates.{DirectoryState}
use Rattle.seg_directory.specs.DirectorySteps.{Works}
use Rattle.seg_meta.specs.IndexOfFiles as index
use Rattle.seg_meta.specs.IndexOfFiles.{Meta}
use Rattle.seg_meta.specs.declared.index_meta.IndexMeta.{IndexMeta}
use Rattle.seg_segment.specs.IndexForms.{segment_forms}
use Rattle.seg_segment.specs.FileContents.{Holds}
use Rattle.seg_segment.specs.SegmentFiles.{KeepsAllBut}
use Rattle.seg_segment.specs.TokenTotals.{TellTotals}
use Rattle.seg_segment.specs.declared.segment_files.SegmentFiles.{SegmentFiles}
use Rattle.seg_open.specs.Answers.{seen_as}
use Rattle.seg_open.specs.OpenSegment.{OpenSegment, kept_count}
use Rattle.seg_merger.specs.JoinedTotals.{joined_total}
use Rattle.seg_merger.specs.Merger.{AreJoinedFiles}
use Rattle.seg_index_build.specs.MergedSegments.{FillsOutput, IsReadBack, IsRefusal as IsSegmentsRefusal, MergeInput, fills, first_schema, mixes, output_meta_of, starves as fill_starves}
use Rattle.seg_index_build.specs.IndexWriteSteps.{fill_one_steps}
use Rattle.seg_index_build.specs.MergeAnswers.{IsWholeIndex}
use Rattle.seg_index_build.specs.OtherFiles.{merged_files}
use Rattle.seg_index_build.proofs.KeptDirectories.{begin_keeps, fill_keeps, same_keeps, then_keeps}
use Rattle.seg_index_build.proofs.OutputSteps.{one_files, one_index}
use Rattle.seg_index_build.proofs.MergeOutcomes.{one_only, some_is}
use Rattle.seg_index_build.proofs.MergeTurns.{seen_error}
use Rattle.seg_index_build.proofs.MergeCounts.{stored_number}
use Rattle.seg_index_build.specs.MergedIndices.{AreAlike, Begins, IsRefusal, IsUnlike, MergesAlike, MergesIndices, MergesSources, Places, alike, asked_of_index, filled, indices_input, merges, not_begun, not_few, not_opened, refuses, starves, unlike}
use Rattle.seg_index_build.specs.IndexMergeAnswers.{IsMergeOfIndices}
use Rattle.seg_index_build.specs.Sources.{AllTell, OpensSources, files_of}
use Rattle.seg_index_build.proofs.OpenedSources.{sources_held, sources_stay as opening_stays, sources_stored}

-- ---- all went well

-- the six files of the output, and their steps
record Made (m : MergeInput) (opened : List OpenSegment) (meta : Meta) (a b : DirectoryState) : Type 0 where
  pub counted : meta ≡ output_meta_of m (kept_count opened)
  pub read_back : IsReadBack meta
  pub files : SegmentFiles
  pub joins : AreJoinedFiles (first_schema m.segments) m.settings.block_size opened files
  pub works : Works (fill_one_steps (output_meta_of m (kept_count opened)) m.id files) (Ok meta) a b

made_of : (m : MergeInput) (opened : List OpenSegment) (meta : Meta) (a b : DirectoryState)
    → FillsOutput m opened (Ok meta) a b → (meta ≡ output_meta_of m (kept_count opened)) × IsReadBack meta → Made m opened meta a b
made_of m opened meta a b (fill_starves is same) said = absurd (cc is)
made_of m opened meta a b (mixes is none same) said = absurd (cc is)
made_of m opened meta a b (fills files joins works) said =
    record { counted = said.0; read_back = said.1; files = files; joins = joins; works = works }

record Merged (m : MergeInput) (indices : List IndexMeta) (meta : Meta) (a b : Places) : Type 0 where
  pub opened : List OpenSegment
  pub begun : DirectoryState
  pub begins : Begins m (Ok tt) a.output begun
  pub opens : OpensSources (map asked_of_index indices) (Ok opened) a.sources b.sources
  pub made : Made m opened meta begun b.output

sources_merged : (m : MergeInput) (indices : List IndexMeta) (meta : Meta) (a b : Places)
    → MergesSources m (map asked_of_index indices) (Ok meta) a b → Merged m indices meta a b
sources_merged m indices meta a b (not_begun e is begins stay) = absurd (cc is)
sources_merged m indices meta a b (not_opened e is begins opens) = absurd (cc is)
sources_merged m indices meta a b (not_few e opened is begins opens many) = absurd (cc is)
sources_merged m indices meta a b (filled opened begun begins opens few last) = record {
  opened = opened;
  begun = begun;
  begins = begins;
  opens = opens;
  made = made_of m opened meta begun b.output last.fills last.meta;
}

alike_merged : (indices : List IndexMeta) (id : ℕ) (meta : Meta) (a b : Places) → MergesAlike indices id (Ok meta) a b
    → Merged (indices_input indices id) indices meta a b
alike_merged indices id meta a b (starves is same) = absurd (cc is)
alike_merged indices id meta a b (refuses e why is same) = absurd (cc is)
alike_merged indices id meta a b (merges why reads h) = sources_merged (indices_input indices id) indices meta a b h

all_merged : (indices : List IndexMeta) (id : ℕ) (meta : Meta) (a b : Places) → MergesIndices indices id (Ok meta) a b
    → Merged (indices_input indices id) indices meta a b
all_merged indices id meta a b (unlike e why is same) = absurd (cc is)
all_merged indices id meta a b (alike are h) = alike_merged indices id meta a b h

module _ (indices : List IndexMeta) (id : ℕ) (meta : Meta) (a b : Places) (h : MergesIndices indices id (Ok meta) a b) where
  abbrev m : MergeInput
  m = indices_input indices id

  merged : Merged m indices meta a b
  merged = all_merged indices id meta a b h

  told_begun : IsTrue a.output.tells → IsTrue merged.begun.tells
  told_begun told = subst (λ t. IsTrue t) (sym (all_went merged.begins).tells) told

  abbrev one : Meta
  one = output_meta_of m (kept_count merged.opened)

  one_back : IsReadBack one
  one_back = subst (λ (x : Meta). IsReadBack x) merged.made.counted merged.made.read_back

  ok_index : IsTrue a.output.tells → index.index_of segment_forms b.output.files ≡ Some meta
  ok_index told =
      one_index one id merged.made.files (Ok meta) merged.made.works one_back (told_begun told)
      ∙ ap (λ (x : Meta). Some x) (sym merged.made.counted)

  -- the segment of the output has what was merged
  ok_holds : IsTrue a.output.tells → Holds b.output.files m.id (first_schema m.segments) merged.made.joins.contents
  ok_holds told = record {
    files = merged.made.files;
    there = one_files one id merged.made.files (Ok meta) merged.made.works (told_begun told);
    spelled = merged.made.joins.spell;
  }

  -- the output is whole
  ok_whole : IsTrue a.output.tells → IsWholeIndex b.output.files meta
  ok_whole told = record {
    is_index = ok_index told;
    whole =
        subst (λ (x : Meta). index.AreWhole segment_forms b.output.files x) (sym merged.made.counted) (
          record {
            contents = merged.made.joins.contents;
            held = ok_holds told;
            number =
                stored_number (first_schema m.segments) merged.opened
                (sources_stored indices a.sources b.sources merged.opened merged.opens) merged.made.joins.contents
                merged.made.joins.joined;
            deletes_agree = tt;
          },
          tt,
        );
  }

  ok_merge : AllTell a.sources
      → IsMergeOfIndices indices id (files_of a.sources) (IsTrue a.output.tells) b.output.files meta
  ok_merge told = record {
    opened = merged.opened;
    held = sources_held indices a.sources b.sources merged.opened told merged.opens;
    counted = merged.made.counted;
    index_of = ok_index;
    contents = merged.made.joins.contents;
    joins = merged.made.joins.joined;
    holds = ok_holds;
    totals = λ told_output.
        subst
        (λ (file : Option (List ℕ)). IsSomeAnd file (TellTotals (first_schema m.segments) (joined_total merged.opened)))
        (sym (one_files one id merged.made.files (Ok meta) merged.made.works (told_begun told_output)).1.1.0)
        merged.made.joins.totals;
  }

-- ---- what is told of any answer

module _ {T : Type 0} (f : T → Meta) (indices : List IndexMeta) (id : ℕ) (a b : Places) where
  pub said_meta : (r : Result T TantivyError) → MergesIndices indices id (seen_as f r) a b
      → IfOk r (λ x. (documents : ℕ) × (f x ≡ output_meta_of (indices_input indices id) documents))
  said_meta (Ok x) h = let all = all_merged indices id (f x) a b h in (kept_count all.opened, all.made.counted)
  said_meta (Err e) h = tt

  pub said_index : (r : Result T TantivyError) → MergesIndices indices id (seen_as f r) a b
      → AllTell a.sources → IfOk r (λ x. IsMergeOfIndices indices id (files_of a.sources) (IsTrue a.output.tells) b.output.files (f x))
  said_index (Ok x) h told = ok_merge indices id (f x) a b h told
  said_index (Err e) h told = tt

  pub said_output : (r : Result T TantivyError) → MergesIndices indices id (seen_as f r) a b → IsTrue a.output.tells
      → IfOk r (λ x. index.index_of segment_forms b.output.files ≡ Some (f x))
  said_output (Ok x) h told = ok_index indices id (f x) a b h told
  said_output (Err e) h told = tt

  pub said_whole : (r : Result T TantivyError) → MergesIndices indices id (seen_as f r) a b → IsTrue a.output.tells
      → IfOk r (λ x. IsWholeIndex b.output.files (f x))
  said_whole (Ok x) h told = ok_whole indices id (f x) a b h told
  said_whole (Err e) h told = tt

-- ---- what stays of the files

-- all of the sources, and of the output those that the merge doesn't make
pub record Stay (id : ℕ) (a b : Places) : Type 0 where
  pub sources_stay : files_of b.sources ≡ files_of a.sources
  pub others : KeepsAllBut (merged_files id) a.output.files b.output.files

module _ (indices : List IndexMeta) (id : ℕ) (r : Result Meta TantivyError) (a b : Places) where
  same_stay : b ≡ a → Stay id a b
  same_stay same = record {
    sources_stay = ap (λ (p : Places). map (λ (s : DirectoryState). s.files) p.sources) same;
    others = same_keeps (merged_files id) a.output b.output (ap (λ (p : Places). p.output) same);
  }

  begun_keeps : (end : Result (Unit {0}) TantivyError) (o : DirectoryState) → Begins (indices_input indices id) end a.output o
      → KeepsAllBut (merged_files id) a.output.files o.files
  begun_keeps end o begins = begin_keeps (indices_input indices id) end a.output o begins

  opening_stay : (end : Result (List OpenSegment) TantivyError) → OpensSources (map asked_of_index indices) end a.sources b.sources
      → KeepsAllBut (merged_files id) a.output.files b.output.files → Stay id a b
  opening_stay end opens kept =
      record { sources_stay = opening_stays (map asked_of_index indices) end a.sources b.sources opens; others = kept }

  merging_stays : MergesSources (indices_input indices id) (map asked_of_index indices) r a b → Stay id a b
  merging_stays (not_begun e is begins stay) =
      record { sources_stay = ap (map (λ (s : DirectoryState). s.files)) stay; others = begun_keeps (Err e) b.output begins }
  merging_stays (not_opened e is begins opens) = opening_stay (Err e) opens (begun_keeps (Ok tt) b.output begins)
  merging_stays (not_few e opened is begins opens many) =
      opening_stay (Ok opened) opens (begun_keeps (Ok tt) b.output begins)
  merging_stays (filled opened begun begins opens few last) =
      opening_stay (Ok opened) opens
      (then_keeps (merged_files id) a.output.files begun.files b.output.files (begun_keeps (Ok tt) begun begins)
      (fill_keeps (indices_input indices id) opened r begun b.output last.fills))

  alike_stays : MergesAlike indices id r a b → Stay id a b
  alike_stays (starves is same) = same_stay same
  alike_stays (refuses e why is same) = same_stay same
  alike_stays (merges why reads h) = merging_stays h

  pub said_stays : MergesIndices indices id r a b → Stay id a b
  said_stays (unlike e why is same) = same_stay same
  said_stays (alike are h) = alike_stays h

-- ---- what is refused

pub not_both : (indices : List IndexMeta) (e : TantivyError) → IsUnlike indices e → AreAlike indices → ⊥
not_both [] e why are = are
not_both (i ∷ indices) e why are = why.0 are

unlike_once : (indices : List IndexMeta) (e d : TantivyError) → IsUnlike indices e → IsUnlike indices d → d ≡ e
unlike_once [] e d h k = k ∙ sym h
unlike_once (i ∷ indices) e d h k = k.1 ∙ sym h.1

module _ (indices : List IndexMeta) (id : ℕ) (e : TantivyError) (refusal : IsRefusal indices (indices_input indices id) e)
    (r : Result Meta TantivyError) (a b : Places) where
  abbrev Refused : Type 0
  Refused = ((r ≡ Err e) ⊎ (r ≡ Err OutOfMemory)) × (b ≡ a)

  by_unlike : (d : TantivyError) → IsUnlike indices d → r ≡ Err d → b ≡ a
      → IsUnlike indices e ⊎ (AreAlike indices × IsSegmentsRefusal (indices_input indices id) (indices_input indices id).segments (Some e)) → Refused
  by_unlike d why is same (inl told) = (inl (is ∙ ap (failing Meta) (unlike_once indices e d told why)), same)
  by_unlike d why is same (inr told) = absurd (not_both indices d why told.0)

  by_segments : (alike_so : AreAlike indices) → MergesAlike indices id r a b
      → IsUnlike indices e ⊎ (AreAlike indices × IsSegmentsRefusal (indices_input indices id) (indices_input indices id).segments (Some e)) → Refused
  by_segments are h (inl told) = absurd (not_both indices e told are)
  by_segments are (starves is same) (inr told) = (inr is, same)
  by_segments are (refuses d why is same) (inr told) = (
    inl (is ∙ ap (failing Meta) (some_is d e (one_only (indices_input indices id) (indices_input indices id).segments (Some d) (Some e) why told.1))),
    same,
  )
  by_segments are (merges why reads h) (inr told) =
      absurd (cc (one_only (indices_input indices id) (indices_input indices id).segments None (Some e) why told.1))

  pub said_refused : MergesIndices indices id r a b → Refused
  said_refused (unlike d why is same) = by_unlike d why is same refusal
  said_refused (alike are h) = by_segments are h refusal

seen_either : {T : Type 0} (f : T → Meta) (e : TantivyError) (r : Result T TantivyError)
    → (seen_as f r ≡ Err e) ⊎ (seen_as f r ≡ Err OutOfMemory) → (r ≡ Err e) ⊎ (r ≡ Err OutOfMemory)
seen_either f e r (inl is) = inl (seen_error f r e is)
seen_either f e r (inr is) = inr (seen_error f r OutOfMemory is)

-- the same of any answer
pub said_refused_so : {T : Type 0} (f : T → Meta) (indices : List IndexMeta) (id : ℕ) (e : TantivyError)
    → IsRefusal indices (indices_input indices id) e → (r : Result T TantivyError) (a b : Places) → MergesIndices indices id (seen_as f r) a b
    → ((r ≡ Err e) ⊎ (r ≡ Err OutOfMemory)) × (b.sources ≡ a.sources) × (b.output ≡ a.output)
said_refused_so {T = T} f indices id e refusal r a b h =
    let told = said_refused indices id e refusal (seen_as f r) a b h in (
      seen_either f e r told.0,
      ap (λ (p : Places). p.sources) told.1,
      ap (λ (p : Places). p.output) told.1,
    )

-- indices that are unlike are told so, and nothing else
pub said_unlike : {T : Type 0} (f : T → Meta) (indices : List IndexMeta) (id : ℕ) (e : TantivyError) → IsUnlike indices e
    → (r : Result T TantivyError) (a b : Places) → MergesIndices indices id (seen_as f r) a b
    → (r ≡ Err e) × (b.sources ≡ a.sources) × (b.output ≡ a.output)
said_unlike f indices id e why r a b (unlike d because is same) = (
  seen_error f r e (is ∙ ap (failing Meta) (unlike_once indices e d why because)),
  ap (λ (p : Places). p.sources) same,
  ap (λ (p : Places). p.output) same,
)
said_unlike f indices id e why r a b (alike are h) = absurd (not_both indices e why are)
