-- Where the merge of segments ends, with each directory by itself.
use Rattle.std.proofs.Common.{◌≡◌, ◌∙◌, List, [], None, Result, Ok, Err, refl, sym, ap, subst}
use Rattle.std.proofs.lemmas.List.{append-nil}
use Rattle.seg_segment.proofs.Exports.{failing, same_error}
use Rattle.seg_values.specs.declared.error.ArgumentCause.TheVariants.{Numbers}
use Rattle.seg_values.specs.declared.error.TantivyError.{TantivyError}
use Rattle.seg_values.specs.declared.error.TantivyError.TheVariants.{InvalidArgument, OutOfMemory}
use Rattle.seg_directory.proofs.Exports.{answers, does_nothing, stops_before}
use Rattle.seg_directory.specs.DirectoryStates.{DirectoryState}
use Rattle.seg_directory.specs.DirectorySteps.{Step, Works}
use Rattle.seg_meta.specs.IndexOfFiles.{Meta}
use Rattle.seg_model.specs.CheckAnswers.{Tells}
use Rattle.seg_segment.specs.declared.segment_files.SegmentFiles.{SegmentFiles}
use Rattle.seg_open.specs.Answers.{seen_as}
use Rattle.seg_open.specs.OpenSegment.{OpenSegment, kept_count}
use Rattle.seg_open.specs.OpeningSteps.{OpensSegments}
use Rattle.seg_merger.specs.Merger.{AreJoinedFiles, too_many}
use Rattle.seg_index_build.specs.MergedSegments.{FillsOutput, IsReadBack, MergeInput, MergesLive, MergesTo, fills, first_schema, live_asked, mixes, output_meta_of, starves}
use Rattle.seg_index_build.specs.TwoDirectories.{Directories, goes_on, stops}
use Rattle.seg_index_build.specs.IndexWriteSteps.{begin_steps, fill_one_steps}

-- the same error of another call
pub works_as : (S T : Type 0) (steps : List Step) (e : TantivyError) (a b : DirectoryState)
    → Works {T = S} steps (Err e) a b → Works {T = T} steps (Err e) a b
works_as S T steps e a b works =
    subst (λ l. Works {T = T} l (Err e) a b) (append-nil steps) (stops_before [] works)

-- an error is seen as itself
pub seen_error : {T : Type 0} (f : T → Meta) (r : Result T TantivyError) (e : TantivyError) → seen_as f r ≡ Err e → r ≡ Err e
seen_error f (Ok x) e is = absurd (cc is)
seen_error {T = T} f (Err d) e is = ap (failing T) (same_error Meta d e is)

module _ (m : MergeInput) where
  abbrev pub Begins : Result (Unit {0}) TantivyError → DirectoryState → DirectoryState → Type 0
  Begins end a b = Works (begin_steps m.settings (first_schema m.segments)) end a b

  abbrev pub Opens : Result (List OpenSegment) TantivyError → DirectoryState → DirectoryState → Type 0
  Opens result a b = OpensSegments (live_asked m.segments m.filters) result a b

  abbrev pub Counts : List OpenSegment → Result (Unit {0}) TantivyError → Type 0
  Counts opened end = Tells (too_many (kept_count opened)) end

  -- the output index is begun, and the segments are opened
  pub record Opened (opened : List OpenSegment) (a : Directories) (w o : DirectoryState) : Type 0 where
    pub begins : Begins (Ok tt) a.output o
    pub opens : Opens (Ok opened) a.work w

  -- the output index is filled
  pub record Made (opened : List OpenSegment) (a b : DirectoryState) : Type 0 where
    pub files : SegmentFiles
    pub joins : AreJoinedFiles (first_schema m.segments) m.settings.block_size opened files
    pub works : Works {T = Unit {0}} (fill_one_steps (output_meta_of m (kept_count opened)) m.id files) (Ok tt) a b

  -- ---- all went well

  pub record Merged (opened : List OpenSegment) (a b : Directories) : Type 0 where
    pub begun_at : DirectoryState
    pub was : Opened opened a b.work begun_at
    pub few : too_many (kept_count opened) ≡ None
    pub made : Made opened begun_at b.output

  made_of : {T : Type 0} (opened : List OpenSegment) (x : T) (a b : DirectoryState)
      → FillsOutput m opened (Ok x) a b → Made opened a b
  made_of opened x a b (starves is same) = absurd (cc is)
  made_of opened x a b (mixes is none same) = absurd (cc is)
  made_of opened x a b (fills files joins works) = record { files = files; joins = joins; works = answers works }

  opened_of : (u : Unit {0}) (opened : List OpenSegment) (a n p : Directories) → Begins (Ok u) a.output n.output
      → n.work ≡ a.work → Opens (Ok opened) n.work p.work → p.output ≡ n.output → Opened opened a p.work p.output
  opened_of u opened a n p begins same opens same_output = record {
    begins = subst (λ (s : DirectoryState). Begins (Ok tt) a.output s) (sym same_output) (answers begins);
    opens = subst (λ (s : DirectoryState). Opens (Ok opened) s p.work) same opens;
  }

  merged_of : (opened : List OpenSegment) (a p q b : Directories) → Opened opened a p.work p.output
      → too_many (kept_count opened) ≡ None → q ≡ p → Made opened q.output b.output → b.work ≡ q.work
      → Merged opened a b
  merged_of opened a p q b was few same made stays = record {
    begun_at = p.output;
    was =
        subst (λ (s : DirectoryState). Opened opened a s p.output)
        (sym (stays ∙ ap (λ (d : Directories). d.work) same)) was;
    few = few;
    made =
        subst (λ (s : DirectoryState). Made opened s b.output) (ap (λ (d : Directories). d.output) same) made;
  }

  pub merged : {T : Type 0} (x : T) (a b : Directories) → MergesLive m (Ok x) a b
      → (opened : List OpenSegment) × Merged opened a b
  merged x a b (stops e is h) = absurd (cc is)
  merged x a b (goes_on u n h (stops e is k)) = absurd (cc is)
  merged x a b (goes_on u n h (goes_on opened p k (stops e is l))) = absurd (cc is)
  merged x a b (goes_on u n h (goes_on opened p k (goes_on v q l f))) = (
    opened,
    merged_of opened a p q b (opened_of u opened a n p h.0 h.1 k.0 k.1) l.0 l.1 (made_of opened x q.output b.output f.0) f.1,
  )

  -- and its meta is answered
  pub record Answered (meta : Meta) (a b : Directories) : Type 0 where
    pub opened : List OpenSegment
    pub merged : Merged opened a b
    pub counted : meta ≡ output_meta_of m (kept_count opened)
    pub read_back : IsReadBack meta

  pub answered : (meta : Meta) (a b : Directories) → MergesTo m (Ok meta) a b → Answered meta a b
  answered meta a b (stops e is h) = absurd (cc is)
  answered meta a b (goes_on u n h (stops e is k)) = absurd (cc is)
  answered meta a b (goes_on u n h (goes_on opened p k (stops e is l))) = absurd (cc is)
  answered meta a b (goes_on u n h (goes_on opened p k (goes_on v q l f))) = record {
    opened = opened;
    merged =
        merged_of opened a p q b (opened_of u opened a n p h.0 h.1 k.0 k.1) l.0 l.1
        (made_of opened meta q.output b.output f.0.fills) f.1;
    counted = f.0.meta.0;
    read_back = f.0.meta.1;
  }

  -- ---- where it ends

  pub data MergeExits (e : TantivyError) (a b : Directories) : Type 0 where
    at_beginning : Begins (Err e) a.output b.output → b.work ≡ a.work → MergeExits e a b
    at_opening : Begins (Ok tt) a.output b.output → Opens (Err e) a.work b.work → MergeExits e a b
    at_counting : (opened : List OpenSegment) → Opened opened a b.work b.output → Counts opened (Err e)
        → MergeExits e a b
    at_filling : (opened : List OpenSegment) (o : DirectoryState) → Opened opened a b.work o
        → too_many (kept_count opened) ≡ None → FillsOutput {T = Unit {0}} m opened (Err e) o b.output → MergeExits e a b

  -- the same error of another call
  pub fails_as : (S T : Type 0) (opened : List OpenSegment) (e : TantivyError) (a b : DirectoryState)
      → FillsOutput {T = S} m opened (Err e) a b → FillsOutput {T = T} m opened (Err e) a b
  fails_as S T opened e a b (starves is same) = starves (ap (failing T) (same_error S e OutOfMemory is)) same
  fails_as S T opened e a b (mixes is none same) =
      mixes (ap (failing T) (same_error S e (InvalidArgument Numbers) is)) none same
  fails_as S T opened e a b (fills files joins works) = fills files joins (works_as S T _ e a b works)

  exit_as : (T : Type 0) (e d : TantivyError) (a b : Directories) → failing T e ≡ failing T d → MergeExits d a b
      → MergeExits e a b
  exit_as T e d a b is exit = subst (λ (x : TantivyError). MergeExits x a b) (sym (same_error T e d is)) exit

  counting : (opened : List OpenSegment) (e : TantivyError) (a p b : Directories) → Opened opened a p.work p.output
      → Counts opened (Err e) → b ≡ p → MergeExits e a b
  counting opened e a p b was counts same =
      subst (λ (d : Directories). MergeExits e a d) (sym same) (at_counting opened was counts)

  filling : (opened : List OpenSegment) (e : TantivyError) (a p q b : Directories) → Opened opened a p.work p.output
      → too_many (kept_count opened) ≡ None → q ≡ p → FillsOutput {T = Unit {0}} m opened (Err e) q.output b.output → b.work ≡ q.work → MergeExits e a b
  filling opened e a p q b was few same h stays =
      at_filling opened p.output
      (subst (λ (s : DirectoryState). Opened opened a s p.output)
      (sym (stays ∙ ap (λ (d : Directories). d.work) same)) was) few
      (subst (λ (s : DirectoryState). FillsOutput {T = Unit {0}} m opened (Err e) s b.output)
      (ap (λ (d : Directories). d.output) same) h)

  opening : (u : Unit {0}) (e : TantivyError) (a n b : Directories) → Begins (Ok u) a.output n.output
      → n.work ≡ a.work → Opens (Err e) n.work b.work → b.output ≡ n.output → MergeExits e a b
  opening u e a n b begins same opens same_output =
      at_opening (subst (λ (s : DirectoryState). Begins (Ok tt) a.output s) (sym same_output) (answers begins))
      (subst (λ (s : DirectoryState). Opens (Err e) s b.work) same opens)

  pub merge_exits : (T : Type 0) (e : TantivyError) (a b : Directories) → MergesLive {T = T} m (Err e) a b
      → MergeExits e a b
  merge_exits T e a b (stops d is h) = exit_as T e d a b is (at_beginning h.0 h.1)
  merge_exits T e a b (goes_on u n h (stops d is k)) = exit_as T e d a b is (opening u d a n b h.0 h.1 k.0 k.1)
  merge_exits T e a b (goes_on u n h (goes_on opened p k (stops d is l))) =
      exit_as T e d a b is (counting opened d a p b (opened_of u opened a n p h.0 h.1 k.0 k.1) l.0 l.1)
  merge_exits T e a b (goes_on u n h (goes_on opened p k (goes_on v q l f))) =
      filling opened e a p q b (opened_of u opened a n p h.0 h.1 k.0 k.1) l.0 l.1
      (fails_as T (Unit {0}) opened e q.output b.output f.0) f.1

  -- ---- without its meta

  -- what is answered may be seen otherwise
  seen_fills : {T : Type 0} (f : T → Meta) (opened : List OpenSegment) (r : Result T TantivyError) (a b : DirectoryState)
      → FillsOutput m opened (seen_as f r) a b → FillsOutput m opened r a b
  seen_fills f opened (Ok x) a b (starves is same) = absurd (cc is)
  seen_fills f opened (Ok x) a b (mixes is none same) = absurd (cc is)
  seen_fills f opened (Ok x) a b (fills files joins works) = fills files joins (answers works)
  seen_fills {T = T} f opened (Err e) a b h = fails_as Meta T opened e a b h

  pub unanswered : {T : Type 0} (f : T → Meta) (r : Result T TantivyError) (a b : Directories)
      → MergesTo m (seen_as f r) a b → MergesLive m r a b
  unanswered f r a b (stops e is h) = stops e (seen_error f r e is) h
  unanswered f r a b (goes_on u n h (stops e is k)) = goes_on u n h (stops e (seen_error f r e is) k)
  unanswered f r a b (goes_on u n h (goes_on opened p k (stops e is l))) =
      goes_on u n h (goes_on opened p k (stops e (seen_error f r e is) l))
  unanswered f r a b (goes_on u n h (goes_on opened p k (goes_on v q l g))) =
      goes_on u n h (goes_on opened p k (goes_on v q l (seen_fills f opened r q.output b.output g.0.fills, g.1)))

  -- memory runs out before any call
  pub starved : (T : Type 0) (a : Directories) → MergesLive {T = T} m (Err OutOfMemory) a a
  starved T a = stops OutOfMemory refl (does_nothing _, refl)
