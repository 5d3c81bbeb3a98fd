-- What is printed or merged was whole: segments that are opened have as many documents and deletes as their meta says.
use Rattle.std.proofs.Common.{◌≡◌, ◌∙◌, ℕ, Bool, true, false, cond, List, [], ◌∷◌, map, length, Option, Some, None, Ok, IsTrue, refl, sym, ap, subst}
use Rattle.std.specs.Prelude.{◌&&◌, ◌==◌, if◌then◌else◌, not}
use Rattle.std.specs.List.{AllByRecursion, count_by, filter}
use Rattle.std.proofs.lemmas.Bool.{and_parts, eqb-true}
use Rattle.std.proofs.lemmas.Option.{none-some, same_Some}
use Rattle.seg_bits.specs.BitSets.{set_of}
use Rattle.seg_directory.specs.Files.{NamedFiles}
use Rattle.seg_directory.specs.DirectoryStates.{DirectoryState}
use Rattle.seg_meta.specs.IndexOfFiles as index
use Rattle.seg_meta.specs.IndexOfFiles.{Deletes, ListedSegment, Meta}
use Rattle.seg_meta.specs.Metas.{segment_of}
use Rattle.seg_meta.specs.MetaMeaning.{meta_of}
use Rattle.seg_meta.specs.declared.index_meta.IndexMeta.{IndexMeta}
use Rattle.seg_model.specs.Fields.{Schema}
use Rattle.seg_model.specs.Input.{Filter}
use Rattle.seg_model.specs.Operations.{filtered_by}
use Rattle.seg_segment.specs.AliveFiles.{HoldsMarks}
use Rattle.seg_segment.specs.IndexForms.{segment_forms}
use Rattle.seg_open.specs.OpenSegment.{OpenSegment, contents_of}
use Rattle.seg_open.specs.OpeningSteps.{AreReadersOf, Asked, Found, IsReaderOf, OpensSegments, agreeing, alive_read, asked_of}
use Rattle.seg_open.proofs.Exports.{EachRead, IsHeld, Whole, segments_held}
use Rattle.seg_index_build.specs.MergeAnswers.{IsWholeIndex}
use Rattle.seg_index_build.specs.MergedIndices.{listed_segments}
use Rattle.seg_index_build.specs.MergedSegments.{MergeInput, MergesLive, MergesSegments, is_live, live_asked}
use Rattle.seg_index_build.specs.TwoDirectories.{Directories, Passes, Then, goes_on, stops}
use Rattle.seg_tool.specs.PrintedIndex.{PrintsIndex, all_of, fails, loaded, not_loaded, reads}
use Rattle.seg_tool.specs.Words.MergeJob.{HasWholeLiveSegments, MergesText, merge_of}
use Rattle.seg_tool.specs.declared.words.Detail.{Detail}
use Rattle.seg_tool.proofs.IndexLaws.{load_index, load_stays, tells_on}
use Rattle.seg_tool.proofs.MergedText.{is_done}

-- ---- one segment

module _ (documents : ℕ) (d : Deletes) where
  abbrev given : Bool → List Bool → Option (List Bool)
  given t alive = if t then Some alive else None

  given_counts : (set alive : List Bool) (t : Bool) → ((length set == documents) && (count_by not set == d.number)) ≡ t
      → given t set ≡ Some alive → count_by not alive ≡ d.number
  given_counts set alive true tests is =
      ap (λ (marks : List Bool). count_by not marks) (sym (same_Some set alive is))
      ∙ eqb-true (count_by not set) d.number (and_parts (length set == documents) (count_by not set == d.number) tests).1
  given_counts set alive false tests is = absurd (none-some alive is)

  -- a set that agrees has as many deletes
  agreeing_counts : (o : Option (List Bool)) (alive : List Bool) → agreeing documents d o ≡ Some alive → count_by not alive ≡ d.number
  agreeing_counts None alive is = absurd (none-some alive is)
  agreeing_counts (Some set) alive is = given_counts set alive _ refl is

agrees_so : (files : NamedFiles) (l : ListedSegment) (deletes : Option Deletes) (bytes : List ℕ) (marks : List Bool)
    → HoldsMarks files l.id l.documents deletes marks → alive_read l.documents deletes bytes ≡ Some marks
    → index.DeletesAgree segment_forms files l deletes
agrees_so files l None bytes marks holds is = tt
agrees_so files l (Some d) bytes marks holds is = (marks, holds, holds.counted, agreeing_counts l.documents d (set_of bytes) marks is)

-- no filter cuts
uncut : (custom : Option Filter) (marks alive : List Bool) → custom ≡ None → alive ≡ filtered_by custom marks → alive ≡ marks
uncut None marks alive none is = is
uncut (Some f) marks alive none is = absurd (cc none)

one_whole : (files : NamedFiles) (x : Asked) (f : Found) (s : OpenSegment) → x.custom ≡ None → IsHeld files x s → IsReaderOf x f s → Whole files x
one_whole files x f s none held is =
    let same : held.marks ≡ is.marks = sym (uncut x.custom held.marks s.alive none held.cut) ∙ uncut x.custom is.marks s.alive none is.alive in
    record {
      contents = contents_of s;
      held = held.contents;
      number = is.has.of_number;
      deletes_agree =
          agrees_so files x.segment.meta x.segment.meta.deletes f.alive_file is.marks
          (subst (λ (marks : List Bool). HoldsMarks files x.segment.meta.id x.segment.meta.documents x.segment.meta.deletes marks) same held.alive)
          is.marked;
    }

-- ---- segments without filters

abbrev AreUncut : List Asked → Type 0
AreUncut asked = AllByRecursion (λ (x : Asked). x.custom ≡ None) asked

each_whole : (files : NamedFiles) (asked : List Asked) (found : List Found) (opened : List OpenSegment) → AreUncut asked
    → EachRead (IsHeld files) asked opened → AreReadersOf asked found opened → AllByRecursion (Whole files) asked
each_whole files [] found opened none held are = tt
each_whole files (x ∷ asked) found [] none held are = absurd held
each_whole files (x ∷ asked) [] (s ∷ opened) none held are = absurd are
each_whole files (x ∷ asked) (f ∷ found) (s ∷ opened) none held are =
    (one_whole files x f s none.0 held.0 are.0, each_whole files asked found opened none.1 held.1 are.1)

opened_whole : (asked : List Asked) (opened : List OpenSegment) (a b : DirectoryState) → AreUncut asked → IsTrue a.tells
    → OpensSegments asked (Ok opened) a b → AllByRecursion (Whole a.files) asked
opened_whole asked opened a b none told h =
    each_whole a.files asked h.found opened none (segments_held asked a b opened told h) h.are

-- ---- an index that is printed

module _ (schema : Schema) where
  all_uncut : (listed : List ListedSegment) → AreUncut (all_of (map (segment_of schema) listed))
  all_uncut [] = tt
  all_uncut (l ∷ listed) = (refl, all_uncut listed)

  all_whole : (files : NamedFiles) (listed : List ListedSegment) → AllByRecursion (Whole files) (all_of (map (segment_of schema) listed))
      → AllByRecursion (index.IsWhole segment_forms files schema) listed
  all_whole files [] whole = tt
  all_whole files (l ∷ listed) whole = (whole.0, all_whole files listed whole.1)

pub printed_whole : (front label : List ℕ) (detail : Detail) (a b : DirectoryState) (text : List ℕ) → IsTrue a.tells
    → PrintsIndex front label detail (Ok text) a b → (meta : Meta) × IsWholeIndex a.files meta
printed_whole front label detail a b text told (not_loaded e is load) = absurd (cc is)
printed_whole front label detail a b text told (loaded metas m load (fails e is h)) = absurd (cc is)
printed_whole front label detail a b text told (loaded metas m load (reads opened is h)) =
    let same = load_stays a m (Ok metas) load in
    let whole = opened_whole (all_of (listed_segments metas)) opened m b (all_uncut metas.schema metas.segments) (tells_on a m same told) h in (
      meta_of metas,
      record {
        is_index = load_index a m metas told load;
        whole =
            subst (λ (files : NamedFiles). AllByRecursion (index.IsWhole segment_forms files metas.schema) metas.segments) same.files
            (all_whole metas.schema m.files metas.segments whole);
      },
    )

-- ---- segments that are merged

all_kept : {X : Type 0} (P : X → Type 0) (p : X → Bool) (xs : List X) → AllByRecursion P xs → AllByRecursion P (filter p xs)
all_kept P p [] h = tt
all_kept P p (x ∷ xs) h = by (p x) (all_kept P p xs h.1)
  where
    by : (b : Bool) → AllByRecursion P (filter p xs) → AllByRecursion P (cond b (x ∷ filter p xs) (filter p xs))
    by true rest = (h.0, rest)
    by false rest = rest

all_back : {X : Type 0} (P : X → Type 0) (p : X → Bool) (xs : List X) → AllByRecursion P (filter p xs)
    → AllByRecursion (λ x. p x ≡ true → P x) xs
all_back P p [] h = tt
all_back P p (x ∷ xs) h = by (p x) refl (all_back P p xs) h
  where
    by : (b : Bool) → p x ≡ b → (AllByRecursion P (filter p xs) → AllByRecursion (λ y. p y ≡ true → P y) xs)
        → AllByRecursion P (cond b (x ∷ filter p xs) (filter p xs)) → (p x ≡ true → P x) × AllByRecursion (λ y. p y ≡ true → P y) xs
    by true is rest all = (λ _. all.0, rest all.1)
    by false is rest all = (λ passes. absurd (cc (sym is ∙ passes)), rest all)

module _ (schema : Schema) where
  abbrev unfiltered : List ListedSegment → List Asked
  unfiltered listed = asked_of (map (segment_of schema) listed) (map (λ _. None) (map (segment_of schema) listed))

  none_filtered : (listed : List ListedSegment) → AreUncut (unfiltered listed)
  none_filtered [] = tt
  none_filtered (l ∷ listed) = (refl, none_filtered listed)

  live_back : (files : NamedFiles) (listed : List ListedSegment)
      → AllByRecursion (λ (x : Asked). is_live x.segment.meta ≡ true → Whole files x) (unfiltered listed)
      → AllByRecursion (λ (s : ListedSegment). is_live s ≡ true → index.IsWhole segment_forms files schema s) listed
  live_back files [] whole = tt
  live_back files (l ∷ listed) whole = (whole.0, live_back files listed whole.1)

-- the live segments were opened
record LiveOpened (m : MergeInput) (a : Directories) : Type 0 where
  pub opened : List OpenSegment
  pub from : DirectoryState
  pub to : DirectoryState
  pub same : from ≡ a.work
  pub opens : OpensSegments (live_asked m.segments m.filters) (Ok opened) from to

live_opened : (m : MergeInput) (merged : IndexMeta) (a b : Directories) → MergesSegments m (Ok merged) a b → LiveOpened m a
live_opened m merged a b h = by h.merges
  where
    by : Then {X = Unit {0}} (Passes h.refusal) (λ _. MergesLive m) (Ok merged) a b → LiveOpened m a
    by (stops e is k) = absurd (cc is)
    by (goes_on u n k (stops e is l)) = absurd (cc is)
    by (goes_on u n k (goes_on v p begins (stops e is l))) = absurd (cc is)
    by (goes_on u n k (goes_on v p begins (goes_on opened q opens l))) = record {
      opened = opened;
      from = p.work;
      to = q.work;
      same = begins.1 ∙ ap (λ (d : Directories). d.work) k.1;
      opens = opens.0;
    }

pub merged_whole : (a b : Directories) (text : List ℕ) → MergesText (Ok text) a b → IsTrue a.work.tells → HasWholeLiveSegments a.work.files
merged_whole a b text h told =
    let d = is_done a b text h in
    let schema = d.metas.schema in
    let listed = d.metas.segments in
    let stays = load_stays a.work d.loaded_at.work (Ok d.metas) d.loads in
    let l = live_opened (merge_of d.metas) d.merged d.loaded_at d.merged_at d.merges.does in
    let told_loaded = tells_on a.work d.loaded_at.work stays told in
    let told_then = subst (λ (s : DirectoryState). IsTrue s.tells) (sym l.same) told_loaded in
    let none = all_kept (λ (x : Asked). x.custom ≡ None) (λ x. is_live x.segment.meta) (unfiltered schema listed) (none_filtered schema listed) in
    let whole = opened_whole (live_asked (merge_of d.metas).segments (merge_of d.metas).filters) l.opened l.from l.to none told_then l.opens in
    record {
      meta = meta_of d.metas;
      is_index = load_index a.work d.loaded_at.work d.metas told d.loads;
      whole =
          subst (λ (files : NamedFiles). AllByRecursion (λ (s : ListedSegment). is_live s ≡ true → index.IsWhole segment_forms files schema s) listed)
          (ap (λ (s : DirectoryState). s.files) l.same ∙ stays.files)
          (live_back schema l.from.files listed
          (all_back (Whole l.from.files) (λ x. is_live x.segment.meta) (unfiltered schema listed) whole));
    }
