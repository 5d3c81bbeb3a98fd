-- What the opening of segments says of the directory, and of what was opened.
use Rattle.std.proofs.Common.{◌≡◌, ◌∙◌, ℕ, Bool, true, false, List, [], ◌∷◌, Option, Some, None, Result, Ok, Err, refl, sym, ap, subst, arith}
use Rattle.std.specs.Prelude.{IfErr, IfSome, IsTrue, replicate, is_some, if◌then◌else◌}
use Rattle.std.specs.FinMap.{get}
use Rattle.std.specs.List.{AllByRecursion}
use Rattle.std.proofs.lemmas.Option.{same_Some}
use Rattle.seg_common.specs.FaultCounts.{Rose}
use Rattle.seg_common.specs.declared.name.FileName.TheVariants.{Alive, Part}
use Rattle.seg_common.specs.declared.name.SegmentComponent.TheVariants.{Postings}
use Rattle.seg_values.specs.declared.error.TantivyError.{TantivyError}
use Rattle.seg_values.specs.declared.error.TantivyError.TheVariants.{DataCorruption, OpenReadError, OutOfMemory}
use Rattle.seg_bits.specs.BitSets.{set_of}
use Rattle.seg_directory.proofs.Exports.{Parts, all_went, in_first, in_next, parts_on}
use Rattle.seg_directory.specs.Files.{NamedFiles}
use Rattle.seg_directory.specs.DirectoryStates.{DirectoryState}
use Rattle.seg_directory.specs.DirectorySteps.{AllSuit, Step, Works}
use Rattle.seg_model.specs.Operations.{filtered_by}
use Rattle.seg_model.specs.Shape.{HasFullShape}
use Rattle.seg_meta.specs.IndexOfFiles as index
use Rattle.seg_meta.specs.IndexOfFiles.{Deletes, ListedSegment}
use Rattle.seg_meta.specs.Metas.{SegmentParts}
use Rattle.seg_segment.specs.IndexForms.{segment_forms}
use Rattle.seg_segment.specs.FileContents.{Holds}
use Rattle.seg_segment.specs.AliveFiles.{HoldsAlive, HoldsMarks}
use Rattle.seg_segment.specs.SegmentFiles.{HasFiles}
use Rattle.seg_segment.specs.ReadErrors.{IsNoDamage, IsReadError}
use Rattle.seg_segment.proofs.Exports.{FindWhole, FindsDamage, OnlyReads, Unchanged, found_whole, reads_both, reads_rose, reads_so, reads_stay, suits_both, whole_both, same_state, then_same}
use Rattle.seg_open.specs.OpenSegment.{OpenSegment, contents_of}
use Rattle.seg_open.specs.OpeningSteps.{AreFound, AreReadersOf, Asked, Found, HaveTotals, IsFound, IsReaderOf, Opens, OpensSegments, alive_in, alive_read, alive_steps, all_steps, open_steps, segment_steps}
use Rattle.seg_open.proofs.AliveFileReads.{agrees, is_set, undamaged}
use Rattle.seg_open.proofs.OpeningReads.{is_there, open_has, open_only, open_whole}

-- ---- the steps of one segment

damage_found : (id stamp : ℕ) (t : Bool) → FindsDamage (if t then None else Some (DataCorruption (Alive id stamp)))
damage_found id stamp true = tt
damage_found id stamp false = tt

alive_only : (id documents : ℕ) (deletes : Option Deletes) (bytes : List ℕ)
    → OnlyReads (alive_steps id documents deletes bytes)
alive_only id documents None bytes = tt
alive_only id documents (Some d) bytes = (damage_found id d.stamp (is_some (alive_in documents d bytes)), tt)

segment_only : (s : SegmentParts) (f : Found) → OnlyReads (segment_steps s f)
segment_only s f =
    reads_both (open_steps s.meta.id f.files f.checks) (alive_steps s.meta.id s.meta.documents s.meta.deletes f.alive_file)
    (open_only s.meta.id f.files f.checks) (alive_only s.meta.id s.meta.documents s.meta.deletes f.alive_file)

-- a segment of files is whole
abbrev pub Whole : NamedFiles → Asked → Type 0
Whole files x = index.IsWhole segment_forms files x.segment.schema x.segment.meta

alive_whole : (files : NamedFiles) (s : ListedSegment) (deletes : Option Deletes) (bytes : List ℕ)
    → index.DeletesAgree segment_forms files s deletes → FindWhole files (alive_steps s.id s.documents deletes bytes)
alive_whole files s None bytes agree = tt
alive_whole files s (Some d) bytes agree =
    let held : HoldsAlive files s.id d.stamp s.documents agree.0 = agree.1 in (
      is_there _ held.file held.there,
      λ is.
          let same : held.file ≡ bytes = same_Some held.file bytes (sym held.there ∙ is) in
          let agrees_so = agrees s.documents d bytes agree.0 (ap set_of (sym same) ∙ held.set) held.counted agree.3 in (
            subst (λ (o : Option TantivyError). IfSome o IsNoDamage) (sym (undamaged s.id s.documents d bytes agree.0 agrees_so)) tt,
            λ none. tt,
          ),
    )

segment_whole : (files : NamedFiles) (x : Asked) (f : Found) → IsFound x.segment f → Whole files x → FindWhole files (segment_steps x.segment f)
segment_whole files x f found whole =
    let s = x.segment in
    whole_both files (open_steps s.meta.id f.files f.checks) (alive_steps s.meta.id s.meta.documents s.meta.deletes f.alive_file)
    (open_whole s.meta.id f.files f.checks s.schema s.meta.documents files whole.contents whole.held whole.number found)
    (λ suits. alive_whole files s.meta s.meta.deletes f.alive_file whole.deletes_agree)

module _ (x : Asked) (f : Found) (found : IsFound x.segment f) (a b : DirectoryState) where
  one_stays : {T : Type 0} (r : Result T TantivyError) → Works {T = T} (segment_steps x.segment f) r a b → Unchanged a b
  one_stays r works = reads_stay (segment_only x.segment f) works

  one_so : (T : Type 0) (e : TantivyError) → Works {T = T} (segment_steps x.segment f) (Err e) a b → IsReadError e
  one_so T e works = reads_so {T = T} (segment_only x.segment f) works

  one_rose : (T : Type 0) → Works {T = T} (segment_steps x.segment f) (Err OpenReadError) a b → Rose a.faults b.faults
  one_rose T works = reads_rose (segment_only x.segment f) works

  one_undamaged : (T : Type 0) (e : TantivyError) → Whole a.files x → IsTrue a.tells → Works {T = T} (segment_steps x.segment f) (Err e) a b → IsNoDamage e
  one_undamaged T e whole told works = found_whole told (segment_whole a.files x f found whole) works

-- ---- what was opened

-- it is of the schema, and of as many documents as are listed
pub record IsOf (x : Asked) (s : OpenSegment) : Type 0 where
  pub of_id : s.id ≡ x.segment.meta.id
  pub of_schema : s.schema ≡ x.segment.schema
  pub of_number : s.documents ≡ x.segment.meta.documents
  pub shape : HasFullShape x.segment.schema (contents_of s)

one_of : (x : Asked) (f : Found) (s : OpenSegment) → IsReaderOf x f s → IsOf x s
one_of x f s is =
    record { of_id = is.has.of_id; of_schema = is.has.of_schema; of_number = is.has.of_number; shape = is.has.spell.shape }

-- it is as the files hold it, and of the documents that are alive there it has those that are asked for
pub record IsHeld (files : NamedFiles) (x : Asked) (s : OpenSegment) : Type 0 where
  pub contents : Holds files x.segment.meta.id x.segment.schema (contents_of s)
  pub marks : List Bool
  pub alive : HoldsMarks files x.segment.meta.id x.segment.meta.documents x.segment.meta.deletes marks
  pub cut : s.alive ≡ filtered_by x.custom marks

alive_held : (files : NamedFiles) (id documents : ℕ) (deletes : Option Deletes) (bytes : List ℕ) (alive : List Bool)
    → alive_read documents deletes bytes ≡ Some alive → AllSuit (alive_steps id documents deletes bytes) files
    → HoldsMarks files id documents deletes alive
alive_held files id documents None bytes alive is suits = sym (same_Some (replicate documents true) alive is)
alive_held files id documents (Some d) bytes alive is suits =
    let set = is_set documents d bytes alive is in
    record { file = bytes; there = suits.0; set = set.0; counted = set.1 }

-- its totals are those that its file of postings tells
abbrev pub AreTold : NamedFiles → Asked → OpenSegment → Type 0
AreTold files x s = (postings : List ℕ) → get files (Part x.segment.meta.id Postings) ≡ Some postings → HaveTotals s.fields postings

module _ (files : NamedFiles) (x : Asked) (f : Found) (s : OpenSegment) (found : IsFound x.segment f) (is : IsReaderOf x f s)
    (suits : AllSuit (segment_steps x.segment f) files) where
  abbrev id : ℕ
  id = x.segment.meta.id

  both : AllSuit (open_steps id f.files f.checks) files × AllSuit (alive_steps id x.segment.meta.documents x.segment.meta.deletes f.alive_file) files
  both =
      suits_both (open_steps id f.files f.checks) (alive_steps id x.segment.meta.documents x.segment.meta.deletes f.alive_file) files
      (open_only id f.files f.checks) suits

  six : HasFiles files id f.files
  six = open_has id f.files f.checks files both.0

  one_held : IsHeld files x s
  one_held = record {
    contents = record { files = f.files; there = six; spelled = is.has.spell };
    marks = is.marks;
    alive = alive_held files id x.segment.meta.documents x.segment.meta.deletes f.alive_file is.marks is.marked both.1;
    cut = is.alive;
  }

  one_told : AreTold files x s
  one_told postings there =
      let same : f.files.postings ≡ postings = same_Some f.files.postings postings (sym six.1.1.0 ∙ there) in
      subst (HaveTotals s.fields) same is.has.totals

-- ---- one segment

module _ (x : Asked) (a b : DirectoryState) where
  -- no file changes, and faults never fall
  pub opens_stay : (r : Result OpenSegment TantivyError) → Opens x r a b → Unchanged a b
  opens_stay r h = one_stays x h.found h.checked a b r h.works

  -- with which errors it ends
  pub opens_so : (e : TantivyError) → Opens x (Err e) a b → IsReadError e
  opens_so e h = one_so x h.found h.checked a b OpenSegment e h.works

  -- a failed reading was counted
  pub opens_rose : Opens x (Err OpenReadError) a b → Rose a.faults b.faults
  opens_rose h = one_rose x h.found h.checked a b OpenSegment h.works

  pub opens_of_schema : (s : OpenSegment) → Opens x (Ok s) a b → IsOf x s
  opens_of_schema s h = one_of x h.found s h.is

  pub opens_held : (s : OpenSegment) → IsTrue a.tells → Opens x (Ok s) a b → IsHeld a.files x s
  opens_held s told h = one_held a.files x h.found s h.checked h.is ((all_went h.works).suits told)

  -- also of the files as they are then
  pub opens_holds : (s : OpenSegment) → IsTrue a.tells → Opens x (Ok s) a b → Holds b.files x.segment.meta.id x.segment.schema (contents_of s)
  opens_holds s told h =
      subst (λ (files : NamedFiles). Holds files x.segment.meta.id x.segment.schema (contents_of s)) (sym (opens_stay (Ok s) h).files) (opens_held s told h).contents

  pub opens_totals : (s : OpenSegment) → IsTrue a.tells → Opens x (Ok s) a b → AreTold a.files x s
  opens_totals s told h = one_told a.files x h.found s h.checked h.is ((all_went h.works).suits told)

  -- a whole segment is not found damaged
  pub opens_undamaged : (e : TantivyError) → Whole a.files x → IsTrue a.tells → Opens x (Err e) a b → IsNoDamage e
  opens_undamaged e whole told h = one_undamaged x h.found h.checked a b OpenSegment e whole told h.works

-- ---- segments, by the steps of each

rose_later : (faults : ℕ) (a m : DirectoryState) → Unchanged a m → Rose m.faults faults → Rose a.faults faults
rose_later faults a m same rose = omega (arith, same.later, rose)

module _ (T : Type 0) (x : Asked) (f : Found) (found : IsFound x.segment f) (rest : List Step) (r : Result T TantivyError)
    (a b : DirectoryState) where
  stay_more : ((m : DirectoryState) → Works {T = T} rest r m b → Unchanged m b)
      → Parts (segment_steps x.segment f) rest r a b → Unchanged a b
  stay_more next (in_first e is first) = one_stays x f found a b (let q : Result T TantivyError = Err e in q) first
  stay_more next (in_next m first after) = then_same a m b (one_stays x f found a m (Ok tt) first) (next m after)

  so_more : ((m : DirectoryState) → Works {T = T} rest r m b → IfErr r IsReadError)
      → Parts (segment_steps x.segment f) rest r a b → IfErr r IsReadError
  so_more next (in_first e is first) =
      subst (λ (q : Result T TantivyError). IfErr q IsReadError) (sym is) (one_so x f found a b T e first)
  so_more next (in_next m first after) = next m after

  rose_more : ((m : DirectoryState) → Works {T = T} rest r m b → IfErr r (λ e. e ≡ OpenReadError → Rose m.faults b.faults))
      → Parts (segment_steps x.segment f) rest r a b → IfErr r (λ e. e ≡ OpenReadError → Rose a.faults b.faults)
  rose_more next (in_first e is first) =
      subst (λ (q : Result T TantivyError). IfErr q (λ e. e ≡ OpenReadError → Rose a.faults b.faults)) (sym is)
      (λ at. one_rose x f found a b T (subst (λ d. Works {T = T} (segment_steps x.segment f) (Err d) a b) at first))
  rose_more next (in_next m first after) =
      if_err r (next m after)
    where
      if_err : (q : Result T TantivyError) → IfErr q (λ e. e ≡ OpenReadError → Rose m.faults b.faults)
          → IfErr q (λ e. e ≡ OpenReadError → Rose a.faults b.faults)
      if_err (Ok y) h = tt
      if_err (Err e) h = λ at. rose_later b.faults a m (one_stays x f found a m (Ok tt) first) (h at)

  whole_more : Whole a.files x → IsTrue a.tells
      → ((m : DirectoryState) → Unchanged a m → Works {T = T} rest r m b → IfErr r IsNoDamage)
      → Parts (segment_steps x.segment f) rest r a b → IfErr r IsNoDamage
  whole_more whole told next (in_first e is first) =
      subst (λ (q : Result T TantivyError). IfErr q IsNoDamage) (sym is) (one_undamaged x f found a b T e whole told first)
  whole_more whole told next (in_next m first after) = next m (one_stays x f found a m (Ok tt) first) after

all_stay : (T : Type 0) (asked : List Asked) (fs : List Found) → AreFound asked fs → (r : Result T TantivyError) (a b : DirectoryState)
    → Works {T = T} (all_steps asked fs) r a b → Unchanged a b
all_stay T [] fs found r a b works = same_state a b works.on.0
all_stay T (x ∷ asked) [] found r a b works = absurd found
all_stay T (x ∷ asked) (f ∷ fs) found r a b works =
    stay_more T x f found.0 (all_steps asked fs) r a b (λ m next. all_stay T asked fs found.1 r m b next)
    (parts_on (segment_steps x.segment f) (all_steps asked fs) r a b works.on)

starved_so : (T : Type 0) (AreSo : TantivyError → Type 0) → AreSo OutOfMemory → (r : Result T TantivyError) (a b : DirectoryState)
    → Works {T = T} [] r a b → IfErr r AreSo
starved_so T AreSo memory (Ok y) a b works = tt
starved_so T AreSo memory (Err e) a b works = subst AreSo (sym works.on.1) memory

all_read : (T : Type 0) (asked : List Asked) (fs : List Found) → AreFound asked fs → (r : Result T TantivyError) (a b : DirectoryState)
    → Works {T = T} (all_steps asked fs) r a b → IfErr r IsReadError
all_read T [] fs found r a b works = starved_so T IsReadError tt r a b works
all_read T (x ∷ asked) [] found r a b works = absurd found
all_read T (x ∷ asked) (f ∷ fs) found r a b works =
    so_more T x f found.0 (all_steps asked fs) r a b (λ m next. all_read T asked fs found.1 r m b next)
    (parts_on (segment_steps x.segment f) (all_steps asked fs) r a b works.on)

all_rose : (T : Type 0) (asked : List Asked) (fs : List Found) → AreFound asked fs → (r : Result T TantivyError) (a b : DirectoryState)
    → Works {T = T} (all_steps asked fs) r a b → IfErr r (λ e. e ≡ OpenReadError → Rose a.faults b.faults)
all_rose T [] fs found r a b works =
    starved_so T (λ e. e ≡ OpenReadError → Rose a.faults b.faults) (λ at. absurd (cc at)) r a b works
all_rose T (x ∷ asked) [] found r a b works = absurd found
all_rose T (x ∷ asked) (f ∷ fs) found r a b works =
    rose_more T x f found.0 (all_steps asked fs) r a b (λ m next. all_rose T asked fs found.1 r m b next)
    (parts_on (segment_steps x.segment f) (all_steps asked fs) r a b works.on)

all_undamaged : (T : Type 0) (asked : List Asked) (fs : List Found) → AreFound asked fs → (r : Result T TantivyError) (a b : DirectoryState)
    → AllByRecursion (Whole a.files) asked → IsTrue a.tells → Works {T = T} (all_steps asked fs) r a b → IfErr r IsNoDamage
all_undamaged T [] fs found r a b whole told works = starved_so T IsNoDamage tt r a b works
all_undamaged T (x ∷ asked) [] found r a b whole told works = absurd found
all_undamaged T (x ∷ asked) (f ∷ fs) found r a b whole told works =
    whole_more T x f found.0 (all_steps asked fs) r a b whole.0 told
    (λ m same next.
    all_undamaged T asked fs found.1 r m b (subst (λ (files : NamedFiles). AllByRecursion (Whole files) asked) (sym same.files) whole.1)
    (subst (λ t. IsTrue t) (sym same.tells) told) next)
    (parts_on (segment_steps x.segment f) (all_steps asked fs) r a b works.on)

-- ---- segments

-- this holds of each segment that is asked for with what was opened of it
abbrev pub EachRead : (Asked → OpenSegment → Type 0) → List Asked → List OpenSegment → Type 0
EachRead P [] [] = Unit {0}
EachRead P [] (s ∷ opened) = ⊥
EachRead P (x ∷ asked) [] = ⊥
EachRead P (x ∷ asked) (s ∷ opened) = P x s × EachRead P asked opened

each_of : (asked : List Asked) (fs : List Found) (opened : List OpenSegment) → AreReadersOf asked fs opened → EachRead IsOf asked opened
each_of [] fs [] are = tt
each_of [] fs (s ∷ opened) are = absurd are
each_of (x ∷ asked) [] opened are = absurd are
each_of (x ∷ asked) (f ∷ fs) [] are = absurd are
each_of (x ∷ asked) (f ∷ fs) (s ∷ opened) are = (one_of x f s are.0, each_of asked fs opened are.1)

module _ (files : NamedFiles) where
  -- what holds of each segment by its own files
  each_by : (P : Asked → OpenSegment → Type 0)
      → ((x : Asked) (f : Found) (s : OpenSegment) → IsFound x.segment f → IsReaderOf x f s → AllSuit (segment_steps x.segment f) files → P x s)
      → (asked : List Asked) (fs : List Found) (opened : List OpenSegment) → AreFound asked fs → AreReadersOf asked fs opened
      → AllSuit (all_steps asked fs) files → EachRead P asked opened
  each_by P one [] fs [] found are suits = tt
  each_by P one [] fs (s ∷ opened) found are suits = absurd are
  each_by P one (x ∷ asked) [] opened found are suits = absurd are
  each_by P one (x ∷ asked) (f ∷ fs) [] found are suits = absurd are
  each_by P one (x ∷ asked) (f ∷ fs) (s ∷ opened) found are suits =
      let both = suits_both (segment_steps x.segment f) (all_steps asked fs) files (segment_only x.segment f) suits in
      (one x f s found.0 are.0 both.0, each_by P one asked fs opened found.1 are.1 both.1)

module _ (asked : List Asked) (a b : DirectoryState) where
  -- no file changes, and faults never fall
  pub segments_stay : (r : Result (List OpenSegment) TantivyError) → OpensSegments asked r a b → Unchanged a b
  segments_stay r h = all_stay (List OpenSegment) asked h.found h.checked r a b h.works

  -- with which errors they end
  pub segments_so : (e : TantivyError) → OpensSegments asked (Err e) a b → IsReadError e
  segments_so e h = all_read (List OpenSegment) asked h.found h.checked (Err e) a b h.works

  -- a failed reading was counted
  pub segments_rose : OpensSegments asked (Err OpenReadError) a b → Rose a.faults b.faults
  segments_rose h = all_rose (List OpenSegment) asked h.found h.checked (Err OpenReadError) a b h.works refl

  pub segments_of_schema : (opened : List OpenSegment) → OpensSegments asked (Ok opened) a b → EachRead IsOf asked opened
  segments_of_schema opened h = each_of asked h.found opened h.are

  pub segments_held : (opened : List OpenSegment) → IsTrue a.tells → OpensSegments asked (Ok opened) a b
      → EachRead (IsHeld a.files) asked opened
  segments_held opened told h =
      each_by a.files (IsHeld a.files) (λ x f s found is suits. one_held a.files x f s found is suits)
      asked h.found opened h.checked h.are ((all_went h.works).suits told)

  pub segments_totals : (opened : List OpenSegment) → IsTrue a.tells → OpensSegments asked (Ok opened) a b
      → EachRead (AreTold a.files) asked opened
  segments_totals opened told h =
      each_by a.files (AreTold a.files) (λ x f s found is suits. one_told a.files x f s found is suits)
      asked h.found opened h.checked h.are ((all_went h.works).suits told)

  -- whole segments are not found damaged
  pub segments_undamaged : (e : TantivyError) → AllByRecursion (Whole a.files) asked → IsTrue a.tells → OpensSegments asked (Err e) a b
      → IsNoDamage e
  segments_undamaged e whole told h =
      all_undamaged (List OpenSegment) asked h.found h.checked (Err e) a b whole told h.works
