-- What the printing of an index says of its directory, and of what it prints.
use Rattle.std.proofs.Common.{◌≡◌, ◌≤◌, ◌∙◌, ℕ, Bool, true, false, List, [], ◌∷◌, ◌++◌, Option, Some, None, Result, Ok, Err, IsTrue, refl, sym, ap, subst, map, arith}
use Rattle.std.specs.Prelude.{IfSome, IsSome, is_some, if◌then◌else◌}
use Rattle.std.specs.FinMap.{get}
use Rattle.std.specs.List.{AllByRecursion}
use Rattle.std.specs.Option.{option_and_then}
use Rattle.std.proofs.lemmas.Option.{same_Some}
use Rattle.seg_index_build.specs.MergedIndices.{listed_segments}
use Rattle.seg_common.specs.FaultCounts.{Rose}
use Rattle.seg_common.specs.declared.name.FileName.TheVariants as name
use Rattle.seg_values.specs.declared.error.TantivyError.{TantivyError}
use Rattle.seg_values.specs.declared.error.TantivyError.TheVariants.{DataCorruption, OpenReadError}
use Rattle.seg_directory.proofs.Exports.{all_went}
use Rattle.seg_directory.specs.Files.{NamedFiles}
use Rattle.seg_directory.specs.DirectoryStates.{DirectoryState}
use Rattle.seg_meta.specs.IndexOfFiles as index
use Rattle.seg_meta.specs.IndexOfFiles.{ListedSegment, Meta}
use Rattle.seg_meta.specs.ParsedMeta.{meta_read}
use Rattle.seg_meta.specs.MetaSteps.{LoadsMetas, load_steps, meta_damage}
use Rattle.seg_meta.specs.Metas.{segment_of}
use Rattle.seg_meta.specs.MetaMeaning.{meta_of}
use Rattle.seg_meta.specs.declared.index_meta.IndexMeta.{IndexMeta}
use Rattle.seg_model.specs.Fields.{Schema}
use Rattle.seg_segment.specs.IndexForms.{segment_forms}
use Rattle.seg_segment.specs.AliveFiles.{HoldsMarks}
use Rattle.seg_segment.specs.ReadErrors.{IsNoDamage, IsReadError}
use Rattle.seg_segment.proofs.Exports.{FindWhole, FindsDamage, OnlyReads, Unchanged, found_whole, reads_rose, reads_so, reads_stay, then_same}
use Rattle.seg_open.specs.OpenSegment.{OpenSegment}
use Rattle.seg_open.specs.OpeningSteps.{Asked, OpensSegments}
use Rattle.seg_open.proofs.Exports.{EachRead, IsHeld, IsOf, Whole, segments_held, segments_of_schema, segments_rose, segments_so, segments_stay, segments_undamaged}
use Rattle.seg_tool.specs.PrintedIndex.{AreReadOf, IsPrinted, IsReadOf, PrintsIndex, ReadsText, all_of, fails, loaded, not_loaded, reads}
use Rattle.seg_tool.specs.Printing.{read_texts}
use Rattle.seg_tool.specs.declared.words.Detail.{Detail}

-- ---- two stretches in which no file changes

pub tells_on : (a b : DirectoryState) → Unchanged a b → IsTrue a.tells → IsTrue b.tells
tells_on a b same told = subst (λ t. IsTrue t) (sym same.tells) told

-- ---- the meta

damage_found : (t : Bool) → FindsDamage (if t then None else Some (DataCorruption name.Meta))
damage_found true = tt
damage_found false = tt

load_only : (bytes : List ℕ) → OnlyReads (load_steps bytes)
load_only bytes = (damage_found (is_some (meta_read bytes)), tt)

is_there : (o : Option (List ℕ)) (meta : Meta) → option_and_then meta_read o ≡ Some meta → IsSome o
is_there None meta is = absurd (cc is)
is_there (Some bytes) meta is = refl

no_damage : (o : Option Meta) (meta : Meta) → o ≡ Some meta → IfSome (if is_some o then None else Some (DataCorruption name.Meta)) IsNoDamage
no_damage None meta is = absurd (cc is)
no_damage (Some m) meta is = tt

load_whole : (files : NamedFiles) (meta : Meta) (bytes : List ℕ) → index.index_of segment_forms files ≡ Some meta → FindWhole files (load_steps bytes)
load_whole files meta bytes is = (
  is_there (get files name.Meta) meta is,
  λ there. (no_damage (meta_read bytes) meta (sym (ap (option_and_then meta_read) there) ∙ is), λ none. tt),
)

module _ (a b : DirectoryState) where
  pub load_stays : (r : Result IndexMeta TantivyError) → LoadsMetas r a b → Unchanged a b
  load_stays r h = reads_stay (load_only h.bytes) h.from_bytes.works

  pub load_so : (e : TantivyError) → LoadsMetas (Err e) a b → IsReadError e
  load_so e h = reads_so (load_only h.bytes) h.from_bytes.works

  pub load_rose : LoadsMetas (Err OpenReadError) a b → Rose a.faults b.faults
  load_rose h = reads_rose (load_only h.bytes) h.from_bytes.works

  -- what is read is what the files say
  pub load_index : (metas : IndexMeta) → IsTrue a.tells → LoadsMetas (Ok metas) a b → index.index_of segment_forms a.files ≡ Some (meta_of metas)
  load_index metas told h = ap (option_and_then meta_read) ((all_went h.from_bytes.works).suits told).0 ∙ h.from_bytes.says

  -- an index that is there is not found damaged
  pub load_undamaged : (e : TantivyError) (meta : Meta) → IsTrue a.tells → index.index_of segment_forms a.files ≡ Some meta
      → LoadsMetas (Err e) a b → IsNoDamage e
  load_undamaged e meta told is h = found_whole told (load_whole a.files meta h.bytes is) h.from_bytes.works

-- ---- the segments

module _ (files : NamedFiles) (schema : Schema) where
  are_read : (listed : List ListedSegment) (opened : List OpenSegment) → EachRead (IsHeld files) (all_of (map (segment_of schema) listed)) opened
      → EachRead IsOf (all_of (map (segment_of schema) listed)) opened → AreReadOf files schema listed opened
  are_read [] [] held of = tt
  are_read [] (s ∷ opened) held of = absurd held
  are_read (l ∷ listed) [] held of = absurd held
  are_read (l ∷ listed) (s ∷ opened) held of = (
    record {
      of_id = of.0.of_id;
      of_schema = of.0.of_schema;
      holds = held.0.contents;
      alive = subst (HoldsMarks files l.id l.documents l.deletes) (sym held.0.cut) held.0.alive;
    },
    are_read listed opened held.1 of.1,
  )

  are_whole : (listed : List ListedSegment) → AllByRecursion (index.IsWhole segment_forms files schema) listed
      → AllByRecursion (Whole files) (all_of (map (segment_of schema) listed))
  are_whole [] whole = tt
  are_whole (l ∷ listed) whole = (whole.0, are_whole listed whole.1)

module _ (front label : List ℕ) (detail : Detail) (asked : List Asked) (a b : DirectoryState) where
  text_stays : (r : Result (List ℕ) TantivyError) → ReadsText front label detail asked r a b → Unchanged a b
  text_stays r (fails e is h) = segments_stay asked a b (Err e) h
  text_stays r (reads opened is h) = segments_stay asked a b (Ok opened) h

  text_fails : (e : TantivyError) → ReadsText front label detail asked (Err e) a b → OpensSegments asked (Err e) a b
  text_fails e (fails d is h) = subst (λ (x : TantivyError). OpensSegments asked (Err x) a b) (sym (cc is)) h
  text_fails e (reads opened is h) = absurd (cc is)

  -- the segments that were opened
  record Opened (text : List ℕ) : Type 0 where
    pub opened : List OpenSegment
    pub is : text ≡ front ++ read_texts label detail opened
    pub opens : OpensSegments asked (Ok opened) a b

  text_reads : (text : List ℕ) → ReadsText front label detail asked (Ok text) a b → Opened text
  text_reads text (fails e is h) = absurd (cc is)
  text_reads text (reads opened is h) = record { opened = opened; is = cc is; opens = h }

-- ---- the index

module _ (front label : List ℕ) (detail : Detail) (a b : DirectoryState) where
  -- no file changes, and faults never fall
  pub prints_stay : (r : Result (List ℕ) TantivyError) → PrintsIndex front label detail r a b → Unchanged a b
  prints_stay r (not_loaded e is load) = load_stays a b (Err e) load
  prints_stay r (loaded metas m load text) =
      then_same a m b (load_stays a m (Ok metas) load) (text_stays front label detail (all_of (listed_segments metas)) m b r text)

  -- with which errors it ends
  pub prints_so : (e : TantivyError) → PrintsIndex front label detail (Err e) a b → IsReadError e
  prints_so e (not_loaded d is load) = subst IsReadError (sym (cc is)) (load_so a b d load)
  prints_so e (loaded metas m load text) =
      segments_so (all_of (listed_segments metas)) m b e (text_fails front label detail (all_of (listed_segments metas)) m b e text)

  -- a failed reading was counted
  pub prints_rose : PrintsIndex front label detail (Err OpenReadError) a b → Rose a.faults b.faults
  prints_rose (not_loaded d is load) = load_rose a b (subst (λ (x : TantivyError). LoadsMetas (Err x) a b) (sym (cc is)) load)
  prints_rose (loaded metas m load text) =
      let rose = segments_rose (all_of (listed_segments metas)) m b (text_fails front label detail (all_of (listed_segments metas)) m b OpenReadError text) in
      omega (arith, rose, (load_stays a m (Ok metas) load).later)

  -- what it prints
  pub prints_told : (text : List ℕ) → IsTrue a.tells → PrintsIndex front label detail (Ok text) a b
      → IsPrinted front label detail a.files text
  prints_told text told (not_loaded e is load) = absurd (cc is)
  prints_told text told (loaded metas m load made) =
      let same = load_stays a m (Ok metas) load in
      let asked = all_of (listed_segments metas) in
      let o = text_reads front label detail asked m b text made in
      record {
        metas = metas;
        is_index = load_index a m metas told load;
        opened = o.opened;
        are_read =
            are_read a.files metas.schema metas.segments o.opened
            (subst (λ (files : NamedFiles). EachRead (IsHeld files) asked o.opened) same.files (segments_held asked m b o.opened (tells_on a m same told) o.opens))
            (segments_of_schema asked m b o.opened o.opens);
        printed = o.is;
      }

  -- an index that is there
  module _ (meta : Meta) (told : IsTrue a.tells) (is_index : index.index_of segment_forms a.files ≡ Some meta) where
    same_meta : (metas : IndexMeta) (m : DirectoryState) → LoadsMetas (Ok metas) a m → meta ≡ meta_of metas
    same_meta metas m load = same_Some meta (meta_of metas) (sym is_index ∙ load_index a m metas told load)

    -- is not found damaged, where its segments are whole
    pub prints_undamaged : (e : TantivyError) → index.AreWhole segment_forms a.files meta → PrintsIndex front label detail (Err e) a b → IsNoDamage e
    prints_undamaged e whole (not_loaded d is load) = subst IsNoDamage (sym (cc is)) (load_undamaged a b d meta told is_index load)
    prints_undamaged e whole (loaded metas m load text) =
        let same = load_stays a m (Ok metas) load in
        let asked = all_of (listed_segments metas) in
        let all = subst (λ (x : Meta). index.AreWhole segment_forms a.files x) (same_meta metas m load) whole in
        segments_undamaged asked m b e
        (subst (λ (files : NamedFiles). AllByRecursion (Whole files) asked) (sym same.files) (are_whole a.files metas.schema metas.segments all))
        (tells_on a m same told) (text_fails front label detail asked m b e text)
