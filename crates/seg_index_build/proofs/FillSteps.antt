-- The segments of batches as they are listed, and what stays of their files while the work index is filled.
use Rattle.std.proofs.Common.{◌≡◌, ◌≢◌, ◌<◌, ◌^◌, ℕ, suc, ◌+◌, ◌-◌, Bool, true, List, [], ◌∷◌, ◌++◌, length, map, drop, refl, sym, ap, ◌∙◌, subst, None, Some, Option, arith}
use Rattle.std.specs.Prelude.{◌&&◌, ◌||◌, not, nat_eq}
use Rattle.std.specs.FinMap.{get}
use Rattle.std.specs.List.{AllByRecursion, list_any}
use Rattle.std.proofs.lemmas.List.{length-map}
use Rattle.seg_common.specs.declared.name.FileName.TheVariants.{Alive, Meta, Part}
use Rattle.seg_common.specs.declared.name.SegmentComponent.{SegmentComponent}
use Rattle.seg_common.specs.declared.name.SegmentComponent.TheVariants as component
use Rattle.seg_common.proofs.Numbers.{nat_eq-sym}
use Rattle.seg_common.proofs.Lists.{all_back, all_front}
use Rattle.seg_directory.specs.Files.{NamedFiles}
use Rattle.seg_meta.specs.SavableMetas as saving
use Rattle.seg_model.specs.Contents.{Contents}
use Rattle.seg_model.specs.Fields.{Schema, Analyzer}
use Rattle.seg_meta.specs.IndexOfFiles.{Deletes, ListedSegment}
use Rattle.seg_model.specs.Operations.{Operation, Batch, batches_from}
use Rattle.seg_model.specs.ValidInputs.{are_distinct}
use Rattle.seg_segment.specs.FileContents.{Holds}
use Rattle.seg_segment.specs.SegmentFiles.{AreAbsent, KeepsAllBut}
use Rattle.seg_batches.specs.BatchTotals.{AllHaveTotals, documents_total}
use Rattle.seg_batches.specs.WrittenSegments.{AllStand, AllTellAlive, TellsAlive, WrittenSegment, alive_file, alive_files, all_listed, deletes_of, listed, segments_of, six_files}
use Rattle.seg_segment.proofs.Exports.{held_on}
use Rattle.seg_batches.proofs.Exports.{totals_on}
use Rattle.seg_index_build.specs.IndexFiles.{listed_of, segments_files, written_of}

-- ---- ids

abbrev pub ids_of : List WrittenSegment → List ℕ
ids_of segments = map (λ (s : WrittenSegment). s.id) segments

pub length-batches : (schema : Schema) (analyzer : Analyzer) (from : ℕ) (cuts : List ℕ) (operations : List Operation)
    → length (batches_from schema analyzer from cuts operations) ≡ length cuts + 1
length-batches schema analyzer from [] operations = refl
length-batches schema analyzer from (cut ∷ cuts) operations =
    counted (length cuts) (length-batches schema analyzer cut cuts (drop (cut - from) operations))
  where
    counted : {n : ℕ} (m : ℕ) → n ≡ m + 1 → suc n ≡ suc m + 1
    counted m e = omega (arith, e)

-- there is a segment for each id
pub ids_written : (ids : List ℕ) (batches : List Batch) → length ids ≡ length batches
    → ids_of (segments_of ids batches) ≡ ids
ids_written [] batches h = refl
ids_written (id ∷ ids) [] h = absurd (omega (arith, h))
ids_written (id ∷ ids) (batch ∷ batches) h = ap (λ l. id ∷ l) (ids_written ids batches (omega (arith, h)))

pub listed_ids : (stamp : ℕ) (segments : List WrittenSegment)
    → map (λ (s : ListedSegment). s.id) (all_listed stamp segments) ≡ ids_of segments
listed_ids stamp [] = refl
listed_ids stamp (s ∷ segments) = ap (λ l. s.id ∷ l) (listed_ids stamp segments)

-- ---- as a meta lists them

any_listed : (stamp id : ℕ) (segments : List WrittenSegment)
    → list_any (λ (y : ListedSegment). nat_eq y.id id) (all_listed stamp segments) ≡ list_any (nat_eq id) (ids_of segments)
any_listed stamp id [] = refl
any_listed stamp id (s ∷ segments) =
    ap (λ b. b || list_any (λ (y : ListedSegment). nat_eq y.id id) (all_listed stamp segments)) (nat_eq-sym s.id id)
    ∙ ap (λ b. nat_eq id s.id || b) (any_listed stamp id segments)

distinct_listed : (stamp : ℕ) (segments : List WrittenSegment)
    → saving.are_distinct (all_listed stamp segments) ≡ are_distinct (ids_of segments)
distinct_listed stamp [] = refl
distinct_listed stamp (s ∷ segments) =
    ap (λ b. not b && saving.are_distinct (all_listed stamp segments)) (any_listed stamp s.id segments)
    ∙ ap (λ b. not (list_any (nat_eq s.id) (ids_of segments)) && b) (distinct_listed stamp segments)

-- they are a list of a meta
pub meta_list : (stamp : ℕ) (segments : List WrittenSegment) (list : List ListedSegment)
    → list ≡ all_listed stamp segments → length segments < 2 ^ 32 → are_distinct (ids_of segments) ≡ true
    → saving.IsMetaList list
meta_list stamp segments list is few distinct =
    subst (λ (l : List ListedSegment). saving.IsMetaList l) (sym is)
    (subst (λ n. n < 2 ^ 32) (sym (length-map segments (listed stamp))) few, distinct_listed stamp segments ∙ distinct)

-- ---- names

part-not-meta : (id : ℕ) (which : SegmentComponent) → Part id which ≢ Meta
part-not-meta id which is = cc

part-not-alive : (id : ℕ) (which : SegmentComponent) (other stamp : ℕ) → Part id which ≢ Alive other stamp
part-not-alive id which other stamp is = cc

pub alive-not-meta : (id stamp : ℕ) → Alive id stamp ≢ Meta
alive-not-meta id stamp is = cc

alive-not-part : (id stamp other : ℕ) (which : SegmentComponent) → Alive id stamp ≢ Part other which
alive-not-part id stamp other which is = cc

none_alive : (id : ℕ) (which : SegmentComponent) (segments : List ListedSegment)
    → AllByRecursion (λ name. Part id which ≢ name) (alive_files segments)
none_alive id which [] = tt
none_alive id which (s ∷ segments) = by s.deletes (none_alive id which segments)
  where
    by : (d : Option Deletes) → AllByRecursion (λ name. Part id which ≢ name) (alive_files segments)
        → AllByRecursion (λ name. Part id which ≢ name) (alive_file s.id d ++ alive_files segments)
    by None rest = rest
    by (Some d) rest = (part-not-alive id which s.id d.stamp, rest)

-- none of the six files of segments is an alive file
pub none_of_six : (id stamp : ℕ) (ids : List ℕ) → AllByRecursion (λ name. Alive id stamp ≢ name) (six_files ids)
none_of_six id stamp [] = tt
none_of_six id stamp (other ∷ ids) = (
  alive-not-part id stamp other component.FieldNorms,
  (
    alive-not-part id stamp other component.FastFields,
    (
      alive-not-part id stamp other component.Terms,
      (
        alive-not-part id stamp other component.Postings,
        (
          alive-not-part id stamp other component.Positions,
          (alive-not-part id stamp other component.Store, none_of_six id stamp ids),
        ),
      ),
    ),
  ),
)

-- ---- what stays

-- alive files that were absent are still after the six files of each segment
pub alive_absent : (segments : List ListedSegment) (ids : List ℕ) (old new : NamedFiles)
    → KeepsAllBut (six_files ids) old new → AreAbsent (alive_files segments) old → AreAbsent (alive_files segments) new
alive_absent [] ids old new kept none = tt
alive_absent (s ∷ segments) ids old new kept none = by s.deletes (alive_absent segments ids old new kept) none
  where
    by : (d : Option Deletes) → (AreAbsent (alive_files segments) old → AreAbsent (alive_files segments) new)
        → AreAbsent (alive_file s.id d ++ alive_files segments) old
        → AreAbsent (alive_file s.id d ++ alive_files segments) new
    by None rest h = rest h
    by (Some d) rest h = (kept (Alive s.id d.stamp) (none_of_six s.id d.stamp ids) ∙ h.0, rest h.1)

-- the six files of each segment stay after the alive files and the meta
module _ (segments : List ListedSegment) (old new : NamedFiles) (kept : KeepsAllBut (Meta ∷ alive_files segments) old new) where
  part_kept : (id : ℕ) (which : SegmentComponent) → get new (Part id which) ≡ get old (Part id which)
  part_kept id which = kept (Part id which) (part-not-meta id which, none_alive id which segments)

  holds_kept : (id : ℕ) (schema : Schema) (contents : Contents) → Holds old id schema contents
      → Holds new id schema contents
  holds_kept id schema contents h = held_on id old new (part_kept id) schema contents h

  pub stand_kept : (schema : Schema) (analyzer : Analyzer) (ids : List ℕ) (batches : List Batch)
      → AllStand schema analyzer old ids batches → AllStand schema analyzer new ids batches
  stand_kept schema analyzer [] batches h = tt
  stand_kept schema analyzer (id ∷ ids) [] h = tt
  stand_kept schema analyzer (id ∷ ids) (batch ∷ batches) h = (
    record {
      contents =
          h.0.contents;
      read = h.0.read;
      held = holds_kept id schema h.0.contents h.0.held;
    },
    stand_kept schema analyzer ids batches h.1,
  )

  pub totals_kept : (schema : Schema) (analyzer : Analyzer) (ids : List ℕ) (batches : List Batch)
      → AllHaveTotals schema analyzer old ids batches → AllHaveTotals schema analyzer new ids batches
  totals_kept schema analyzer [] batches h = tt
  totals_kept schema analyzer (id ∷ ids) [] h = tt
  totals_kept schema analyzer (id ∷ ids) (batch ∷ batches) h = (
    totals_on id schema (documents_total schema analyzer batch.documents) old new (part_kept id component.Postings) h.0,
    totals_kept schema analyzer ids batches h.1,
  )

-- the alive files stay after the meta
module _ (old new : NamedFiles) (kept : KeepsAllBut (Meta ∷ []) old new) where
  tells_kept : (id documents : ℕ) (alive : List Bool) (d : Option Deletes) → TellsAlive old id documents alive d
      → TellsAlive new id documents alive d
  tells_kept id documents alive None h = tt
  tells_kept id documents alive (Some d) h = record {
    file = h.file;
    there = kept (Alive id d.stamp) (alive-not-meta id d.stamp, tt) ∙ h.there;
    set = h.set;
    counted = h.counted;
  }

  pub tell_kept : (stamp : ℕ) (segments : List WrittenSegment) → AllTellAlive old stamp segments
      → AllTellAlive new stamp segments
  tell_kept stamp [] h = tt
  tell_kept stamp (s ∷ segments) h =
      (tells_kept s.id s.documents s.alive (deletes_of stamp s.alive) h.0, tell_kept stamp segments h.1)

-- ---- the segments of the batches

module _ (schema : Schema) (analyzer : Analyzer) (ids cuts : List ℕ) (operations : List Operation) (counted : length ids ≡ length cuts + 1) where
  pub ids_are : ids_of (written_of schema analyzer ids cuts operations) ≡ ids
  ids_are =
      ids_written ids (batches_from schema analyzer 0 cuts operations)
      (counted ∙ sym (length-batches schema analyzer 0 cuts operations))

  pub as_many : length (written_of schema analyzer ids cuts operations) ≡ length ids
  as_many =
      sym (length-map (written_of schema analyzer ids cuts operations) (λ (s : WrittenSegment). s.id)) ∙ ap length
      ids_are

  pub listed_are : map (λ (s : ListedSegment). s.id) (listed_of schema analyzer ids cuts operations) ≡ ids
  listed_are = listed_ids (length operations) (written_of schema analyzer ids cuts operations) ∙ ids_are

-- where none of all files is there, none of the six is, and no alive file
pub six_absent : (segments : List ListedSegment) (ids : List ℕ) (files : NamedFiles)
    → map (λ (s : ListedSegment). s.id) segments ≡ ids → AreAbsent (segments_files segments) files
    → AreAbsent (six_files ids) files
six_absent segments ids files same none =
    subst (λ (ns : List ℕ). AreAbsent (six_files ns) files) same
    (all_front (λ name. get files name ≡ None) (six_files (map (λ (s : ListedSegment). s.id) segments))
    (alive_files segments) none)

pub no_alive_file : (segments : List ListedSegment) (files : NamedFiles) → AreAbsent (segments_files segments) files
    → AreAbsent (alive_files segments) files
no_alive_file segments files none =
    all_back (λ name. get files name ≡ None) (six_files (map (λ (s : ListedSegment). s.id) segments))
    (alive_files segments) none
