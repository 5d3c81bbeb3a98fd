-- The work index, filled: what its segments are merged to, and files that are not there.
use Rattle.std.proofs.Common.{◌≡◌, ◌≢◌, ◌∙◌, ℕ, ◌+◌, true, List, [], ◌∷◌, ◌++◌, map, length, Option, None, Some, refl, sym, ap, subst, arith}
use Rattle.std.specs.FinMap.{get, len, empty_of_len, get-empty}
use Rattle.std.specs.List.{AllByRecursion}
use Rattle.seg_common.specs.FileNameKeys.{name_cmp}
use Rattle.seg_common.specs.declared.name.FileName.{FileName}
use Rattle.seg_common.specs.declared.name.FileName.TheVariants.{Alive, Meta, Part}
use Rattle.seg_common.specs.declared.name.SegmentComponent.{SegmentComponent}
use Rattle.seg_common.proofs.Lists.{map-map}
use Rattle.seg_directory.specs.Files.{NamedFiles}
use Rattle.seg_meta.specs.IndexOfFiles.{Deletes, ListedSegment}
use Rattle.seg_meta.specs.Metas as metas
use Rattle.seg_meta.specs.Metas.{SegmentParts}
use Rattle.seg_model.specs.Fields.{Schema, Analyzer}
use Rattle.seg_model.specs.Input.{Input}
use Rattle.seg_model.specs.ValidInputs.{settings_fit}
use Rattle.seg_check.specs.AdmittedInputs.{Fits}
use Rattle.seg_segment.specs.SegmentFiles.{AreAbsent, KeepsAllBut}
use Rattle.seg_batches.specs.WrittenSegments.{alive_file, alive_files, six_files}
use Rattle.seg_index_build.specs.DirectoryCalls.{merge_of}
use Rattle.seg_index_build.specs.IndexFiles.{merged_meta, output_id, segments_files, work_ids, work_listed}
use Rattle.seg_index_build.specs.MergedSegments.{AreMerged, first_schema, output_meta_of}
use Rattle.seg_index_build.proofs.FillSteps.{length-batches, listed_are}
use Rattle.seg_index_build.proofs.SegmentIds.{work_many}
use Rattle.seg_index_build.proofs.WorkReadings.{parts_fit, parts_of_one}

-- ---- its segments are merged

-- a list with a member is not empty
has_member : {X : Type 0} (n : ℕ) (xs : List X) → length xs ≡ n + 1 → xs ≡ [] → ⊥
has_member n [] many is = absurd (omega (arith, many))
has_member n (x ∷ xs) many is = cc is

first_is : (schema : Schema) (segments : List ListedSegment) → (segments ≡ [] → ⊥)
    → first_schema (map (metas.segment_of schema) segments) ≡ schema
first_is schema [] some = absurd (some refl)
first_is schema (s ∷ segments) some = refl

mapped_some : {X Y : Type 0} (f : X → Y) (xs : List X) → (xs ≡ [] → ⊥) → map f xs ≡ [] → ⊥
mapped_some f [] some is = some refl
mapped_some f (x ∷ xs) some is = cc is

module _ (analyzer : Analyzer) (input : Input) (fits : Fits analyzer input) where
  listed_ids : map (λ (s : ListedSegment). s.id) (work_listed analyzer input) ≡ work_ids input.ids
  listed_ids =
      listed_are input.schema analyzer (work_ids input.ids) input.cuts input.operations
      (work_many input.cuts input.ids fits.ids)

  some_listed : work_listed analyzer input ≡ [] → ⊥
  some_listed is =
      has_member (length input.cuts) (work_ids input.ids) (work_many input.cuts input.ids fits.ids)
      (sym listed_ids ∙ ap (map (λ (s : ListedSegment). s.id)) is)

  -- of the schema of the input
  pub work_schema : first_schema (map (metas.segment_of input.schema) (work_listed analyzer input)) ≡ input.schema
  work_schema = first_is input.schema (work_listed analyzer input) some_listed

  -- what the output index says about itself
  pub work_merged_meta : (documents : ℕ) → output_meta_of (merge_of analyzer input) documents
      ≡ merged_meta input.settings input.schema (work_ids input.ids) (output_id input.ids) documents
  work_merged_meta documents =
      ap (λ (s : Schema). merged_meta input.settings s (map (λ (p : SegmentParts). p.meta.id) (map (metas.segment_of input.schema) (work_listed analyzer input))) (output_id input.ids) documents) work_schema
      ∙ ap (λ (ids : List ℕ). merged_meta input.settings input.schema ids (output_id input.ids) documents)
      (map-map (metas.segment_of input.schema) (λ (p : SegmentParts). p.meta.id) (work_listed analyzer input) ∙ listed_ids)

  -- nothing refuses them
  pub are_merged : settings_fit input.settings ≡ true → AreMerged (merge_of analyzer input)
  are_merged settings = record {
    some = mapped_some (metas.segment_of input.schema) (work_listed analyzer input) some_listed;
    of_one =
        subst
        (λ (schema : Schema). AllByRecursion (λ (s : SegmentParts). s.schema ≡ schema) (map (metas.segment_of input.schema) (work_listed analyzer input)))
        (sym work_schema) (parts_of_one input.schema (work_listed analyzer input));
    fit =
        parts_fit input.schema (length input.operations) input.filters (work_ids input.ids) _
        (work_many input.cuts input.ids fits.ids ∙ sym (length-batches input.schema analyzer 0 input.cuts input.operations))
        fits.filters;
    settings = settings;
  }

-- ---- files that are not there
all-both : {X : Type 0} (P : X → Type 0) (xs ys : List X) → AllByRecursion P xs → AllByRecursion P ys
    → AllByRecursion P (xs ++ ys)
all-both P [] ys h k = k
all-both P (x ∷ xs) ys h k = (h.0, all-both P xs ys h.1 k)

module _ (old new : NamedFiles) (none : len old ≡ 0) (kept : KeepsAllBut (Meta ∷ []) old new) where
  abbrev IsAbsent : FileName → Type 0
  IsAbsent name = get new name ≡ None

  absent : (name : FileName) → name ≢ Meta → IsAbsent name
  absent name other =
      kept name (other, tt) ∙ ap (λ (fs : NamedFiles). get fs name) (empty_of_len old none) ∙ get-empty name_cmp name

  part_absent : (id : ℕ) (which : SegmentComponent) → IsAbsent (Part id which)
  part_absent id which = absent (Part id which) no_part
    where
      no_part : Part id which ≢ Meta
      no_part e = cc e

  six_absent : (ids : List ℕ) → AllByRecursion IsAbsent (six_files ids)
  six_absent [] = tt
  six_absent (id ∷ ids) = (
    part_absent id _,
    (
      part_absent id _,
      (part_absent id _, (part_absent id _, (part_absent id _, (part_absent id _, six_absent ids)))),
    ),
  )

  alive_absent : (id : ℕ) (d : Option Deletes) → AllByRecursion IsAbsent (alive_file id d)
  alive_absent id None = tt
  alive_absent id (Some d) = (absent (Alive id d.stamp) no_alive, tt)
    where
      no_alive : Alive id d.stamp ≢ Meta
      no_alive e = cc e

  all_alive_absent : (segments : List ListedSegment) → AllByRecursion IsAbsent (alive_files segments)
  all_alive_absent [] = tt
  all_alive_absent (s ∷ segments) =
      all-both IsAbsent (alive_file s.id s.deletes) (alive_files segments) (alive_absent s.id s.deletes)
      (all_alive_absent segments)

  -- in a directory without files those of segments aren't there, also after a new meta
  pub segments_absent : (segments : List ListedSegment) → AreAbsent (segments_files segments) new
  segments_absent segments =
      all-both IsAbsent (six_files (map (λ s. s.id) segments)) (alive_files segments)
      (six_absent (map (λ s. s.id) segments)) (all_alive_absent segments)
