-- With which errors the merge of indices ends.
use Rattle.std.proofs.Common.{◌≡◌, ◌≢◌, ◌∙◌, ℕ, IsTrue, map, List, [], ◌∷◌, None, Some, Result, Ok, Err, refl, sym, ap, subst, inl, inr, arith}
use Rattle.std.specs.Prelude.{IfErr, is_some}
use Rattle.std.specs.FinMap.{len}
use Rattle.std.proofs.lemmas.Bool.{false≢true}
use Rattle.seg_segment.proofs.Exports.{failing, same_error}
use Rattle.seg_common.specs.FaultCounts.{Rose}
use Rattle.seg_values.specs.declared.error.ArgumentCause.TheVariants.{DifferentSettings, Documents, NoIndices, Numbers}
use Rattle.seg_values.specs.declared.error.TantivyError.{TantivyError}
use Rattle.seg_values.specs.declared.error.TantivyError.TheVariants.{SchemaError, InvalidArgument, IndexAlreadyExists, OpenReadError, OpenWriteError, IoError, DataCorruption, SystemError, FieldNotFound, OutOfMemory}
use Rattle.seg_directory.proofs.Exports.{all_went, never_there}
use Rattle.seg_directory.specs.DirectoryStates.{DirectoryState}
use Rattle.seg_meta.specs.IndexOfFiles.{Meta}
use Rattle.seg_meta.specs.declared.index_meta.IndexMeta.{IndexMeta}
use Rattle.seg_open.specs.Answers.{seen_as}
use Rattle.seg_open.specs.OpenSegment.{OpenSegment, kept_count}
use Rattle.seg_open.specs.OpeningSteps.{IsNoDamage, IsReadError}
use Rattle.seg_merger.specs.Merger.{too_many}
use Rattle.seg_index_build.specs.MergedSegments.{FillsOutput, IsRefusal as IsSegmentsRefusal}
use Rattle.seg_index_build.proofs.WriteErrors.{IsWriteError, calls_so, so_before, write_undamaged}
use Rattle.seg_index_build.proofs.MergeErrors.{argument_refuses, filling_fresh, filling_so, too_many_told}
use Rattle.seg_index_build.proofs.MergeOutcomes.{cause_of, merged_refusal, one_only, IsArgument}
use Rattle.seg_index_build.proofs.BuildRefusals.{read_exists, refusal_undamaged}
use Rattle.seg_index_build.specs.MergedIndices.{Begins, IsRefusal, IsUnlike, MergesIndices, MergesSources, Places, alike, asked_of_index, filled, indices_input, merges, not_begun, not_few, not_opened, refuses, starves, unlike}
use Rattle.seg_index_build.specs.IndexMergeAnswers.{AnyRose, CanBeMerged, IsMergeError, SourcesAreWhole}
use Rattle.seg_index_build.specs.Sources.{AllTell, OpensSources, files_of}
use Rattle.seg_index_build.proofs.OpenedSources.{sources_few, sources_held, sources_rose, sources_so, sources_undamaged}
use Rattle.seg_index_build.proofs.MergedIndices.{not_both}

-- ---- where it ends

data Ends (indices : List IndexMeta) (id : ℕ) (e : TantivyError) (a b : Places) : Type 0 where
  by_refusal : IsRefusal indices (indices_input indices id) e → Ends indices id e a b
  by_memory : e ≡ OutOfMemory → Ends indices id e a b
  at_beginning : Begins (indices_input indices id) (Err e) a.output b.output → Ends indices id e a b
  at_opening : OpensSources (map asked_of_index indices) (Err e) a.sources b.sources → Ends indices id e a b
  at_counting : (opened : List OpenSegment) → OpensSources (map asked_of_index indices) (Ok opened) a.sources b.sources
      → too_many (kept_count opened) ≡ Some e → Ends indices id e a b
  at_filling : (opened : List OpenSegment) (begun : DirectoryState)
      → Begins (indices_input indices id) (Ok tt) a.output begun
      → OpensSources (map asked_of_index indices) (Ok opened) a.sources b.sources
      → FillsOutput {T = Meta} (indices_input indices id) opened (Err e) begun b.output → Ends indices id e a b

module _ (indices : List IndexMeta) (id : ℕ) (e : TantivyError) (a b : Places) where
  ends_sources : MergesSources (indices_input indices id) (map asked_of_index indices) (Err e) a b → Ends indices id e a b
  ends_sources (not_begun d is begins stay) =
      at_beginning
      (subst (λ (x : TantivyError). Begins (indices_input indices id) (Err x) a.output b.output) (sym (same_error Meta e d is)) begins)
  ends_sources (not_opened d is begins opens) =
      at_opening
      (subst (λ (x : TantivyError). OpensSources (map asked_of_index indices) (Err x) a.sources b.sources) (sym (same_error Meta e d is)) opens)
  ends_sources (not_few d opened is begins opens many) =
      at_counting opened opens (many ∙ ap (λ (x : TantivyError). Some x) (sym (same_error Meta e d is)))
  ends_sources (filled opened begun begins opens few last) = at_filling opened begun begins opens last.fills

  merge_ends : MergesIndices indices id (Err e) a b → Ends indices id e a b
  merge_ends (unlike d why is same) = by_refusal (inl (subst (IsUnlike indices) (sym (same_error Meta e d is)) why))
  merge_ends (alike are (starves is same)) = by_memory (same_error Meta e OutOfMemory is)
  merge_ends (alike are (refuses d why is same)) =
      by_refusal
      (inr (are, subst (λ (x : TantivyError). IsSegmentsRefusal (indices_input indices id) (indices_input indices id).segments (Some x)) (sym (same_error Meta e d is)) why))
  merge_ends (alike are (merges why reads h)) = ends_sources h

-- ---- which errors these are

-- a refusal tells a cause
unlike_cause : (indices : List IndexMeta) (e : TantivyError) → IsUnlike indices e → IsArgument e
unlike_cause [] e why = (NoIndices, why)
unlike_cause (i ∷ indices) e why = (DifferentSettings, why.1)

refusal_cause : (indices : List IndexMeta) (id : ℕ) (e : TantivyError) → IsRefusal indices (indices_input indices id) e → IsArgument e
refusal_cause indices id e (inl why) = unlike_cause indices e why
refusal_cause indices id e (inr why) = cause_of (indices_input indices id) (indices_input indices id).segments e why.1

of_output : (indices : List IndexMeta) (id : ℕ) (e : TantivyError) (a b : Places)
    → IsWriteError e a.output.faults b.output.faults → IsMergeError indices id a b e
of_output indices id OpenReadError a b so = inr so
of_output indices id OpenWriteError a b so = so
of_output indices id IoError a b so = so
of_output indices id SystemError a b so = absurd so
of_output indices id FieldNotFound a b so = absurd so
of_output indices id (SchemaError cause) a b so = absurd so
of_output indices id (InvalidArgument cause) a b so = absurd so
of_output indices id IndexAlreadyExists a b so = tt
of_output indices id (DataCorruption name) a b so = tt
of_output indices id OutOfMemory a b so = tt

of_reading : (indices : List IndexMeta) (id : ℕ) (e : TantivyError) (a b : Places) → IsReadError e
    → (e ≡ OpenReadError → AnyRose a.sources b.sources) → IsMergeError indices id a b e
of_reading indices id OpenReadError a b so rose = inl (rose refl)
of_reading indices id OpenWriteError a b so rose = absurd so
of_reading indices id IoError a b so rose = absurd so
of_reading indices id SystemError a b so rose = absurd so
of_reading indices id FieldNotFound a b so rose = absurd so
of_reading indices id (SchemaError cause) a b so rose = absurd so
of_reading indices id (InvalidArgument cause) a b so rose = absurd so
of_reading indices id IndexAlreadyExists a b so rose = tt
of_reading indices id (DataCorruption name) a b so rose = tt
of_reading indices id OutOfMemory a b so rose = tt

-- of those of writing only memory is left, where nothing fails and no file is there
write_left : (e : TantivyError) (m n : ℕ) → IsWriteError e m n → (Rose m n → ⊥) → e ≢ IndexAlreadyExists → e ≡ OutOfMemory
write_left OutOfMemory m n so sound fresh = refl
write_left OpenReadError m n so sound fresh = absurd (sound so)
write_left OpenWriteError m n so sound fresh = absurd (sound so)
write_left IoError m n so sound fresh = absurd (sound so)
write_left IndexAlreadyExists m n so sound fresh = absurd (fresh refl)
write_left SystemError m n so sound fresh = absurd so
write_left FieldNotFound m n so sound fresh = absurd so
write_left (SchemaError cause) m n so sound fresh = absurd so
write_left (InvalidArgument cause) m n so sound fresh = absurd so
write_left (DataCorruption name) m n so sound fresh = absurd so

-- and of those of reading, where nothing is damaged
read_left : (e : TantivyError) → IsReadError e → (e ≡ OpenReadError → ⊥) → IsNoDamage e → e ≡ OutOfMemory
read_left OutOfMemory so sound undamaged = refl
read_left OpenReadError so sound undamaged = absurd (sound refl)
read_left (DataCorruption name) so sound undamaged = absurd undamaged
read_left OpenWriteError so sound undamaged = absurd so
read_left IoError so sound undamaged = absurd so
read_left IndexAlreadyExists so sound undamaged = absurd so
read_left SystemError so sound undamaged = absurd so
read_left FieldNotFound so sound undamaged = absurd so
read_left (SchemaError cause) so sound undamaged = absurd so
read_left (InvalidArgument cause) so sound undamaged = absurd so

module _ (indices : List IndexMeta) (id : ℕ) (e : TantivyError) (a b : Places) where
  beginning_so : Begins (indices_input indices id) (Err e) a.output b.output → IsWriteError e a.output.faults b.output.faults
  beginning_so h = calls_so {T = Unit {0}} e (tt, (tt, (tt, tt))) h

  count_cause : (opened : List OpenSegment) → too_many (kept_count opened) ≡ Some e → InvalidArgument Documents ≡ e
  count_cause opened many = (too_many_told (kept_count opened) e many).1

  ends_error : Ends indices id e a b → IsMergeError indices id a b e
  ends_error (by_refusal why) =
      let argument = refusal_cause indices id e why in
      subst (λ (x : TantivyError). IsMergeError indices id a b x) (sym argument.1)
      (inl (subst (λ (x : TantivyError). IsRefusal indices (indices_input indices id) x) argument.1 why))
  ends_error (by_memory is) = subst (λ (x : TantivyError). IsMergeError indices id a b x) (sym is) tt
  ends_error (at_beginning h) = of_output indices id e a b (beginning_so h)
  ends_error (at_opening h) =
      of_reading indices id e a b (sources_so indices e a.sources b.sources h) (sources_rose indices e a.sources b.sources h)
  ends_error (at_counting opened opens many) =
      subst (λ (x : TantivyError). IsMergeError indices id a b x) (count_cause opened many) (inr (inl refl))
  ends_error (at_filling opened begun begins opens h) = elim (filling_so {T = Meta} (indices_input indices id) opened e begun b.output h) [
    | inl mixed ↦ subst (λ (x : TantivyError). IsMergeError indices id a b x) mixed.0 (inr (inr refl))
    | inr so ↦ of_output indices id e a b (so_before e a.output.faults begun.faults b.output.faults (all_went begins).later so)
  ]

  ends_undamaged : AllTell a.sources → SourcesAreWhole (files_of a.sources) indices → Ends indices id e a b → IsNoDamage e
  ends_undamaged told whole (by_refusal why) = subst IsNoDamage (sym (refusal_cause indices id e why).1) tt
  ends_undamaged told whole (by_memory is) = subst IsNoDamage (sym is) tt
  ends_undamaged told whole (at_beginning h) = write_undamaged e _ _ (beginning_so h)
  ends_undamaged told whole (at_opening h) = sources_undamaged indices e a.sources b.sources h told whole
  ends_undamaged told whole (at_counting opened opens many) =
      refusal_undamaged e (argument_refuses Documents e (count_cause opened many))
  ends_undamaged told whole (at_filling opened begun begins opens h) = elim (filling_so {T = Meta} (indices_input indices id) opened e begun b.output h) [
    | inl mixed ↦ refusal_undamaged e (argument_refuses Numbers e mixed.0)
    | inr so ↦ write_undamaged e _ _ so
  ]

  beginning_fresh : IsTrue a.output.tells → len a.output.files ≡ 0
      → Begins (indices_input indices id) (Err e) a.output b.output → e ≢ IndexAlreadyExists
  beginning_fresh told none h is = never_there told (sym none, (tt, (tt, tt))) h (ap (failing (Unit {0})) is)

  ends_fresh : IsTrue a.output.tells → len a.output.files ≡ 0 → Ends indices id e a b → e ≢ IndexAlreadyExists
  ends_fresh told none (by_refusal why) is = cc (sym (refusal_cause indices id e why).1 ∙ is)
  ends_fresh told none (by_memory memory) is = cc (sym memory ∙ is)
  ends_fresh told none (at_beginning h) is = beginning_fresh told none h is
  ends_fresh told none (at_opening h) is = read_exists e (sources_so indices e a.sources b.sources h) is
  ends_fresh told none (at_counting opened opens many) is = cc (count_cause opened many ∙ is)
  ends_fresh told none (at_filling opened begun begins opens h) is =
      filling_fresh {T = Meta} (indices_input indices id) e opened a.output begun b.output told none begins h is

  not_refused : CanBeMerged indices id a b → IsRefusal indices (indices_input indices id) e → ⊥
  not_refused can (inl why) = not_both indices e why can.alike
  not_refused can (inr why) =
      absurd (cc (one_only (indices_input indices id) (indices_input indices id).segments (Some e) None why.1 (merged_refusal (indices_input indices id) can.merged)))

  ends_starved : CanBeMerged indices id a b → Ends indices id e a b → e ≡ OutOfMemory
  ends_starved can (by_refusal why) = absurd (not_refused can why)
  ends_starved can (by_memory is) = is
  ends_starved can (at_beginning h) =
      write_left e _ _ (beginning_so h) can.output_sound (beginning_fresh can.output_tells can.output_empty h)
  ends_starved can (at_opening h) =
      read_left e (sources_so indices e a.sources b.sources h)
      (λ is. can.sources_sound (sources_rose indices e a.sources b.sources h is))
      (sources_undamaged indices e a.sources b.sources h can.sources_tell can.whole)
  ends_starved can (at_counting opened opens many) =
      let few = sources_few indices a.sources b.sources opened opens in
      let count = (too_many_told (kept_count opened) e many).0 in
      absurd (omega (arith, few, count, can.few))
  ends_starved can (at_filling opened begun begins opens h) = elim (filling_so {T = Meta} (indices_input indices id) opened e begun b.output h) [
    | inl mixed ↦
        absurd (false≢true (sym (ap is_some mixed.1) ∙ can.joins opened (sources_held indices a.sources b.sources opened can.sources_tell opens)))
    | inr so ↦
        write_left e _ _ (so_before e a.output.faults begun.faults b.output.faults (all_went begins).later so) can.output_sound
        (filling_fresh {T = Meta} (indices_input indices id) e opened a.output begun b.output can.output_tells can.output_empty begins h)
  ]

-- ---- what is told of any answer

module _ {T : Type 0} (f : T → Meta) (indices : List IndexMeta) (id : ℕ) (a b : Places) where
  pub said_errors : (r : Result T TantivyError) → MergesIndices indices id (seen_as f r) a b → IfErr r (IsMergeError indices id a b)
  said_errors (Ok x) h = tt
  said_errors (Err e) h = ends_error indices id e a b (merge_ends indices id e a b h)

  pub said_undamaged : (r : Result T TantivyError) → MergesIndices indices id (seen_as f r) a b → AllTell a.sources
      → SourcesAreWhole (files_of a.sources) indices → IfErr r IsNoDamage
  said_undamaged (Ok x) h told whole = tt
  said_undamaged (Err e) h told whole = ends_undamaged indices id e a b told whole (merge_ends indices id e a b h)

  pub said_fresh : (r : Result T TantivyError) → MergesIndices indices id (seen_as f r) a b → IsTrue a.output.tells
      → len a.output.files ≡ 0 → r ≢ Err IndexAlreadyExists
  said_fresh (Ok x) h told none at = cc at
  said_fresh (Err e) h told none at = ends_fresh indices id e a b told none (merge_ends indices id e a b h) (cc at)

  pub said_complete : (r : Result T TantivyError) → MergesIndices indices id (seen_as f r) a b → CanBeMerged indices id a b
      → IfErr r (λ e. e ≡ OutOfMemory)
  said_complete (Ok x) h can = tt
  said_complete (Err e) h can = ends_starved indices id e a b can (merge_ends indices id e a b h)
