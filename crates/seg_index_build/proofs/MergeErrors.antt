-- With which errors the merge of segments ends.
use Rattle.std.proofs.Common.{◌≡◌, ◌≢◌, ◌≤◌, ◌<◌, ◌^◌, ◌∙◌, ℕ, Bool, true, false, List, IsTrue, nat_lt, None, Some, Ok, Err, refl, sym, ap, subst, inl, inr, arith}
use Rattle.std.specs.FinMap.{len}
use Rattle.std.specs.Prelude.{◌⊎◌, is_some}
use Rattle.std.proofs.lemmas.Bool.{false≢true, ltb-false}
use Rattle.std.proofs.lemmas.Bool.Decides.{nat_tests}
use Rattle.seg_common.specs.FaultCounts.{Rose}
use Rattle.seg_values.specs.declared.error.ArgumentCause.{ArgumentCause}
use Rattle.seg_values.specs.declared.error.ArgumentCause.TheVariants.{Documents, Numbers}
use Rattle.seg_values.specs.declared.error.TantivyError.{TantivyError}
use Rattle.seg_values.specs.declared.error.TantivyError.TheVariants.{SchemaError, InvalidArgument, IndexAlreadyExists, OpenReadError, OpenWriteError, IoError, DataCorruption, SystemError, FieldNotFound, OutOfMemory}
use Rattle.seg_directory.proofs.Exports.{all_went, never_there}
use Rattle.seg_directory.specs.DirectoryStates.{DirectoryState}
use Rattle.seg_model.specs.DocumentCheck.{unless}
use Rattle.seg_model.specs.Refusals.{IfRefusal, IsRefusal}
use Rattle.seg_segment.specs.ReadErrors.{IsReadError}
use Rattle.seg_segment.proofs.Exports.{keeps_untouched, failing, same_error}
use Rattle.seg_open.specs.OpenSegment.{OpenSegment, kept_count}
use Rattle.seg_open.specs.OpeningSteps.{IsNoDamage, OpensSegments}
use Rattle.seg_open.proofs.Exports.{segments_rose, segments_so, segments_undamaged}
use Rattle.seg_merger.specs.Merger.{too_many}
use Rattle.seg_index_build.specs.MergeAnswers.{CanBeMerged, IsMergeError, LiveAreWhole}
use Rattle.seg_index_build.specs.MergedSegments.{AreMerged, FillsOutput, MergeInput, fills, first_schema, joined, live_asked, mixes, output_meta_of, starves}
use Rattle.seg_index_build.specs.TwoDirectories.{Directories}
use Rattle.seg_index_build.proofs.ToldDirectories.{tells-still}
use Rattle.seg_index_build.proofs.MergeCounts.{opened_few}
use Rattle.seg_index_build.proofs.MergeContents.{opened_held}
use Rattle.seg_index_build.proofs.MergeLists.{live_whole}
use Rattle.seg_index_build.proofs.MergeTurns.{Begins, MergeExits, Opened, at_beginning, at_counting, at_filling, at_opening}
use Rattle.seg_index_build.proofs.OutputSteps.{absent-parts, one_fresh}
use Rattle.seg_index_build.proofs.BuildRefusals.{read_exists, read_unrefused, refusal_undamaged}
use Rattle.seg_index_build.proofs.WriteErrors.{IsWriteError, calls_so, so_before, write_undamaged, write_unrefused}

-- ---- too many documents

-- only where there are, and with one error
pub too_many_told : (n : ℕ) (e : TantivyError) → too_many n ≡ Some e → (2 ^ 31 ≤ n) × (InvalidArgument Documents ≡ e)
too_many_told n e is = by (nat_lt n (2 ^ 31)) refl is
  where
    by : (b : Bool) → nat_lt n (2 ^ 31) ≡ b → unless b (InvalidArgument Documents) ≡ Some e
        → (2 ^ 31 ≤ n) × (InvalidArgument Documents ≡ e)
    by true test none = absurd (cc none)
    by false test some = (ltb-false n (2 ^ 31) test, cc some)

-- and what passes is few
pub few_passed : (n : ℕ) → too_many n ≡ None → n < 2 ^ 31
few_passed n none = by (nat_lt n (2 ^ 31)) refl none
  where
    by : (b : Bool) → nat_lt n (2 ^ 31) ≡ b → unless b (InvalidArgument Documents) ≡ None → n < 2 ^ 31
    by true test none = let h : n < 2 ^ 31 = grind (arith, nat_tests) in h
    by false test some = absurd (cc some)

-- and that is a refusal
pub argument_refuses : (cause : ArgumentCause) (e : TantivyError) → InvalidArgument cause ≡ e → IsRefusal e
argument_refuses cause e is = subst IsRefusal is tt

-- ---- kinds of errors

of_output : (m : MergeInput) (e : TantivyError) (a b : Directories) → IsWriteError e a.output.faults b.output.faults
    → IsMergeError m a b e
of_output m OpenReadError a b so = inr so
of_output m OpenWriteError a b so = so
of_output m IoError a b so = so
of_output m SystemError a b so = absurd so
of_output m FieldNotFound a b so = absurd so
of_output m (SchemaError cause) a b so = absurd so
of_output m (InvalidArgument cause) a b so = absurd so
of_output m IndexAlreadyExists a b so = tt
of_output m (DataCorruption name) a b so = tt
of_output m OutOfMemory a b so = tt

of_reading : (m : MergeInput) (e : TantivyError) (a b : Directories) → IsReadError e
    → (e ≡ OpenReadError → Rose a.work.faults b.work.faults) → IsMergeError m a b e
of_reading m OpenReadError a b so rose = inl (rose refl)
of_reading m OpenWriteError a b so rose = absurd so
of_reading m IoError a b so rose = absurd so
of_reading m SystemError a b so rose = absurd so
of_reading m FieldNotFound a b so rose = absurd so
of_reading m (SchemaError cause) a b so rose = absurd so
of_reading m (InvalidArgument cause) a b so rose = absurd so
of_reading m IndexAlreadyExists a b so rose = tt
of_reading m (DataCorruption name) a b so rose = tt
of_reading m OutOfMemory a b so rose = tt

of_memory : (m : MergeInput) (e : TantivyError) (a b : Directories) → e ≡ OutOfMemory → IsMergeError m a b e
of_memory m e a b is = subst (λ (x : TantivyError). IsMergeError m a b x) (sym is) tt

of_count : (m : MergeInput) (e : TantivyError) (a b : Directories) → InvalidArgument Documents ≡ e → IsMergeError m a b e
of_count m e a b is = subst (λ (x : TantivyError). IsMergeError m a b x) is (inr (inl refl))

of_numbers : (m : MergeInput) (e : TantivyError) (a b : Directories) → InvalidArgument Numbers ≡ e → IsMergeError m a b e
of_numbers m e a b is = subst (λ (x : TantivyError). IsMergeError m a b x) is (inr (inr refl))

-- segments join to nothing, which is told
abbrev pub IsMixed : MergeInput → List OpenSegment → TantivyError → Type 0
IsMixed m opened e = (InvalidArgument Numbers ≡ e) × (joined (first_schema m.segments) opened ≡ None)

-- the filling of the output ends with that, or with an error of writing
pub filling_so : {T : Type 0} (m : MergeInput) (opened : List OpenSegment) (e : TantivyError) (o b : DirectoryState)
    → FillsOutput {T = T} m opened (Err e) o b → IsMixed m opened e ⊎ IsWriteError e o.faults b.faults
filling_so {T = T} m opened e o b (starves is same) =
    inr (subst (λ (x : TantivyError). IsWriteError x o.faults b.faults) (sym (same_error T e OutOfMemory is)) tt)
filling_so {T = T} m opened e o b (mixes is none same) =
    inl (sym (same_error T e (InvalidArgument Numbers) is), none)
filling_so {T = T} m opened e o b (fills files joins works) =
    inr (calls_so {T = T} e (tt, (tt, (tt, (tt, (tt, (tt, (tt, (tt, (tt, tt))))))))) works)

-- and not with a file that is there, where the directory had none before it was begun
module _ {T : Type 0} (m : MergeInput) (e : TantivyError) (opened : List OpenSegment) (a o b : DirectoryState)
    (told : IsTrue a.tells) (none : len a.files ≡ 0) (begins : Begins m (Ok tt) a o) where
  pub filling_fresh : FillsOutput {T = T} m opened (Err e) o b → e ≢ IndexAlreadyExists
  filling_fresh (starves is same) exists = absurd (cc (sym is ∙ ap (failing T) exists))
  filling_fresh (mixes is none_joined same) exists = absurd (cc (sym is ∙ ap (failing T) exists))
  filling_fresh (fills files joins works) exists =
      one_fresh (output_meta_of m (kept_count opened)) m.id files works (tells-still _ _ (all_went begins).tells told)
      (absent-parts m.id a.files o.files none (keeps_untouched begins)) (ap (failing T) exists)

module _ (m : MergeInput) (merged : AreMerged m) (e : TantivyError) (a b : Directories) where
  read_so : OpensSegments (live_asked m.segments m.filters) (Err e) a.work b.work → IsReadError e
  read_so h = segments_so (live_asked m.segments m.filters) a.work b.work e h

  -- of each exit
  pub merge_error : MergeExits m e a b → IsMergeError m a b e
  merge_error (at_beginning h stays) = of_output m e a b (calls_so {T = Unit {0}} e (tt, (tt, (tt, tt))) h)
  merge_error (at_opening begins h) =
      of_reading m e a b (read_so h)
      (λ is. segments_rose (live_asked m.segments m.filters) a.work b.work
      (subst (λ (x : TantivyError). OpensSegments (live_asked m.segments m.filters) (Err x) a.work b.work) is h))
  merge_error (at_counting opened was (inl is)) = of_count m e a b (too_many_told (kept_count opened) e is).1
  merge_error (at_counting opened was (inr is)) = of_memory m e a b is
  merge_error (at_filling opened o was few h) = elim (filling_so {T = Unit {0}} m opened e o b.output h) [
    | inl mixed ↦ of_numbers m e a b mixed.0
    | inr so ↦ of_output m e a b (so_before e a.output.faults o.faults b.output.faults (all_went was.begins).later so)
  ]

  -- no damage, where the work directory tells, and its live segments are whole
  pub merge_undamaged : IsTrue a.work.tells → LiveAreWhole a.work.files m.segments → MergeExits m e a b → IsNoDamage e
  merge_undamaged told whole (at_beginning h stays) =
      write_undamaged e _ _ (calls_so {T = Unit {0}} e (tt, (tt, (tt, tt))) h)
  merge_undamaged told whole (at_opening begins h) =
      segments_undamaged (live_asked m.segments m.filters) a.work b.work e
      (live_whole a.work.files m.segments m.filters whole) told h
  merge_undamaged told whole (at_counting opened was (inl is)) =
      refusal_undamaged e (argument_refuses Documents e (too_many_told (kept_count opened) e is).1)
  merge_undamaged told whole (at_counting opened was (inr is)) = subst IsNoDamage (sym is) tt
  merge_undamaged told whole (at_filling opened o was few h) = elim (filling_so {T = Unit {0}} m opened e o b.output h) [
    | inl mixed ↦ refusal_undamaged e (argument_refuses Numbers e mixed.0)
    | inr so ↦ write_undamaged e o.faults b.output.faults so
  ]

  -- a refusal is that of too many documents, or of numbers without a type
  pub merge_refused : (P : TantivyError → Type 0)
      → ((opened : List OpenSegment) → Opened m opened a b.work b.output → 2 ^ 31 ≤ kept_count opened → P (InvalidArgument Documents))
      → ((opened : List OpenSegment) (o : DirectoryState) → Opened m opened a b.work o → kept_count opened < 2 ^ 31
      → joined (first_schema m.segments) opened ≡ None → P (InvalidArgument Numbers))
      → MergeExits m e a b → IfRefusal P e
  merge_refused P in_count in_numbers (at_beginning h stays) =
      write_unrefused P e _ _ (calls_so {T = Unit {0}} e (tt, (tt, (tt, tt))) h)
  merge_refused P in_count in_numbers (at_opening begins h) = read_unrefused P e (read_so h)
  merge_refused P in_count in_numbers (at_counting opened was (inl is)) =
      let told = too_many_told (kept_count opened) e is in
      subst (IfRefusal P) told.1 (in_count opened was told.0)
  merge_refused P in_count in_numbers (at_counting opened was (inr is)) = subst (IfRefusal P) (sym is) tt
  merge_refused P in_count in_numbers (at_filling opened o was few h) = elim (filling_so {T = Unit {0}} m opened e o b.output h) [
    | inl mixed ↦ subst (IfRefusal P) mixed.0 (in_numbers opened o was (few_passed (kept_count opened) few) mixed.1)
    | inr so ↦ write_unrefused P e o.faults b.output.faults so
  ]

  -- no file is found there, where the output directory has none
  module _ (told : IsTrue a.output.tells) (none : len a.output.files ≡ 0) where
    pub merge_fresh : MergeExits m e a b → e ≢ IndexAlreadyExists
    merge_fresh (at_beginning h stays) is =
        never_there told (sym none, (tt, (tt, tt))) h (ap (failing (Unit {0})) is)
    merge_fresh (at_opening begins h) is = read_exists e (read_so h) is
    merge_fresh (at_counting opened was (inl told)) is =
        subst IsRefusal is (argument_refuses Documents e (too_many_told (kept_count opened) e told).1)
    merge_fresh (at_counting opened was (inr starved)) is = absurd (cc (sym starved ∙ is))
    merge_fresh (at_filling opened o was few h) is = filling_fresh m e opened a.output o b.output told none was.begins h is

  -- only memory is left, where it can be merged
  memory_left : (d : TantivyError) → IsMergeError m a b d → IsNoDamage d → d ≢ IndexAlreadyExists → IfRefusal (λ _. ⊥) d
      → (Rose a.work.faults b.work.faults → ⊥) → (Rose a.output.faults b.output.faults → ⊥) → d ≡ OutOfMemory
  memory_left OutOfMemory so undamaged fresh unrefused work output = refl
  memory_left OpenReadError (inl rose) undamaged fresh unrefused work output = absurd (work rose)
  memory_left OpenReadError (inr rose) undamaged fresh unrefused work output = absurd (output rose)
  memory_left OpenWriteError so undamaged fresh unrefused work output = absurd (output so)
  memory_left IoError so undamaged fresh unrefused work output = absurd (output so)
  memory_left SystemError so undamaged fresh unrefused work output = absurd so
  memory_left FieldNotFound so undamaged fresh unrefused work output = absurd so
  memory_left (SchemaError cause) so undamaged fresh unrefused work output = absurd so
  memory_left (InvalidArgument cause) so undamaged fresh unrefused work output = absurd unrefused
  memory_left IndexAlreadyExists so undamaged fresh unrefused work output = absurd (fresh refl)
  memory_left (DataCorruption name) so undamaged fresh unrefused work output = absurd undamaged

  pub merge_starved : CanBeMerged m a b → MergeExits m e a b → e ≡ OutOfMemory
  merge_starved can exit =
      memory_left e (merge_error exit) (merge_undamaged can.work_tells can.whole exit)
      (merge_fresh can.output_tells can.output_empty exit)
      (merge_refused (λ _. ⊥)
      (λ opened was many. let few = opened_few m opened a.work b.work was.opens in absurd (omega (arith, few, many, can.few)))
      (λ opened o was few none.
      let held = opened_held m opened a.work b.work can.work_tells was.opens in
      absurd (false≢true (sym (ap is_some none) ∙ can.joins opened held))) exit)
      can.work_sound can.output_sound
