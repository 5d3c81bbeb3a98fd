-- The alive files of segments, made one after another.
use Rattle.std.proofs.Common.{◌≡◌, ◌∙◌, ℕ, ◌+◌, ◌≤◌, List, [], ◌∷◌, ◌++◌, length, take, drop, append_assoc, Some, Result, Ok, Err, refl, sym, ap, subst, arith}
use Rattle.std.specs.Prelude.{OnOk}
use Rattle.std.specs.List.{slice_get}
use Rattle.std.proofs.lemmas.List.{append-nil, length-append, take-append-drop, take_all}
use Rattle.seg_common.proofs.Lists.{drop-slice_get, take-slice_get}
use Rattle.seg_values.specs.declared.error.TantivyError.{TantivyError}
use Rattle.seg_directory.proofs.Exports.{stops, then_does}
use Rattle.seg_directory.specs.DirectoryStates.{DirectoryState}
use Rattle.seg_directory.specs.DirectorySteps.{Works}
use Rattle.seg_batches.specs.AliveFiles.{AllTellMarks, WritesAlive, alive_step, alive_steps}
use Rattle.seg_batches.specs.WrittenSegments.{WrittenSegment, deletes_of}

-- the files of these segments are made
abbrev pub AliveSoFar : ℕ → List WrittenSegment → DirectoryState → DirectoryState → Type 0
AliveSoFar stamp segments a b = WritesAlive {T = Unit {0}} stamp segments (Ok tt) a b

module _ (stamp : ℕ) where
  steps_both : (files more : List (List ℕ)) (segments others : List WrittenSegment) → length files ≡ length segments
      → alive_steps stamp (files ++ more) (segments ++ others) ≡ alive_steps stamp files segments ++ alive_steps stamp more others
  steps_both [] more [] others same = refl
  steps_both [] more (s ∷ segments) others same = absurd (omega (arith, same))
  steps_both (f ∷ files) more [] others same = absurd (omega (arith, same))
  steps_both (f ∷ files) more (s ∷ segments) others same =
      ap (λ steps. alive_step s.id (deletes_of stamp s.alive) f ++ steps) (steps_both files more segments others (omega (arith, same)))
      ∙ sym (append_assoc (alive_step s.id (deletes_of stamp s.alive) f) (alive_steps stamp files segments) (alive_steps stamp more others))

  tell_both : (files more : List (List ℕ)) (segments others : List WrittenSegment) → length files ≡ length segments
      → AllTellMarks stamp files segments → AllTellMarks stamp more others
      → AllTellMarks stamp (files ++ more) (segments ++ others)
  tell_both [] more [] others same h k = k
  tell_both [] more (s ∷ segments) others same h k = absurd (omega (arith, same))
  tell_both (f ∷ files) more [] others same h k = absurd h
  tell_both (f ∷ files) more (s ∷ segments) others same h k =
      (h.0, tell_both files more segments others (omega (arith, same)) h.1 k)

  tell_front : (files : List (List ℕ)) (segments others : List WrittenSegment) → AllTellMarks stamp files segments
      → AllTellMarks stamp files (segments ++ others)
  tell_front [] segments others h = tt
  tell_front (f ∷ files) [] others h = absurd h
  tell_front (f ∷ files) (s ∷ segments) others h = (h.0, tell_front files segments others h.1)

  steps_front : (files : List (List ℕ)) (segments others : List WrittenSegment) → AllTellMarks stamp files segments
      → alive_steps stamp files (segments ++ others) ≡ alive_steps stamp files segments
  steps_front [] segments others h = refl
  steps_front (f ∷ files) [] others h = absurd h
  steps_front (f ∷ files) (s ∷ segments) others h =
      ap (λ steps. alive_step s.id (deletes_of stamp s.alive) f ++ steps) (steps_front files segments others h.1)

  -- before any of them
  pub none_yet : (a : DirectoryState) → AliveSoFar stamp [] a a
  none_yet a = record { files = []; tell = tt; whole = refl; works = record { on = (refl, tt) } }

  module _ {T : Type 0} (segments others : List WrittenSegment) (r : Result T TantivyError) (a b c : DirectoryState)
      (so_far : AliveSoFar stamp segments a b) where
    -- those of some segments, and then those of others
    pub then_writes : WritesAlive stamp others r b c → WritesAlive stamp (segments ++ others) r a c
    then_writes next = record {
      files = so_far.files ++ next.files;
      tell = tell_both so_far.files next.files segments others so_far.whole so_far.tell next.tell;
      whole = on_whole r next.whole;
      works =
          subst (λ steps. Works steps r a c) (sym (steps_both so_far.files next.files segments others so_far.whole)) (then_does so_far.works next.works);
    }
      where
        on_whole : (x : Result T TantivyError) → OnOk x (length next.files ≡ length others)
            → OnOk x (length (so_far.files ++ next.files) ≡ length (segments ++ others))
        on_whole (Ok y) same =
            omega (arith, same, so_far.whole, length-append so_far.files next.files, length-append segments others)
        on_whole (Err e) same = tt

  -- where they end, those of more segments do
  pub writes_more : {S T : Type 0} (segments others : List WrittenSegment) (e : TantivyError) (a b : DirectoryState)
      → WritesAlive {T = S} stamp segments (Err e) a b → WritesAlive {T = T} stamp (segments ++ others) (Err e) a b
  writes_more {T = T} segments others e a b w = record {
    files = w.files;
    tell = tell_front w.files segments others w.tell;
    whole = tt;
    works = subst (λ steps. Works {T = T} steps (Err e) a b) (append-nil (alive_steps stamp w.files segments) ∙ sym (steps_front w.files segments others w.tell)) (stops [] w.works);
  }

  module _ (segments : List WrittenSegment) (i : ℕ) (s : WrittenSegment) (at : slice_get segments i ≡ Some s)
      (a b c : DirectoryState) (so_far : AliveSoFar stamp (take i segments) a b) where
    pub alive_turn : AliveSoFar stamp (s ∷ []) b c → AliveSoFar stamp (take (i + 1) segments) a c
    alive_turn here =
        subst (λ (ss : List WrittenSegment). AliveSoFar stamp ss a c) (sym (take-slice_get segments i s at)) (then_writes (take i segments) (s ∷ []) (Ok tt) a b c so_far here)

    pub alive_ends : {S T : Type 0} (e : TantivyError) → WritesAlive {T = S} stamp (s ∷ []) (Err e) b c
        → WritesAlive {T = T} stamp segments (Err e) a c
    alive_ends {T = T} e here =
        subst (λ (ss : List WrittenSegment). WritesAlive {T = T} stamp ss (Err e) a c) (ap (λ l. take i segments ++ l) (sym (drop-slice_get segments i s at)) ∙ take-append-drop i segments)
        (then_writes (take i segments) (s ∷ drop (i + 1) segments) (Err e) a b c so_far (writes_more (s ∷ []) (drop (i + 1) segments) e b c here))

-- all of them
pub all_written : (stamp : ℕ) (segments : List WrittenSegment) (n : ℕ) (a b : DirectoryState) → length segments ≤ n
    → AliveSoFar stamp (take n segments) a b → AliveSoFar stamp segments a b
all_written stamp segments n a b le so_far =
    subst (λ (ss : List WrittenSegment). AliveSoFar stamp ss a b) (take_all n segments le) so_far
