-- The steps that finish an index: the alive files, and then the meta.
use Rattle.std.proofs.Common.{◌≡◌, ◌<◌, ◌∙◌, ℕ, List, [], ◌∷◌, ◌++◌, length, append_assoc, Result, Ok, Err, refl, sym, ap, subst, inl, inr, arith}
use Rattle.std.specs.Prelude.{◌⊎◌, OnOk}
use Rattle.std.proofs.lemmas.List.{append-nil}
use Rattle.seg_common.proofs.Results.{at_ok}
use Rattle.seg_values.specs.declared.error.TantivyError.{TantivyError}
use Rattle.seg_directory.proofs.Exports.{Parts, in_first, in_next, parts_on, stops, then_does}
use Rattle.seg_directory.specs.DirectoryStates.{DirectoryState}
use Rattle.seg_directory.specs.DirectorySteps.{Works}
use Rattle.seg_model.specs.Fields.{Schema}
use Rattle.seg_meta.specs.IndexOfFiles as index
use Rattle.seg_model.specs.Input.{Settings}
use Rattle.seg_batches.specs.AliveFiles.{AllTellMarks, WritesAlive, alive_step, alive_steps}
use Rattle.seg_batches.specs.WrittenSegments.{WrittenSegment, deletes_of}
use Rattle.seg_index_build.specs.WorkIndexSteps.{FinishesIndex, finish_steps, listing_meta}
use Rattle.seg_index_build.specs.IndexWriteSteps.{publish_steps}

module _ (meta : index.Meta) (stamp : ℕ) where
  -- the meta comes after the alive files, if each is made; else these are all
  finish_are : (alive : List (List ℕ)) (segments : List WrittenSegment) → AllTellMarks stamp alive segments
      → ((length alive ≡ length segments) × (finish_steps meta stamp alive segments ≡ alive_steps stamp alive segments ++ publish_steps meta))
      ⊎ ((length alive < length segments) × (finish_steps meta stamp alive segments ≡ alive_steps stamp alive segments))
  finish_are [] [] tell = inl (refl, refl)
  finish_are [] (s ∷ segments) tell = inr (omega arith, refl)
  finish_are (bytes ∷ alive) [] tell = absurd tell
  finish_are (bytes ∷ alive) (s ∷ segments) tell =
      let step = alive_step s.id (deletes_of stamp s.alive) bytes in
      elim (finish_are alive segments tell.1) [
        | inl same ↦ inl (omega (arith, same.0), ap (λ steps. step ++ steps) same.1 ∙ sym (append_assoc step (alive_steps stamp alive segments) (publish_steps meta)))
        | inr less ↦ inr (omega (arith, less.0), ap (λ steps. step ++ steps) less.1)
      ]

  -- where they end: in an alive file, or at the meta
  pub data FinishParts {T : Type 0} (segments : List WrittenSegment) (r : Result T TantivyError) (a c : DirectoryState) : Type 0 where
    in_alive : (e : TantivyError) → r ≡ Err e → WritesAlive {T = T} stamp segments (Err e) a c → FinishParts segments r a c
    in_meta : (b : DirectoryState) → WritesAlive {T = Unit {0}} stamp segments (Ok tt) a b → Works (publish_steps meta) r b c → FinishParts segments r a c

  pub finish_parts : {T : Type 0} (alive : List (List ℕ)) (segments : List WrittenSegment) (r : Result T TantivyError) (a c : DirectoryState)
      → AllTellMarks stamp alive segments → OnOk r (length alive ≡ length segments)
      → Works (finish_steps meta stamp alive segments) r a c → FinishParts segments r a c
  finish_parts {T = T} alive segments r a c tell whole works = elim (finish_are alive segments tell) [
    | inl same ↦ by same.0 (parts_on (alive_steps stamp alive segments) (publish_steps meta) r a c (subst (λ steps. Works steps r a c) same.1 works).on)
    | inr less ↦ ends r whole less.0 (subst (λ steps. Works steps r a c) less.1 works)
  ]
    where
      by : length alive ≡ length segments → Parts (alive_steps stamp alive segments) (publish_steps meta) r a c
          → FinishParts segments r a c
      by same (in_first e is w) = in_alive e is (record { files = alive; tell = tell; whole = tt; works = w })
      by same (in_next b w next) = in_meta b (record { files = alive; tell = tell; whole = same; works = w }) next

      ends : (x : Result T TantivyError) → OnOk x (length alive ≡ length segments) → length alive < length segments
          → Works (alive_steps stamp alive segments) x a c → FinishParts segments x a c
      ends (Ok y) same less w = absurd (omega (arith, same, less))
      ends (Err e) same less w = in_alive e refl (record { files = alive; tell = tell; whole = tt; works = w })

  stopped : {T : Type 0} (alive : List (List ℕ)) (segments : List WrittenSegment) (e : TantivyError) (a b : DirectoryState) → AllTellMarks stamp alive segments → Works {T = T} (alive_steps stamp alive segments) (Err e) a b → Works {T = T} (finish_steps meta stamp alive segments) (Err e) a b
  stopped {T = T} alive segments e a b tell works = elim (finish_are alive segments tell) [
    | inl same ↦ subst (λ steps. Works {T = T} steps (Err e) a b) (sym same.1) (stops (publish_steps meta) works)
    | inr less ↦ subst (λ steps. Works {T = T} steps (Err e) a b) (sym less.1) works
  ]

  saved : {T : Type 0} (alive : List (List ℕ)) (segments : List WrittenSegment) (r : Result T TantivyError) (a b c : DirectoryState) → AllTellMarks stamp alive segments → length alive ≡ length segments → Works {T = Unit {0}} (alive_steps stamp alive segments) (Ok tt) a b → Works (publish_steps meta) r b c
      → Works (finish_steps meta stamp alive segments) r a c
  saved alive segments r a b c tell many works next = elim (finish_are alive segments tell) [
    | inl same ↦ subst (λ steps. Works steps r a c) (sym same.1) (then_does works next)
    | inr less ↦ absurd (omega (arith, many, less.0))
  ]

module _ (settings : Settings) (schema : Schema) (stamp : ℕ) (segments : List WrittenSegment) where
  -- it ends in an alive file
  pub alive_ends : {S T : Type 0} (e : TantivyError) {a b : DirectoryState} → WritesAlive {T = S} stamp segments (Err e) a b → FinishesIndex {T = T} settings schema stamp segments (Err e) a b
  alive_ends {T = T} e {a = a} {b = b} w = record {
    alive = w.files;
    tell = w.tell;
    whole = tt;
    works = stopped (listing_meta settings schema stamp segments) stamp w.files segments e a b w.tell
        (subst (λ steps. Works {T =
        T} steps (Err e) a b) (append-nil (alive_steps stamp w.files segments)) (stops [] w.works));
  }

  -- or comes to the meta
  pub alive_saved : {T : Type 0} (r : Result T TantivyError) {a b c : DirectoryState} → WritesAlive {T = Unit {0}} stamp segments (Ok tt) a b → Works (publish_steps (listing_meta settings schema stamp segments)) r b c → FinishesIndex settings schema stamp segments r a c
  alive_saved r {a = a} {b = b} {c = c} w next = record {
    alive = w.files;
    tell = w.tell;
    whole = at_ok r w.whole;
    works =
        saved (listing_meta settings schema stamp segments) stamp w.files segments r a b c w.tell w.whole w.works next;
  }
