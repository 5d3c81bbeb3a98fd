-- Files of a segment that are made one after the other.
use Rattle.std.proofs.Common.{◌≡◌, ◌≢◌, ℕ, ◌+◌, ◌<◌, List, [], ◌∷◌, ◌++◌, length, take, drop, get_or, Some, Result, Ok, Err, IsTrue, cond, refl, sym, ap, ◌∙◌, subst}
use Rattle.std.specs.Prelude.{OnOk}
use Rattle.std.specs.FinMap.{get, insert, get-insert}
use Rattle.std.specs.List.{AllByRecursion}
use Rattle.std.proofs.lemmas.Cmp.{eq_by_cmp_equiv}
use Rattle.std.proofs.lemmas.Grind.{take_at_read}
use Rattle.std.proofs.lemmas.List.{map-append, take-append-drop}
use Rattle.seg_common.specs.FileNameKeys.{name_cmp_total}
use Rattle.seg_common.specs.declared.name.FileName.{FileName}
use Rattle.seg_common.specs.declared.name.FileName.TheVariants.{Part}
use Rattle.seg_common.specs.declared.name.SegmentComponent.{SegmentComponent}
use Rattle.seg_common.specs.declared.name.SegmentComponent.TheVariants.{Terms, Postings, Positions, Store, FastFields, FieldNorms}
use Rattle.seg_values.specs.declared.error.TantivyError.{TantivyError}
use Rattle.seg_directory.proofs.Exports.{all_went, keeps_others, stops, then_does}
use Rattle.seg_directory.specs.Calls.{made}
use Rattle.seg_directory.specs.Files.{NamedFiles}
use Rattle.seg_directory.specs.DirectoryStates.{DirectoryState}
use Rattle.seg_directory.specs.DirectorySteps.{Works, Step, calls, AllSuit, all_files_after}
use Rattle.seg_segment.specs.SegmentFiles.{bytes_of, component_steps, write_steps, segment_names, AreAbsent, HasFiles, KeepsAllBut}
use Rattle.seg_segment.specs.declared.segment_files.SegmentFiles.{SegmentFiles}
use Rattle.seg_segment.proofs.KeptFiles.{keeps_untouched}
use Rattle.seg_segment.proofs.ListTails.{drop-item}

-- ---- a turn of the loop

module _ (id : ℕ) (files : SegmentFiles) (components : List SegmentComponent) (i : ℕ) (c : SegmentComponent) (lt : i < length components) (is : c ≡ get_or components i c) (bytes : List ℕ) (same : bytes ≡ bytes_of files c) where
  abbrev step_of : SegmentComponent → Step
  step_of d = calls (made (Part id d) (bytes_of files d))

  abbrev so_far : List Step
  so_far = component_steps id files (take i components)

  here : calls (made (Part id c) bytes) ≡ step_of c
  here = ap (λ b. calls (made (Part id c) b)) same

  -- the file of the next component is made
  pub one_more : {a m b : DirectoryState} → Works {T = Unit {0}} so_far (Ok tt) a m → Works {T = Unit {0}} (calls (made (Part id c) bytes) ∷ []) (Ok tt) m b → Works {T = Unit {0}} (component_steps id files (take (i + 1) components)) (Ok tt) a b
  one_more {a = a} {b = b} first next =
      subst (λ (steps : List Step). Works {T = Unit {0}} steps (Ok tt) a b)
      (ap (λ s. so_far ++ s ∷ []) here ∙ sym (map-append step_of (take i components) (c ∷ [])) ∙ ap (component_steps id files) (sym ((take_at_read components i c lt).1 ∙ ap (λ x. take i components ++ x ∷ []) (sym is))))
      (then_does first next)

  -- or it isn't, which ends all
  pub ends_there : {e : TantivyError} {a m b : DirectoryState} → Works {T = Unit {0}} so_far (Ok tt) a m → Works {T = Unit {0}} (calls (made (Part id c) bytes) ∷ []) (Err e) m b → Works {T = Unit {0}} (component_steps id files components) (Err e) a b
  ends_there {e = e} {a = a} {b = b} first next =
      subst (λ (steps : List Step). Works {T = Unit {0}} steps (Err e) a b)
      (ap (λ s. so_far ++ s ∷ component_steps id files (drop (i + 1) components)) here ∙ sym (map-append step_of (take i components) (c ∷ drop (i + 1) components))
      ∙ ap (component_steps id files) (ap (λ r. take i components ++ r) (sym (drop-item components i c lt is)) ∙ take-append-drop i components))
      (then_does first (stops (component_steps id files (drop (i + 1) components)) next))

-- ---- what there is then

-- a file has the bytes that it was last given
pub newest : (files : NamedFiles) (name : FileName) (bytes : List ℕ) → get (insert files name bytes) name ≡ Some bytes
newest files name bytes = get-insert name_cmp_total files name bytes name ∙ ap (λ b. cond b (Some bytes) (get files name)) ((eq_by_cmp_equiv name_cmp_total).refl name)

module _ (id : ℕ) (files : SegmentFiles) where
  kept : (components : List SegmentComponent) (old : NamedFiles) (c : SegmentComponent) → AllByRecursion (λ d. Part id c ≢ Part id d) components → get (all_files_after (component_steps id files components) old) (Part id c) ≡ get old (Part id c)
  kept [] old c apart = refl
  kept (d ∷ ds) old c apart = kept ds (insert old (Part id d) (bytes_of files d)) c apart.1 ∙ keeps_others old (Part id d) (bytes_of files d) (Part id c) apart.0

  found : (before : List SegmentComponent) (c : SegmentComponent) (after : List SegmentComponent) (old : NamedFiles) → AllByRecursion (λ d. Part id c ≢ Part id d) after → get (all_files_after (component_steps id files (before ++ c ∷ after)) old) (Part id c) ≡ Some (bytes_of files c)
  found [] c after old apart = kept after (insert old (Part id c) (bytes_of files c)) c apart ∙ newest old (Part id c) (bytes_of files c)
  found (b ∷ bs) c after old apart = found bs c after (insert old (Part id b) (bytes_of files b)) apart

  pub six_there : (old : NamedFiles) → HasFiles (all_files_after (write_steps id files) old) id files
  six_there old = (
    found (FieldNorms ∷ FastFields ∷ []) Terms (Postings ∷ Positions ∷ Store ∷ []) old ((λ e. cc e), ((λ e. cc e), ((λ e. cc e), tt))),
    (
      found (FieldNorms ∷ FastFields ∷ Terms ∷ Postings ∷ Positions ∷ []) Store [] old tt,
      (
        found (FieldNorms ∷ FastFields ∷ Terms ∷ []) Postings (Positions ∷ Store ∷ []) old ((λ e. cc e), ((λ e. cc e), tt)),
        (
          found (FieldNorms ∷ FastFields ∷ Terms ∷ Postings ∷ []) Positions (Store ∷ []) old ((λ e. cc e), tt),
          (
            found (FieldNorms ∷ []) FastFields (Terms ∷ Postings ∷ Positions ∷ Store ∷ []) old ((λ e. cc e), ((λ e. cc e), ((λ e. cc e), ((λ e. cc e), tt)))),
            (found [] FieldNorms (FastFields ∷ Terms ∷ Postings ∷ Positions ∷ Store ∷ []) old ((λ e. cc e), ((λ e. cc e), ((λ e. cc e), ((λ e. cc e), ((λ e. cc e), tt))))), tt),
          ),
        ),
      ),
    ),
  )

  -- once they are made, the six files are there
  pub are_made : {T : Type 0} (r : Result T TantivyError) {a b : DirectoryState} → IsTrue a.tells → Works (write_steps id files) r a b → OnOk r (HasFiles b.files id files)
  are_made (Ok x) {a = a} told works = subst (λ (now : NamedFiles). HasFiles now id files) (sym ((all_went works).files told)) (six_there a.files)
  are_made (Err e) told works = tt

  -- the files of all other names stay
  pub others_stay : {T : Type 0} {r : Result T TantivyError} {a b : DirectoryState} → Works (write_steps id files) r a b → KeepsAllBut (segment_names id) a.files b.files
  others_stay works = keeps_untouched works

-- ---- where none of them was there

still_absent : (names : List FileName) (files : NamedFiles) (name : FileName) (bytes : List ℕ) → AllByRecursion (λ other. other ≢ name) names → AreAbsent names files → AreAbsent names (insert files name bytes)
still_absent [] files name bytes apart absent = tt
still_absent (n ∷ ns) files name bytes apart absent = (keeps_others files name bytes n apart.0 ∙ absent.0, still_absent ns files name bytes apart.1 absent.1)

-- files that are absent can be made
pub absent_suit : (id : ℕ) (files : SegmentFiles) (old : NamedFiles) → AreAbsent (segment_names id) old → AllSuit (write_steps id files) old
absent_suit id files old none =
    let norms = insert old (Part id FieldNorms) files.field_norms in
    let fast = insert norms (Part id FastFields) files.fast_fields in
    let terms = insert fast (Part id Terms) files.terms in
    let postings = insert terms (Part id Postings) files.postings in
    let second = still_absent (Part id FastFields ∷ Part id Terms ∷ Part id Postings ∷ Part id Positions ∷ Part id Store ∷ []) old (Part id FieldNorms) files.field_norms ((λ e. cc e), ((λ e. cc e), ((λ e. cc e), ((λ e. cc e), ((λ e. cc e), tt))))) none.1 in
    let third = still_absent (Part id Terms ∷ Part id Postings ∷ Part id Positions ∷ Part id Store ∷ []) norms (Part id FastFields) files.fast_fields ((λ e. cc e), ((λ e. cc e), ((λ e. cc e), ((λ e. cc e), tt)))) second.1 in
    let fourth = still_absent (Part id Postings ∷ Part id Positions ∷ Part id Store ∷ []) fast (Part id Terms) files.terms ((λ e. cc e), ((λ e. cc e), ((λ e. cc e), tt))) third.1 in
    let fifth = still_absent (Part id Positions ∷ Part id Store ∷ []) terms (Part id Postings) files.postings ((λ e. cc e), ((λ e. cc e), tt)) fourth.1 in
    let sixth = still_absent (Part id Store ∷ []) postings (Part id Positions) files.positions ((λ e. cc e), tt) fifth.1 in
    (none.0, (second.0, (third.0, (fourth.0, (fifth.0, (sixth.0, tt))))))
