-- Segments that are opened: one of them, and one after another.
use Rattle.std.proofs.Common.{◌≡◌, ℕ, zero, suc, ◌+◌, Bool, List, [], ◌∷◌, ◌++◌, length, map, take, drop, Option, Some, Result, Ok, Err, refl, sym, ap, ◌∙◌, subst, append_assoc, inl, inr, arith}
use Rattle.std.specs.List.{slice_get}
use Rattle.std.proofs.lemmas.List.{take-append-drop}
use Rattle.std.proofs.lemmas.Option.{none-some, same_Some}
use Rattle.seg_common.proofs.Lists.{drop-slice_get, take-slice_get}
use Rattle.seg_values.specs.declared.error.TantivyError.{TantivyError}
use Rattle.seg_values.specs.declared.error.TantivyError.TheVariants.{OutOfMemory}
use Rattle.seg_directory.proofs.Exports.{broke, does_nothing, stops, then_does}
use Rattle.seg_directory.specs.StepSequences.{GoesOn}
use Rattle.seg_directory.specs.DirectoryStates.{DirectoryState}
use Rattle.seg_directory.specs.DirectorySteps.{Step, StepGoes, StepBreaks, Works}
use Rattle.seg_meta.specs.IndexOfFiles.{Deletes}
use Rattle.seg_meta.specs.Metas.{SegmentParts}
use Rattle.seg_model.specs.Input.{Filter}
use Rattle.seg_model.specs.Operations.{filtered_by}
use Rattle.seg_open.specs.OpenSegment.{OpenSegment}
use Rattle.seg_open.specs.OpeningSteps.{AreFound, AreReadersOf, Asked, FilterFits, FiltersFit, Found, HasFilesOf, IsFound, Opens, OpensFiles, OpensSegments, ReadsAlive, all_steps, asked_of, segment_steps, unfinished}

-- ---- steps that end in another way

fails_on : (T U : Type 0) (steps : List Step) (e : TantivyError) (a b : DirectoryState)
    → GoesOn {T = T} StepGoes StepBreaks OutOfMemory steps (Err e) a b
    → GoesOn {T = U} StepGoes StepBreaks OutOfMemory steps (Err e) a b
fails_on T U [] e a b h = (h.0, h.1)
fails_on T U (step ∷ steps) e a b (inl w) = inl (w.0, w.1, fails_on T U steps e w.0 b w.2)
fails_on T U (step ∷ steps) e a b (inr broke) = inr broke

-- steps that broke off, whatever is answered where none does
pub fails_as : {T U : Type 0} {steps : List Step} {e : TantivyError} {a b : DirectoryState}
    → Works {T = T} steps (Err e) a b → Works {T = U} steps (Err e) a b
fails_as works = record { on = fails_on _ _ _ _ _ _ works.on }

starves_on : (T U : Type 0) (steps : List Step) (x : T) (a b : DirectoryState)
    → GoesOn {T = T} StepGoes StepBreaks OutOfMemory steps (Ok x) a b
    → GoesOn {T = U} StepGoes StepBreaks OutOfMemory steps (Err OutOfMemory) a b
starves_on T U [] x a b h = (h.0, refl)
starves_on T U (step ∷ steps) x a b (inl w) = inl (w.0, w.1, starves_on T U steps x w.0 b w.2)
starves_on T U (step ∷ steps) x a b (inr no_error) = absurd no_error

-- steps that all went well, after which there is no memory
pub starves_after : {T U : Type 0} {steps : List Step} {x : T} {a b : DirectoryState}
    → Works {T = T} steps (Ok x) a b → Works {T = U} steps (Err OutOfMemory) a b
starves_after works = record { on = starves_on _ _ _ _ _ _ works.on }

answers_on : (T U : Type 0) (steps : List Step) (x : T) (y : U) (a b : DirectoryState)
    → GoesOn {T = T} StepGoes StepBreaks OutOfMemory steps (Ok x) a b
    → GoesOn {T = U} StepGoes StepBreaks OutOfMemory steps (Ok y) a b
answers_on T U [] x y a b h = (h.0, tt)
answers_on T U (step ∷ steps) x y a b (inl w) = inl (w.0, w.1, answers_on T U steps x y w.0 b w.2)
answers_on T U (step ∷ steps) x y a b (inr no_error) = absurd no_error

-- steps that all went well, with another answer
answers_as : {T U : Type 0} {steps : List Step} {x : T} (y : U) {a b : DirectoryState}
    → Works {T = T} steps (Ok x) a b → Works {T = U} steps (Ok y) a b
answers_as y works = record { on = answers_on _ _ _ _ y _ _ works.on }

-- nothing is read
abbrev nothing : Found
nothing = record {
  files = record { terms = []; store = []; postings = []; positions = []; fast_fields = []; field_norms = [] };
  checks = λ c. unfinished;
  alive_file = [];
}

none_checked : (s : SegmentParts) → IsFound s nothing
none_checked s = (tt, (tt, (tt, (tt, (tt, (tt, tt))))))

-- ---- one segment

module _ (x : Asked) where
  -- there is no memory before the first file
  pub starves : (a : DirectoryState) → Opens x (Err OutOfMemory) a a
  starves a = record { found = nothing; checked = none_checked x.segment; works = does_nothing (segment_steps x.segment nothing); is = tt }

  -- its six files aren't read
  pub stops_in_files : (e : TantivyError) (a b : DirectoryState) → OpensFiles x.segment (Err e) a b → Opens x (Err e) a b
  stops_in_files e a b h = record {
    found = record { files = h.files; checks = h.checks; alive_file = [] };
    checked = h.checked;
    works = stops _ h.works;
    is = tt;
  }

  -- they are
  module _ (id documents : ℕ) (deletes : Option Deletes) (same_id : id ≡ x.segment.meta.id)
      (counted : documents ≡ x.segment.meta.documents) (same : deletes ≡ x.segment.meta.deletes) where
    pub alive : (r : Result (List Bool) TantivyError) (a b : DirectoryState) → ReadsAlive id documents deletes r a b
        → ReadsAlive x.segment.meta.id x.segment.meta.documents x.segment.meta.deletes r a b
    alive r a b h =
        subst (λ i. ReadsAlive i x.segment.meta.documents x.segment.meta.deletes r a b) same_id
        (subst (λ n. ReadsAlive id n x.segment.meta.deletes r a b) counted
        (subst (λ (d : Option Deletes). ReadsAlive id documents d r a b) same h))

    module _ (r : OpenSegment) (a b c : DirectoryState) (six : OpensFiles x.segment (Ok r) a b) where
      -- and its alive file isn't
      pub stops_in_alive : (e : TantivyError) → ReadsAlive id documents deletes (Err e) b c → Opens x (Err e) a c
      stops_in_alive e h = let n = alive (Err e) b c h in
          record {
            found = record { files = six.files; checks = six.checks; alive_file = n.bytes };
            checked = six.checked;
            works = then_does six.works (fails_as n.works);
            is = tt;
          }

      module _ (marks : List Bool) (h : ReadsAlive id documents deletes (Ok marks) b c) where
        -- and its alive file is, where there is one; but then there is no memory
        pub stops_after_alive : Opens x (Err OutOfMemory) a c
        stops_after_alive = let n = alive (Ok marks) b c h in
            record {
              found = record { files = six.files; checks = six.checks; alive_file = n.bytes };
              checked = six.checked;
              works = then_does six.works (starves_after n.works);
              is = tt;
            }

        -- or there is
        pub opens : (s : OpenSegment) → HasFilesOf x.segment six.files s → s.alive ≡ filtered_by x.custom marks → Opens x (Ok s) a c
        opens s has cut = let n = alive (Ok marks) b c h in
            record {
              found = record { files = six.files; checks = six.checks; alive_file = n.bytes };
              checked = six.checked;
              works = then_does six.works (answers_as s n.works);
              is = record { has = has; marks = marks; marked = n.is; alive = cut };
            }

-- the same files, where other documents are alive
pub with_marks : (segment : SegmentParts) (r : OpenSegment) (marks : List Bool) (a b : DirectoryState) (six : OpensFiles segment (Ok r) a b)
    → HasFilesOf segment six.files (record r { alive = marks })
with_marks segment r marks a b six = record {
  of_id = six.is.of_id;
  of_schema = six.is.of_schema;
  of_number = six.is.of_number;
  of_stamp = six.is.of_stamp;
  of_sizes = six.is.of_sizes;
  spell = six.is.spell;
  totals = six.is.totals;
  infos = six.is.infos;
}

-- ---- one after another

-- nothing is read of any
abbrev nothing_of : List Asked → List Found
nothing_of asked = map (λ x. nothing) asked

none_found : (asked : List Asked) → AreFound asked (nothing_of asked)
none_found [] = tt
none_found (x ∷ asked) = (none_checked x.segment, none_found asked)

steps_more : (xs ys : List Asked) (fs gs : List Found) → AreFound xs fs
    → all_steps (xs ++ ys) (fs ++ gs) ≡ all_steps xs fs ++ all_steps ys gs
steps_more [] ys [] gs h = refl
steps_more [] ys (f ∷ fs) gs h = absurd h
steps_more (x ∷ xs) ys [] gs h = absurd h
steps_more (x ∷ xs) ys (f ∷ fs) gs h =
    ap (λ l. segment_steps x.segment f ++ l) (steps_more xs ys fs gs h.1) ∙ sym (append_assoc (segment_steps x.segment f) (all_steps xs fs) (all_steps ys gs))

found_more : (xs ys : List Asked) (fs gs : List Found) → AreFound xs fs → AreFound ys gs → AreFound (xs ++ ys) (fs ++ gs)
found_more [] ys [] gs h k = k
found_more [] ys (f ∷ fs) gs h k = absurd h
found_more (x ∷ xs) ys [] gs h k = absurd h
found_more (x ∷ xs) ys (f ∷ fs) gs h k = (h.0, found_more xs ys fs gs h.1 k)

readers_more : (xs ys : List Asked) (fs gs : List Found) (rs ss : List OpenSegment) → AreFound xs fs
    → AreReadersOf xs fs rs → AreReadersOf ys gs ss → AreReadersOf (xs ++ ys) (fs ++ gs) (rs ++ ss)
readers_more [] ys [] gs [] ss h k l = l
readers_more [] ys [] gs (r ∷ rs) ss h k l = absurd k
readers_more [] ys (f ∷ fs) gs rs ss h k l = absurd h
readers_more (x ∷ xs) ys [] gs rs ss h k l = absurd h
readers_more (x ∷ xs) ys (f ∷ fs) gs [] ss h k l = absurd k
readers_more (x ∷ xs) ys (f ∷ fs) gs (r ∷ rs) ss h k l = (k.0, readers_more xs ys fs gs rs ss h.1 k.1 l)

-- there is no memory before the first segment
pub starves_all : (asked : List Asked) (a : DirectoryState) → OpensSegments asked (Err OutOfMemory) a a
starves_all asked a = record { found = nothing_of asked; checked = none_found asked; works = does_nothing _; are = tt }

-- none is open yet
pub none_yet : (opened : List OpenSegment) (a : DirectoryState) → opened ≡ [] → OpensSegments [] (Ok opened) a a
none_yet opened a none =
    subst (λ (l : List OpenSegment). OpensSegments [] (Ok l) a a) (sym none) (record { found = []; checked = tt; works = record { on = (refl, tt) }; are = tt })

module _ (first : List Asked) (x : Asked) (opened : List OpenSegment) (a b c : DirectoryState)
    (before : OpensSegments first (Ok opened) a b) where
  opens_more : (s : OpenSegment) → Opens x (Ok s) b c → OpensSegments (first ++ x ∷ []) (Ok (opened ++ s ∷ [])) a c
  opens_more s here = record {
    found = before.found ++ here.found ∷ [];
    checked = found_more first (x ∷ []) before.found (here.found ∷ []) before.checked (here.checked, tt);
    works =
        subst (λ l. Works {T = List OpenSegment} l (Ok (opened ++ s ∷ [])) a c) (sym (steps_more first (x ∷ []) before.found (here.found ∷ []) before.checked))
        (then_does before.works (then_does here.works (record { on = (refl, tt) })));
    are = readers_more first (x ∷ []) before.found (here.found ∷ []) opened (s ∷ []) before.checked before.are (here.is, tt);
  }

  stops_more : (rest : List Asked) (e : TantivyError) → Opens x (Err e) b c → OpensSegments (first ++ x ∷ rest) (Err e) a c
  stops_more rest e here = record {
    found = before.found ++ here.found ∷ nothing_of rest;
    checked =
        found_more first (x ∷ rest) before.found (here.found ∷ nothing_of rest) before.checked (here.checked, none_found rest);
    works =
        subst (λ l. Works {T = List OpenSegment} l (Err e) a c) (sym (steps_more first (x ∷ rest) before.found (here.found ∷ nothing_of rest) before.checked))
        (then_does before.works (stops (all_steps rest (nothing_of rest)) here.works));
    are = tt;
  }

module _ (asked : List Asked) (i : ℕ) (x : Asked) (found : slice_get asked i ≡ Some x)
    (opened : List OpenSegment) (a b c : DirectoryState)
    (before : OpensSegments (take i asked) (Ok opened) a b) where
  -- one more is opened after those so far
  pub opens_turn : (now : List OpenSegment) (s : OpenSegment) → now ≡ opened ++ s ∷ []
      → Opens x (Ok s) b c → OpensSegments (take (i + 1) asked) (Ok now) a c
  opens_turn now s grown here =
      subst (λ (l : List OpenSegment). OpensSegments (take (i + 1) asked) (Ok l) a c) (sym grown)
      (subst (λ (l : List Asked). OpensSegments l (Ok (opened ++ s ∷ [])) a c) (sym (take-slice_get asked i x found))
      (opens_more (take i asked) x opened a b c before s here))

  -- or not
  pub stops_turn : (e : TantivyError) → Opens x (Err e) b c → OpensSegments asked (Err e) a c
  stops_turn e here =
      subst (λ (l : List Asked). OpensSegments l (Err e) a c) (ap (λ l. take i asked ++ l) (sym (drop-slice_get asked i x found)) ∙ take-append-drop i asked)
      (stops_more (take i asked) x opened a b c before (drop (i + 1) asked) e here)

-- ---- what is asked for

-- there are as many filters as segments
pub as_many : (filters : List (Option Filter)) (segments : List SegmentParts) → FiltersFit filters segments → length filters ≡ length segments
as_many [] [] fit = refl
as_many [] (s ∷ segments) fit = absurd fit
as_many (f ∷ filters) [] fit = absurd fit
as_many (f ∷ filters) (s ∷ segments) fit = let rest = as_many filters segments fit.1 in omega (arith, rest)

-- each fits
pub fits_at : (filters : List (Option Filter)) (segments : List SegmentParts) → FiltersFit filters segments
    → (i : ℕ) (f : Option Filter) (s : SegmentParts) → slice_get filters i ≡ Some f → slice_get segments i ≡ Some s → FilterFits f s
fits_at [] segments fit i f s at in_place = absurd (none-some f at)
fits_at (g ∷ filters) [] fit i f s at in_place = absurd (none-some s in_place)
fits_at (g ∷ filters) (t ∷ segments) fit zero f s at in_place =
    subst (λ (h : Option Filter). FilterFits h s) (same_Some g f at) (subst (λ (u : SegmentParts). FilterFits g u) (same_Some t s in_place) fit.0)
fits_at (g ∷ filters) (t ∷ segments) fit (suc i) f s at in_place = fits_at filters segments fit.1 i f s at in_place

-- what is asked for at a place
pub asked_at : (segments : List SegmentParts) (filters : List (Option Filter)) (i : ℕ) (s : SegmentParts) (f : Option Filter)
    → slice_get segments i ≡ Some s → slice_get filters i ≡ Some f → slice_get (asked_of segments filters) i ≡ Some (record { segment = s; custom = f })
asked_at [] filters i s f at in_place = absurd (none-some s at)
asked_at (t ∷ segments) [] i s f at in_place = absurd (none-some f in_place)
asked_at (t ∷ segments) (g ∷ filters) zero s f at in_place =
    let same = same_Some t s at in
    let also = same_Some g f in_place in
    ap (λ (u : SegmentParts). Some (let x : Asked = record { segment = u; custom = g } in x)) same
    ∙ ap (λ (h : Option Filter). Some (let x : Asked = record { segment = s; custom = h } in x)) also
asked_at (t ∷ segments) (g ∷ filters) (suc i) s f at in_place = asked_at segments filters i s f at in_place

-- all of it
pub all_asked : (segments : List SegmentParts) (filters : List (Option Filter)) → take (length segments) (asked_of segments filters) ≡ asked_of segments filters
all_asked [] filters = refl
all_asked (s ∷ segments) [] = refl
all_asked (s ∷ segments) (f ∷ filters) = ap (λ l. (let x : Asked = record { segment = s; custom = f } in x) ∷ l) (all_asked segments filters)
