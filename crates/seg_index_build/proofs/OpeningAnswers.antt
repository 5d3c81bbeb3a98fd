-- What the opening of segments adds to the answers of a directory: the last readings of their files.
use Rattle.std.proofs.Common.{◌≡◌, ◌≢◌, ◌∙◌, ℕ, Bool, true, false, cond, List, [], ◌∷◌, ◌++◌, Option, Some, None, refl, sym, ap, subst}
use Rattle.std.specs.Prelude.{◌&&◌, ◌||◌, ◌==◌, is_some, nat_eq}
use Rattle.std.specs.List.{AllByRecursion, list_any}
use Rattle.std.proofs.lemmas.Bool.{and_left, and_right, eq-eqb, ne_eqb}
use Rattle.std.proofs.lemmas.Option.{none-some, same_Some}
use Rattle.seg_common.specs.FileNameKeys.{component_number}
use Rattle.seg_common.specs.declared.name.FileName.{FileName}
use Rattle.seg_common.specs.declared.name.FileName.TheVariants.{Alive, Part}
use Rattle.seg_common.specs.declared.name.SegmentComponent.{SegmentComponent}
use Rattle.seg_common.specs.declared.name.SegmentComponent.TheVariants.{Terms, Postings, Positions, Store, FastFields, FieldNorms}
use Rattle.seg_common.proofs.Lists.{all_weaker}
use Rattle.seg_directory.specs.DirectorySteps.{all_told}
use Rattle.seg_directory.specs.declared.answer.Answer.{Answer}
use Rattle.seg_directory.specs.declared.answer.Answer.TheVariants as answer
use Rattle.seg_meta.specs.IndexOfFiles.{Deletes}
use Rattle.seg_segment.specs.SegmentFiles.{bytes_of, read_order}
use Rattle.seg_segment.specs.declared.segment_files.SegmentFiles.{SegmentFiles}
use Rattle.seg_open.specs.OpenSegment.{OpenSegment}
use Rattle.seg_open.specs.OpeningSteps.{AreReadersOf, Asked, Found, alive_steps, all_steps, segment_steps}
use Rattle.seg_index_build.specs.TakenBatches.{last_read, same_name, was_written}
use Rattle.seg_index_build.proofs.LastReads.{here, is_some_or, last_both, last_front, last_none, last_still, skip, told_both, written_both}
use Rattle.seg_index_build.proofs.DistinctLists.{Apart}

-- ---- names

-- a name of no file of an id
pub record IsOther (name : FileName) (id : ℕ) : Type 0 where
  pub part : (c : SegmentComponent) → same_name name (Part id c) ≡ false
  pub alive : (stamp : ℕ) → same_name name (Alive id stamp) ≡ false

pub other_part : (id other : ℕ) (c : SegmentComponent) → other ≢ id → IsOther (Part id c) other
other_part id other c ne = record {
  part = λ d. and_right (component_number c == component_number d) (nat_eq id other) (ne_eqb id other (λ is. ne (sym is)));
  alive = λ stamp. refl;
}

pub other_alive : (id other stamp : ℕ) → other ≢ id → IsOther (Alive id stamp) other
other_alive id other stamp ne = record {
  part = λ c. refl;
  alive = λ to. and_right (stamp == to) (nat_eq id other) (ne_eqb id other (λ is. ne (sym is)));
}

-- deletes are counted up to a stamp, where there are some
abbrev pub AreUpTo : ℕ → Option Deletes → Type 0
AreUpTo stamp None = Unit {0}
AreUpTo stamp (Some d) = d.stamp ≡ stamp

-- ---- the files of one segment

module _ (id : ℕ) (files : SegmentFiles) (more : List Answer) where
  -- the files of components are read
  abbrev read_list : List SegmentComponent → List Answer
  read_list [] = more
  read_list (c ∷ cs) = answer.Read (Part id c) (bytes_of files c) ∷ read_list cs

  other_list : (name : FileName) → ((c : SegmentComponent) → same_name name (Part id c) ≡ false)
      → (cs : List SegmentComponent) → last_read name (read_list cs) ≡ last_read name more
  other_list name apart [] = refl
  other_list name apart (c ∷ cs) =
      skip name (Part id c) (bytes_of files c) (read_list cs) (apart c) ∙ other_list name apart cs

  -- one of them among others
  module _ (c : SegmentComponent) (none : last_read (Part id c) more ≡ None) where
    abbrev IsAnother : SegmentComponent → Type 0
    IsAnother d = (component_number c == component_number d) ≡ false

    not_read : (cs : List SegmentComponent) → AllByRecursion IsAnother cs → last_read (Part id c) (read_list cs) ≡ None
    not_read [] h = none
    not_read (d ∷ cs) h =
        skip (Part id c) (Part id d) (bytes_of files d) (read_list cs)
        (and_left (component_number c == component_number d) (nat_eq id id) h.0)
        ∙ not_read cs h.1

    among : (front back : List SegmentComponent) → AllByRecursion IsAnother front → AllByRecursion IsAnother back
        → (component_number c == component_number c) ≡ true
        → last_read (Part id c) (read_list (front ++ c ∷ back)) ≡ Some (bytes_of files c)
    among [] back h k same =
        here (Part id c) (Part id c) (bytes_of files c) (read_list back)
        (ap (λ b. b && nat_eq id id) same ∙ eq-eqb id id refl) (not_read back k)
    among (d ∷ front) back h k same =
        skip (Part id c) (Part id d) (bytes_of files d) (read_list (front ++ c ∷ back))
        (and_left (component_number c == component_number d) (nat_eq id id) h.0)
        ∙ among front back h.1 k same

  part_list : (c : SegmentComponent) → last_read (Part id c) more ≡ None
      → last_read (Part id c) (read_list read_order) ≡ Some (bytes_of files c)
  part_list Terms none =
      among Terms none [] (Store ∷ Postings ∷ Positions ∷ FastFields ∷ FieldNorms ∷ []) tt
      (refl, (refl, (refl, (refl, (refl, tt))))) refl
  part_list Store none =
      among Store none (Terms ∷ []) (Postings ∷ Positions ∷ FastFields ∷ FieldNorms ∷ []) (refl, tt)
      (refl, (refl, (refl, (refl, tt)))) refl
  part_list Postings none =
      among Postings none (Terms ∷ Store ∷ []) (Positions ∷ FastFields ∷ FieldNorms ∷ []) (refl, (refl, tt))
      (refl, (refl, (refl, tt))) refl
  part_list Positions none =
      among Positions none (Terms ∷ Store ∷ Postings ∷ []) (FastFields ∷ FieldNorms ∷ []) (refl, (refl, (refl, tt)))
      (refl, (refl, tt)) refl
  part_list FastFields none =
      among FastFields none (Terms ∷ Store ∷ Postings ∷ Positions ∷ []) (FieldNorms ∷ [])
      (refl, (refl, (refl, (refl, tt)))) (refl, tt) refl
  part_list FieldNorms none =
      among FieldNorms none (Terms ∷ Store ∷ Postings ∷ Positions ∷ FastFields ∷ []) []
      (refl, (refl, (refl, (refl, (refl, tt))))) tt refl

-- ---- its alive file

some_if : (bytes : List ℕ) (b : Bool) → is_some (cond b (Some bytes) None) ≡ b
some_if bytes true = refl
some_if bytes false = refl

module _ (id documents : ℕ) (bytes : List ℕ) where
  abbrev alive_told : Option Deletes → List Answer
  alive_told deletes = all_told (alive_steps id documents deletes bytes)

  none_other : (name : FileName) → IsOther name id → (deletes : Option Deletes)
      → last_read name (alive_told deletes) ≡ None
  none_other name other None = refl
  none_other name other (Some d) = skip name (Alive id d.stamp) bytes [] (other.alive d.stamp)

  none_part : (c : SegmentComponent) (deletes : Option Deletes) → last_read (Part id c) (alive_told deletes) ≡ None
  none_part c None = refl
  none_part c (Some d) = refl

  is_alive : (d : Deletes) → same_name (Alive id d.stamp) (Alive id d.stamp) ≡ true
  is_alive d = ap (λ b. b && nat_eq id id) (eq-eqb d.stamp d.stamp refl) ∙ eq-eqb id id refl

  one_alive : (deletes : Option Deletes) (d : Deletes) → deletes ≡ Some d
      → last_read (Alive id d.stamp) (alive_told deletes) ≡ Some bytes
  one_alive None d is = absurd (none-some d is)
  one_alive (Some e) d is =
      subst (λ (x : Deletes). last_read (Alive id x.stamp) (alive_told (Some e)) ≡ Some bytes) (same_Some e d is)
      (here (Alive id e.stamp) (Alive id e.stamp) bytes [] (is_alive e) refl)

  unwritten_alive : (name : FileName) (deletes : Option Deletes) → was_written name (alive_told deletes) ≡ false
  unwritten_alive name None = refl
  unwritten_alive name (Some d) = refl

  -- whether the alive file of another or this id is read
  some_alive : (other stamp : ℕ) (deletes : Option Deletes) → AreUpTo stamp deletes
      → is_some (last_read (Alive other stamp) (alive_told deletes)) ≡ (is_some deletes && nat_eq other id)
  some_alive other stamp None up_to = refl
  some_alive other stamp (Some d) up_to =
      some_if bytes ((stamp == d.stamp) && nat_eq other id)
      ∙ ap (λ b. b && nat_eq other id) (eq-eqb stamp d.stamp (sym up_to))

-- ---- the answers of one segment

module _ (a : Asked) (f : Found) where
  abbrev id_of : ℕ
  id_of = a.segment.meta.id

  abbrev number_of : ℕ
  number_of = a.segment.meta.documents

  abbrev deletes_in : Option Deletes
  deletes_in = a.segment.meta.deletes

  abbrev pub answers_of : List Answer
  answers_of = all_told (segment_steps a.segment f)

  abbrev last_ones : List Answer
  last_ones = alive_told id_of number_of f.alive_file deletes_in

  pub other_last : (name : FileName) → IsOther name id_of → last_read name answers_of ≡ None
  other_last name other =
      other_list id_of f.files last_ones name other.part read_order
      ∙ none_other id_of number_of f.alive_file name other deletes_in

  pub part_last : (c : SegmentComponent) → last_read (Part id_of c) answers_of ≡ Some (bytes_of f.files c)
  part_last c = part_list id_of f.files last_ones c (none_part id_of number_of f.alive_file c deletes_in)

  alive_only : (other stamp : ℕ) → last_read (Alive other stamp) answers_of ≡ last_read (Alive other stamp) last_ones
  alive_only other stamp = other_list id_of f.files last_ones (Alive other stamp) (λ c. refl) read_order

  pub alive_last : (d : Deletes) → deletes_in ≡ Some d → last_read (Alive id_of d.stamp) answers_of ≡ Some f.alive_file
  alive_last d is = alive_only id_of d.stamp ∙ one_alive id_of number_of f.alive_file deletes_in d is

  pub not_written : (name : FileName) → was_written name answers_of ≡ false
  not_written name = unwritten_alive id_of number_of f.alive_file name deletes_in

  pub alive_some : (other stamp : ℕ) → AreUpTo stamp deletes_in
      → is_some (last_read (Alive other stamp) answers_of) ≡ (is_some deletes_in && nat_eq other id_of)
  alive_some other stamp up_to =
      ap (λ o. is_some o) (alive_only other stamp)
      ∙ some_alive id_of number_of f.alive_file other stamp deletes_in up_to

-- ---- and of all

-- the files of a segment were last read as they were found
pub record WasRead (answers : List Answer) (a : Asked) (f : Found) : Type 0 where
  pub parts : (c : SegmentComponent) → last_read (Part a.segment.meta.id c) answers ≡ Some (bytes_of f.files c)
  pub alive : (d : Deletes) → a.segment.meta.deletes ≡ Some d
      → last_read (Alive a.segment.meta.id d.stamp) answers ≡ Some f.alive_file

-- and those of each
abbrev pub AllWereRead : List Answer → List Asked → List Found → Type 0
AllWereRead answers [] found = Unit {0}
AllWereRead answers (a ∷ asked) [] = Unit {0}
AllWereRead answers (a ∷ asked) (f ∷ found) = WasRead answers a f × AllWereRead answers asked found

still_read : (xs ys : List Answer) (a : Asked) (f : Found) → WasRead ys a f → WasRead (xs ++ ys) a f
still_read xs ys a f h = record {
  parts = λ c. last_still (Part a.segment.meta.id c) xs ys (bytes_of f.files c) (h.parts c);
  alive = λ d is. last_still (Alive a.segment.meta.id d.stamp) xs ys f.alive_file (h.alive d is);
}

-- they still were, after other answers
pub all_still_read : (xs ys : List Answer) (asked : List Asked) (found : List Found) → AllWereRead ys asked found
    → AllWereRead (xs ++ ys) asked found
all_still_read xs ys [] found h = tt
all_still_read xs ys (a ∷ asked) [] h = tt
all_still_read xs ys (a ∷ asked) (f ∷ found) h =
    (still_read xs ys a f h.0, all_still_read xs ys asked found h.1)

abbrev pub asked_id : Asked → ℕ
asked_id a = a.segment.meta.id

abbrev pub opening_told : List Asked → List Found → List Answer
opening_told asked found = all_told (all_steps asked found)

next_told : (a : Asked) (f : Found) (asked : List Asked) (found : List Found)
    → opening_told (a ∷ asked) (f ∷ found) ≡ answers_of a f ++ opening_told asked found
next_told a f asked found = told_both (segment_steps a.segment f) (all_steps asked found)

others_last : (name : FileName) (asked : List Asked) (found : List Found)
    → AllByRecursion (λ (a : Asked). IsOther name (asked_id a)) asked → last_read name (opening_told asked found) ≡ None
others_last name [] found h = refl
others_last name (a ∷ asked) [] h = refl
others_last name (a ∷ asked) (f ∷ found) h =
    ap (last_read name) (next_told a f asked found)
    ∙ last_none name (answers_of a f) (opening_told asked found) (other_last a f name h.0) (others_last name asked found h.1)

-- no file is written
pub never_written : (name : FileName) (asked : List Asked) (found : List Found)
    → was_written name (opening_told asked found) ≡ false
never_written name [] found = refl
never_written name (a ∷ asked) [] = refl
never_written name (a ∷ asked) (f ∷ found) =
    ap (was_written name) (next_told a f asked found)
    ∙ written_both name (answers_of a f) (opening_told asked found)
    ∙ ap (λ b. b || was_written name (opening_told asked found)) (not_written a f name)
    ∙ never_written name asked found

first_read : (a : Asked) (f : Found) (asked : List Asked) (found : List Found)
    → AllByRecursion (λ (b : Asked). asked_id b ≢ asked_id a) asked
    → WasRead (answers_of a f ++ opening_told asked found) a f
first_read a f asked found others = record {
  parts = λ c.
      last_front (Part (asked_id a) c) (answers_of a f) (opening_told asked found)
      (others_last (Part (asked_id a) c) asked found
      (all_weaker (λ (b : Asked). asked_id b ≢ asked_id a) (λ (b : Asked). IsOther (Part (asked_id a) c) (asked_id b))
      (λ b ne. other_part (asked_id a) (asked_id b) c ne) asked others))
      ∙ part_last a f c;
  alive = λ d is.
      last_front (Alive (asked_id a) d.stamp) (answers_of a f) (opening_told asked found)
      (others_last (Alive (asked_id a) d.stamp) asked found
      (all_weaker (λ (b : Asked). asked_id b ≢ asked_id a) (λ (b : Asked). IsOther (Alive (asked_id a) d.stamp) (asked_id b))
      (λ b ne. other_alive (asked_id a) (asked_id b) d.stamp ne) asked others))
      ∙ alive_last a f d is;
}

-- where no two have one id, the files of each were last read as they were found
pub all_were_read : (asked : List Asked) (found : List Found) → Apart asked_id asked
    → AllWereRead (opening_told asked found) asked found
all_were_read [] found apart = tt
all_were_read (a ∷ asked) [] apart = tt
all_were_read (a ∷ asked) (f ∷ found) apart =
    subst (λ (l : List Answer). AllWereRead l (a ∷ asked) (f ∷ found)) (sym (next_told a f asked found)) (
      first_read a f asked found apart.0,
      all_still_read (answers_of a f) (opening_told asked found) asked found (all_were_read asked found apart.1),
    )

-- whether an alive file was read
pub alive_were_read : (id stamp : ℕ) (asked : List Asked) (found : List Found) (opened : List OpenSegment)
    → AreReadersOf asked found opened → AllByRecursion (λ (a : Asked). AreUpTo stamp a.segment.meta.deletes) asked
    → is_some (last_read (Alive id stamp) (opening_told asked found))
    ≡ list_any (λ (a : Asked). is_some a.segment.meta.deletes && nat_eq id (asked_id a)) asked
alive_were_read id stamp [] found opened are up_to = refl
alive_were_read id stamp (a ∷ asked) [] opened are up_to = absurd are
alive_were_read id stamp (a ∷ asked) (f ∷ found) [] are up_to = absurd are
alive_were_read id stamp (a ∷ asked) (f ∷ found) (s ∷ opened) are up_to =
    ap (λ l. is_some (last_read (Alive id stamp) l)) (next_told a f asked found)
    ∙ ap (λ o. is_some o) (last_both (Alive id stamp) (answers_of a f) (opening_told asked found))
    ∙ is_some_or (last_read (Alive id stamp) (opening_told asked found)) (last_read (Alive id stamp) (answers_of a f))
    ∙ ap (λ b. b || is_some (last_read (Alive id stamp) (opening_told asked found))) (alive_some a f id stamp up_to.0)
    ∙ ap (λ b. (is_some a.segment.meta.deletes && nat_eq id (asked_id a)) || b)
    (alive_were_read id stamp asked found opened are.1 up_to.1)
