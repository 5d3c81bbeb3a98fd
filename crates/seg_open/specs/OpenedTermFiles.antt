-- The fields of a schema, opened file by file.
use Rattle.std.specs.Prelude.{◌≡◌, ℕ, List, length, true, false, Option, Some, None, ⊤}
use Rattle.std.specs.List.{slice_get}
use Rattle.seg_common.specs.declared.name.SegmentComponent.{SegmentComponent}
use Rattle.seg_values.specs.declared.schema.FieldEntry.{FieldEntry}
use Rattle.seg_model.specs.Fields.{Schema, is_indexed}
use Rattle.seg_directory.specs.CompositeFiles.{Part, field_of}
use Rattle.seg_postings.specs.CompletedPostings.{ArePostingsBy, NoneComplete}
use Rattle.seg_termdict.specs.Dictionary.{terms_of}
use Rattle.seg_postings.specs.OpenedFields.{FirstPart, FirstParts, IsFieldBy, OpenField, dictionary_terms, rules_of, written_terms}
use Rattle.seg_postings.specs.FieldSerializers.{TermWritten}
use Rattle.seg_postings.specs.TermForms.{IsDictionaryOf}
use Rattle.seg_open.specs.IndexedParts.{HaveIndexedParts}
use Rattle.seg_open.specs.declared.open_error.OpenError.{OpenError}
use Rattle.seg_open.specs.declared.open_error.OpenError.TheVariants.{Damaged, OutOfMemory}

-- the file of a component is told, for a reason; or there is no memory
abbrev pub IsTold : SegmentComponent → Type 0 → OpenError → Type 0
IsTold component Reason (Damaged told) = (told ≡ component) × Reason
IsTold component Reason OutOfMemory = ⊤

-- ---- dictionaries

-- the part of a field is a dictionary of its terms, to be read by the rules of its entry
pub record IsFirst (entry : FieldEntry) (field documents : ℕ) (parts : List Part) (first : FirstPart) : Type 0 where
  pub in_terms : field_of parts field ≡ Some first.dictionary
  pub is_dictionary : IsDictionaryOf entry.kind first.dictionary
  pub rules : first.rules ≡ rules_of entry documents

-- it is where the field is indexed, and none stands for it elsewhere
abbrev pub IsFirstAt : FieldEntry → ℕ → ℕ → List Part → Option FirstPart → Type 0
IsFirstAt entry field documents parts None = is_indexed entry ≡ false
IsFirstAt entry field documents parts (Some first) = (is_indexed entry ≡ true)
    × IsFirst entry field documents parts first

-- so is each of the first fields of a schema
abbrev pub EachIsFirst : Schema → ℕ → List Part → List (Option FirstPart) → Type 0
EachIsFirst schema documents parts fields =
    (field : ℕ) (entry : FieldEntry) (first : Option FirstPart) → slice_get schema field ≡ Some entry
    → slice_get fields field ≡ Some first → IsFirstAt entry field documents parts first

-- one place for each field of a schema, with its dictionary where it is indexed
pub record AreFirst (schema : Schema) (documents : ℕ) (parts : List Part)
    (fields : List (Option FirstPart)) : Type 0 where
  pub per_field : length fields ≡ length schema
  pub each : EachIsFirst schema documents parts fields

-- the part of a field, if there is one, is no dictionary of its terms
abbrev pub LacksDictionary : FieldEntry → List Part → ℕ → Type 0
LacksDictionary entry parts field = (bytes : List ℕ) → field_of parts field ≡ Some bytes
    → IsDictionaryOf entry.kind bytes → ⊥

-- a field of a schema that is indexed lacks its dictionary
pub record OneLacksDictionary (schema : Schema) (parts : List Part) : Type 0 where
  pub field : ℕ
  pub entry : FieldEntry
  pub in_schema : slice_get schema field ≡ Some entry
  pub indexed : is_indexed entry ≡ true
  pub lacks : LacksDictionary entry parts field

-- bytes are opened as the file of terms
pub record TermsOpened (schema : Schema) (documents : ℕ) (bytes : List ℕ)
    (fields : List (Option FirstPart)) : Type 0 where
  pub parts : List Part
  pub file : HaveIndexedParts schema bytes parts
  pub are : AreFirst schema documents parts fields

-- why not: with the parts that are wanted a field lacks its dictionary
abbrev pub TermsUnopened : Schema → List ℕ → Type 0
TermsUnopened schema bytes = (parts : List Part) → HaveIndexedParts schema bytes parts → OneLacksDictionary schema parts

-- ---- what a further file adds to each field

-- a place has a value where it had one, and that goes with it
abbrev pub GoesOn : {X Y : Type 0} → (X → Y → Type 0) → Option X → Option Y → Type 0
GoesOn Adds None None = Unit {0}
GoesOn Adds None (Some y) = ⊥
GoesOn Adds (Some x) None = ⊥
GoesOn Adds (Some x) (Some y) = Adds x y

-- so has each place
pub record AllGoOn {X Y : Type 0} (Adds : ℕ → X → Y → Type 0) (before : List (Option X))
    (after : List (Option Y)) : Type 0 where
  pub per_field : length after ≡ length before
  pub each : (field : ℕ) (x : Option X) (y : Option Y) → slice_get before field ≡ Some x
      → slice_get after field ≡ Some y → GoesOn (Adds field) x y

-- with the value of one place nothing goes
pub record OneStops {X : Type 0} (Lacks : ℕ → X → Type 0) (fields : List (Option X)) : Type 0 where
  pub field : ℕ
  pub value : X
  pub there : slice_get fields field ≡ Some (Some value)
  pub lacks : Lacks field value

-- ---- postings

-- the part of a field are the postings of its dictionary
pub record AddsPostings (parts : List Part) (field : ℕ) (first : FirstPart) (both : FirstParts) : Type 0 where
  pub in_postings : field_of parts field ≡ Some both.postings
  pub same : both ≡ record { dictionary = first.dictionary; postings = both.postings; rules = first.rules }
  pub are : ArePostingsBy first.rules first.dictionary both.postings

-- the part of a field, if there is one, is completed by no positions
abbrev pub LacksPostings : List Part → ℕ → FirstPart → Type 0
LacksPostings parts field first = (bytes : List ℕ) → field_of parts field ≡ Some bytes
    → NoneComplete first.rules first.dictionary bytes

-- bytes are opened as the file of postings
pub record PostingsOpened (schema : Schema) (bytes : List ℕ) (before : List (Option FirstPart))
    (after : List (Option FirstParts)) : Type 0 where
  pub parts : List Part
  pub file : HaveIndexedParts schema bytes parts
  pub all : AllGoOn (AddsPostings parts) before after

-- why not
abbrev pub PostingsUnopened : Schema → List ℕ → List (Option FirstPart) → Type 0
PostingsUnopened schema bytes before = (parts : List Part) → HaveIndexedParts schema bytes parts
    → OneStops (LacksPostings parts) before

-- ---- positions

-- the part of a field are the positions that complete it
pub record AddsPositions (parts : List Part) (field : ℕ) (both : FirstParts) (opened : OpenField) : Type 0 where
  pub positions_part : List ℕ
  pub in_positions : field_of parts field ≡ Some positions_part
  pub by : IsFieldBy both.rules both.dictionary both.postings positions_part opened.total (written_terms opened)
  pub infos : dictionary_terms opened ≡ terms_of both.dictionary

-- the part of a field, if there is one, completes it to none
abbrev pub LacksPositions : List Part → ℕ → FirstParts → Type 0
LacksPositions parts field both =
    (bytes : List ℕ) (total : ℕ) (terms : List TermWritten) → field_of parts field ≡ Some bytes
    → IsFieldBy both.rules both.dictionary both.postings bytes total terms → ⊥

-- bytes are opened as the file of positions
pub record PositionsOpened (schema : Schema) (bytes : List ℕ) (before : List (Option FirstParts))
    (after : List (Option OpenField)) : Type 0 where
  pub parts : List Part
  pub file : HaveIndexedParts schema bytes parts
  pub all : AllGoOn (AddsPositions parts) before after

-- why not
abbrev pub PositionsUnopened : Schema → List ℕ → List (Option FirstParts) → Type 0
PositionsUnopened schema bytes before = (parts : List Part) → HaveIndexedParts schema bytes parts
    → OneStops (LacksPositions parts) before
