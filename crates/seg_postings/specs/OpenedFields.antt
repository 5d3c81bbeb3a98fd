-- A field as it is opened, part by part.
use Rattle.std.specs.Prelude.{◌≡◌, ℕ, ◌<◌, ◌&&◌, ◌||◌, nat_eq, nat_lt, if◌then◌else◌, Bool, true, List, [], length, map, slice_range, Some, unwrap_or}
use Rattle.std.specs.List.{AllByRecursion}
use Rattle.seg_common.specs.declared.term_info.TermInfo.{TermInfo}
use Rattle.seg_values.specs.declared.schema.FieldEntry.{FieldEntry}
use Rattle.seg_values.specs.declared.schema.FieldKind.{FieldKind}
use Rattle.seg_values.specs.declared.schema.IndexOption.{IndexOption}
use Rattle.seg_values.specs.declared.schema.IndexOption.TheVariants as options
use Rattle.seg_model.specs.Fields.{is_text, is_json}
use Rattle.seg_model.specs.DocumentTerms.{Posting, type_code}
use Rattle.seg_termdict.specs.Dictionary.{Term}
use Rattle.seg_postings.specs.declared.record_kind.RecordKind.{RecordKind}
use Rattle.seg_postings.specs.declared.record_kind.RecordKind.TheVariants.{Documents}
use Rattle.seg_postings.specs.RecordKinds.{kind_of}
use Rattle.seg_postings.specs.Postings.{TermPostings, term_postings}
use Rattle.seg_postings.specs.RemainingPostings.{is_term_of}
use Rattle.seg_postings.specs.Field.{IsField}
use Rattle.seg_postings.specs.FieldSerializers.{TermWritten}
use Rattle.seg_postings.specs.FieldParts.{LiesWithin}
use Rattle.seg_postings.specs.TermForms.{has_form}

-- by what a field is read: what it is, what its texts record, and below which number its documents lie
pub record FieldRules : Type 0 where
  pub kind : FieldKind
  pub index : IndexOption
  pub max_doc : ℕ

-- the kind that the entry of a field asks a term for, by what the field is and what its texts record
abbrev pub asked_kind : FieldKind → IndexOption → List ℕ → RecordKind
asked_kind kind index bytes =
    kind_of (if is_text kind || (is_json kind && nat_eq (type_code bytes) 115) then index else options.Basic)

-- the rules of an entry, in a segment of this many documents
abbrev pub rules_of : FieldEntry → ℕ → FieldRules
rules_of entry max_doc = record { kind = entry.kind; index = entry.index; max_doc = max_doc }

-- the kind of a term by the rules
abbrev pub kind_by : FieldRules → List ℕ → RecordKind
kind_by rules bytes = asked_kind rules.kind rules.index bytes

-- three parts are a field by these rules
pub record IsFieldBy (rules : FieldRules) (dictionary postings positions : List ℕ) (total : ℕ)
    (terms : List TermWritten) : Type 0 where
  pub spells : IsField dictionary postings positions total terms
  pub formed : AllByRecursion (λ t. has_form rules.kind t.bytes ≡ true) terms
  pub kinds : AllByRecursion (λ t. t.kind ≡ kind_by rules t.bytes) terms
  pub low : AllByRecursion (λ t. AllByRecursion (λ p. p.document < rules.max_doc) t.postings) terms

-- the dictionary of a field
pub record FirstPart : Type 0 where
  pub dictionary : List ℕ
  pub rules : FieldRules

-- the dictionary and the postings of a field
pub record FirstParts : Type 0 where
  pub dictionary : List ℕ
  pub postings : List ℕ
  pub rules : FieldRules

-- whether a term can be read, occurs, and is as the rules ask
abbrev pub is_read : FieldRules → List ℕ → List ℕ → Term → Bool
is_read rules postings positions t =
    nat_lt 0 t.1.doc_freq
    && is_term_of (kind_by rules t.0) rules.max_doc
    (term_postings t.1.doc_freq (slice_range postings t.1.postings_start t.1.postings_end)
    (slice_range positions t.1.positions_start t.1.positions_end))

-- what the bytes in the ranges of an info are read as
abbrev pub postings_in : List ℕ → List ℕ → TermInfo → TermPostings
postings_in postings positions info =
    unwrap_or
    (term_postings info.doc_freq (slice_range postings info.postings_start info.postings_end)
    (slice_range positions info.positions_start info.positions_end))
    (record { kind = Documents; postings = [] })

-- a term that is open: its bytes, its info in the dictionary, what its postings keep, and these
pub record ReadTerm : Type 0 where
  pub bytes : List ℕ
  pub info : TermInfo
  pub kind : RecordKind
  pub postings : List Posting

-- a field that is open: the total of its tokens, and its terms
pub record OpenField : Type 0 where
  pub total : ℕ
  pub terms : List ReadTerm

-- a term as it is read from the parts
abbrev pub read_term : List ℕ → List ℕ → Term → ReadTerm
read_term postings positions t = record {
  bytes = t.0;
  info = t.1;
  kind = (postings_in postings positions t.1).kind;
  postings = (postings_in postings positions t.1).postings;
}

-- the terms of its dictionary
abbrev pub dictionary_terms : OpenField → List Term
dictionary_terms f = map (λ t. (t.bytes, t.info)) f.terms

-- its terms with their postings
abbrev pub written_terms : OpenField → List TermWritten
written_terms f = map (λ t. record { bytes = t.bytes; kind = t.kind; postings = t.postings }) f.terms

-- the ranges of a term lie within the parts, and are read as the postings of one document or more
pub record IsReadable (postings positions : List ℕ) (t : Term) : Type 0 where
  pub within : LiesWithin (length postings) (length positions) t
  pub read : term_postings t.1.doc_freq (slice_range postings t.1.postings_start t.1.postings_end)
      (slice_range positions t.1.positions_start t.1.positions_end)
      ≡ Some (postings_in postings positions t.1)
  pub occurs : 0 < t.1.doc_freq
