-- The terms of fields: as they are gathered, each with all its positions, and as their fields record them.
use Rattle.std.specs.Prelude.{ℕ, List, [], ◌∷◌, map, length}
use Rattle.std.specs.FinMap.{entries}
use Rattle.seg_values.specs.declared.schema.FieldEntry.{FieldEntry}
use Rattle.seg_values.specs.declared.schema.FieldKind.TheVariants.{Text}
use Rattle.seg_values.specs.declared.schema.IndexOption.TheVariants as options
use Rattle.seg_values.specs.Tree.{Document}
use Rattle.seg_model.specs.Fields.{Schema, Analyzer, fields}
use Rattle.seg_model.specs.Occurrences.{occurrences}
use Rattle.seg_model.specs.DocumentTerms.{Recorded, presence, frequency, positions, Posting, Terms, terms_of, field_terms}
use Rattle.seg_postings.specs.OpenedFields.{asked_kind}
use Rattle.seg_postings.specs.declared.asked_kind.AskedKind.{AskedKind}
use Rattle.seg_postings.specs.declared.record_kind.RecordKind.{RecordKind}
use Rattle.seg_postings.specs.declared.record_kind.RecordKind.TheVariants.{Documents, Counts, Positions}
use Rattle.seg_terms.specs.TermEntries.{TermEntries}

-- the terms of a field in byte order, and what says what their postings keep
pub record FieldTerms : Type 0 where
  pub asked : AskedKind
  pub terms : TermEntries

-- what says it of the terms of a field: what the field is, and what its texts record
abbrev pub asked_by : FieldEntry → AskedKind
asked_by entry = record { kind = entry.kind; index = entry.index }

-- the kind of a term
abbrev pub kind_in : AskedKind → List ℕ → RecordKind
kind_in asked bytes = asked_kind asked.kind asked.index bytes

-- a field, as if it recorded the positions of each term
abbrev pub positional : FieldEntry → FieldEntry
positional entry = record entry { kind = Text; index = options.Positions }

-- the terms of each field of documents, each with its positions, whatever the field records
abbrev pub positional_terms : Schema → Analyzer → List Document → List Terms
positional_terms schema analyzer documents =
    map (λ f. terms_of (positional f.1) (map (λ d. occurrences schema analyzer d f.0) documents)) (fields schema)

-- what a kind keeps of what is recorded with positions
abbrev pub kept_as : RecordKind → Recorded → Recorded
kept_as Documents r = presence
kept_as Counts (positions ps) = frequency (length ps)
kept_as Counts r = r
kept_as Positions r = r

-- and of postings
abbrev pub postings_as : RecordKind → List Posting → List Posting
postings_as kind postings = map (λ p. record { document = p.document; recorded = kept_as kind p.recorded }) postings

-- and of terms, each by its own kind
abbrev pub entries_as : AskedKind → TermEntries → TermEntries
entries_as asked terms = map (λ e. (e.0, postings_as (kind_in asked e.0) e.1)) terms

-- the terms of fields, as each field records them
abbrev pub recorded_fields : Schema → List TermEntries → List FieldTerms
recorded_fields [] terms = []
recorded_fields (entry ∷ schema) [] = []
recorded_fields (entry ∷ schema) (terms ∷ others) =
    record { asked = asked_by entry; terms = entries_as (asked_by entry) terms } ∷ recorded_fields schema others

-- the terms of each field of documents
abbrev pub fields_of : Schema → Analyzer → List Document → List FieldTerms
fields_of schema analyzer documents = map
    (λ f. record { asked = asked_by f.1; terms = entries (field_terms schema analyzer documents f) }) (fields schema)
