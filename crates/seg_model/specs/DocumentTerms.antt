-- The terms of documents with their postings, and the stored documents.
use Rattle.std.specs.Prelude.{ℕ, ◌+◌, List, [], ◌∷◌, ◌++◌, map, filter, length, Option, Some, None, nat_eq, ◌==◌, ◌||◌, ◌&&◌, if◌then◌else◌}
use Rattle.std.specs.List.{flat_map}
use Rattle.std.specs.Ordering.{nat_cmp}
use Rattle.std.specs.Cmp.Lexicographic.{slice_cmp}
use Rattle.std.specs.Str.{bytes_eq}
use Rattle.std.specs.FinMap.{FinMap}
use Rattle.seg_values.specs.declared.schema.FieldEntry.{FieldEntry}
use Rattle.seg_values.specs.declared.schema.IndexOption.{IndexOption}
use Rattle.seg_values.specs.declared.schema.IndexOption.TheVariants.{No, Basic, Freqs, Positions}
use Rattle.seg_values.specs.Tree.{Document}
use Rattle.seg_model.specs.Fields.{Schema, Analyzer, is_text, is_json, fields}
use Rattle.seg_model.specs.Occurrences.{Occurrence, occurrences}
use Rattle.seg_common.specs.TabulatedMaps.{tabulated}
pub use Rattle.seg_values.specs.StoredDocuments.{stored_leaf, stored_value, stored_document}

-- what a posting tells besides its document: nothing, how often the term occurs there, or where
pub data Recorded : Type 0 where
  presence : Recorded
  frequency : ℕ → Recorded
  positions : List ℕ → Recorded

-- a document in which a term occurs
pub record Posting : Type 0 where
  pub document : ℕ
  pub recorded : Recorded

-- terms in byte order, each with its postings
abbrev pub Terms : Type 0
Terms = FinMap (slice_cmp nat_cmp) (List Posting)

-- the byte after the first byte 0
abbrev pub type_code : List ℕ → ℕ
type_code [] = 0
type_code (b ∷ []) = 0
type_code (b ∷ c ∷ rest) = if b == 0 then c else type_code (c ∷ rest)

-- what a term records: a text, and a JSON text, what `index` says; every other term its documents alone
abbrev pub term_option : FieldEntry → List ℕ → IndexOption
term_option entry bytes = if is_text entry.kind || (is_json entry.kind && nat_eq (type_code bytes) 115)
    then entry.index else Basic

-- what is recorded of a term that occurs at these positions
abbrev pub record_of : IndexOption → List ℕ → Recorded
record_of No ps = presence
record_of Basic ps = presence
record_of Freqs ps = frequency (length ps)
record_of Positions ps = positions ps

-- the positions at which the bytes occur in a document, in its order
abbrev pub positions_of : List ℕ → List Occurrence → List ℕ
positions_of bytes occurred = map (λ o. o.position) (filter (λ o. bytes_eq bytes o.bytes) occurred)

-- nothing, where the term does not occur
abbrev pub if_occurs : IndexOption → List ℕ → Option Recorded
if_occurs option [] = None
if_occurs option (p ∷ ps) = Some (record_of option (p ∷ ps))

-- what a document records of a term
abbrev pub recorded_in : FieldEntry → List ℕ → List Occurrence → Option Recorded
recorded_in entry bytes occurred = if_occurs (term_option entry bytes) (positions_of bytes occurred)

-- a document is listed where it records something
abbrev pub listed : ℕ → Option Recorded → List Posting
listed document None = []
listed document (Some r) = record { document = document; recorded = r } ∷ []

-- the postings, from what each document records; the first has the id `first`
abbrev pub postings_from : ℕ → List (Option Recorded) → List Posting
postings_from first [] = []
postings_from first (r ∷ rs) = listed first r ++ postings_from (first + 1) rs

-- the postings of a term in documents
abbrev pub postings_of : FieldEntry → List ℕ → List (List Occurrence) → List Posting
postings_of entry bytes documents = postings_from 0 (map (recorded_in entry bytes) documents)

-- the postings, where there are any
abbrev pub if_any : List Posting → Option (List Posting)
if_any [] = None
if_any (p ∷ ps) = Some (p ∷ ps)

-- the bytes of each value that occurs in a field of documents, with its postings
abbrev pub terms_of : FieldEntry → List (List Occurrence) → Terms
terms_of entry documents = tabulated (λ term. if_any (postings_of entry term documents))
    (flat_map (map (λ o. o.bytes)) documents)

-- the terms of one field of documents
abbrev pub field_terms : Schema → Analyzer → List Document → ℕ × FieldEntry → Terms
field_terms schema analyzer documents f = terms_of f.1 (map (λ d. occurrences schema analyzer d f.0) documents)

-- the terms of each field of the schema; a field that is not indexed has none
abbrev pub all_terms : Schema → Analyzer → List Document → List Terms
all_terms schema analyzer documents = map (field_terms schema analyzer documents) (fields schema)
