-- What contents of full shape are for a schema.
use Rattle.std.specs.Prelude.{◌==◌, if◌then◌else◌, ◌≡◌, ◌<◌, ◌≤◌, is_some, ℕ, ◌+◌, List, [], ◌∷◌, ◌++◌, length, Bool, true, false, Some, None, ◌⊎◌, IsUtf8, nat_eq}
use Rattle.std.specs.List.{slice_get, list_any, AllByRecursion}
use Rattle.std.specs.FinMap.{get}
use Rattle.seg_values.specs.declared.schema.FieldEntry.{FieldEntry}
use Rattle.seg_values.specs.declared.schema.IndexOption.{IndexOption}
use Rattle.seg_values.specs.declared.schema.IndexOption.TheVariants.{No, Basic, Freqs, Positions}
use Rattle.seg_common.specs.declared.column_type.ColumnType.{ColumnType}
use Rattle.seg_common.specs.declared.column_type.ColumnType.TheVariants.{I64, U64, Str, Bool as Boolean, DateTime}
use Rattle.seg_model.specs.Fields.{Schema, is_indexed, is_json, is_facet, has_lengths}
use Rattle.seg_model.specs.DocumentTerms.{Recorded, presence, frequency, positions, Posting, type_code, term_option}
use Rattle.seg_model.specs.Columns.{ColumnKey, ColumnValue, declared_columns, is_declared, type_place, value_types, is_filled}
use Rattle.seg_model.specs.Contents.{Contents, terms_at, norms_at}

-- the type codes of JSON terms: `s`, `i`, `u`, `o`, `d`
abbrev pub is_type_code : ℕ → Bool
is_type_code code = list_any (nat_eq code) (115 ∷ 105 ∷ 117 ∷ 111 ∷ 100 ∷ [])

-- the bytes before the first byte 0
abbrev pub path_part : List ℕ → List ℕ
path_part [] = []
path_part (b ∷ bytes) = if b == 0 then [] else b ∷ path_part bytes

-- a term of a JSON field has a path in UTF-8, a byte 0 and a type code; one of a facet field is UTF-8
pub record IsTermOf (entry : FieldEntry) (bytes : List ℕ) : Type 0 where
  pub json : is_json entry.kind ≡ true → IsUtf8 (path_part bytes) × (is_type_code (type_code bytes) ≡ true)
  pub facet : is_facet entry.kind ≡ true → IsUtf8 bytes

-- what is recorded has the form that the term's option asks for
abbrev pub IsRecordOf : IndexOption → Recorded → Type 0
IsRecordOf No r = r ≡ presence
IsRecordOf Basic r = r ≡ presence
IsRecordOf Freqs r = (n : ℕ) × (0 < n) × (r ≡ frequency n)
IsRecordOf Positions r = (ps : List ℕ) × (0 < length ps) × (r ≡ positions ps)

-- postings by ascending documents, from the id `first` on and below `last`
abbrev pub ArePostings : IndexOption → ℕ → ℕ → List Posting → Type 0
ArePostings option first last [] = Unit {0}
ArePostings option first last (p ∷ ps) =
    (first ≤ p.document) × (p.document < last) × IsRecordOf option p.recorded
    × ArePostings option (p.document + 1) last ps

-- a term has the form of its field, and a posting
pub record IsTermWith (entry : FieldEntry) (documents : ℕ) (term : List ℕ) (postings : List Posting) : Type 0 where
  pub form : IsTermOf entry term
  pub occurs : 0 < length postings
  pub postings_ascend : ArePostings (term_option entry term) 0 documents postings

-- a path of a fast JSON field: its name, or its name, a byte 1 and any text
abbrev pub IsPathOf : FieldEntry → List ℕ → Type 0
IsPathOf entry path = (path ≡ entry.name) ⊎ ((rest : List ℕ) × IsUtf8 rest × (path ≡ entry.name ++ 1 ∷ rest))

-- a path of some fast JSON field of the schema
pub record IsJsonPath (schema : Schema) (path : List ℕ) : Type 0 where
  pub field : ℕ
  pub entry : FieldEntry
  pub in_schema : slice_get schema field ≡ Some entry
  pub json : is_json entry.kind ≡ true
  pub fast : entry.fast ≡ true
  pub named : IsPathOf entry path

-- the types of column that values of a JSON field have
abbrev pub is_json_type : ColumnType → Bool
is_json_type I64 = true
is_json_type U64 = true
is_json_type Str = true
is_json_type Boolean = true
is_json_type DateTime = true
is_json_type _ = false

-- a column that is not declared has a value, a path of a JSON field, and a type of JSON values
pub record IsFreeColumn (schema : Schema) (key : ColumnKey) (rows : List (List ColumnValue)) : Type 0 where
  pub filled : list_any is_filled rows ≡ true
  pub path : IsJsonPath schema key.path
  pub typed : is_json_type key.type ≡ true

-- whether a column of the type may have the value
abbrev pub has_type : ColumnType → ColumnValue → Bool
has_type type value = list_any (λ t. nat_eq (type_place type) (type_place t)) (value_types value)

-- each value of each row has the type
abbrev pub AreRowsOf : ColumnType → List (List ColumnValue) → Type 0
AreRowsOf type rows = AllByRecursion (AllByRecursion (λ v. has_type type v ≡ true)) rows

-- contents of full shape; a path has at most one of the columns I64 and U64, unless both are declared
pub record HasFullShape (schema : Schema) (contents : Contents) : Type 0 where
  pub terms_per_field : length contents.terms ≡ length schema
  pub terms : (field : ℕ) (entry : FieldEntry) → slice_get schema field ≡ Some entry → is_indexed entry ≡ true
      → (term : List ℕ) (postings : List Posting) → get (terms_at contents field) term ≡ Some postings
      → IsTermWith entry contents.documents term postings
  pub no_terms : (field : ℕ) (entry : FieldEntry) → slice_get schema field ≡ Some entry → is_indexed entry ≡ false
      → (term : List ℕ) → get (terms_at contents field) term ≡ None
  pub stored : length contents.stored ≡ contents.documents
  pub norms_per_field : length contents.norms ≡ length schema
  pub norms : (field : ℕ) (entry : FieldEntry) → slice_get schema field ≡ Some entry → has_lengths entry ≡ true
      → (length (norms_at contents field) ≡ contents.documents)
      × AllByRecursion (λ id. id < 256) (norms_at contents field)
  pub no_norms : (field : ℕ) (entry : FieldEntry) → slice_get schema field ≡ Some entry → has_lengths entry ≡ false
      → norms_at contents field ≡ []
  pub declared : (key : ColumnKey) → is_declared (declared_columns schema) key ≡ true
      → is_some (get contents.columns key) ≡ true
  pub free : (key : ColumnKey) (rows : List (List ColumnValue)) → get contents.columns key ≡ Some rows
      → is_declared (declared_columns schema) key ≡ false → IsFreeColumn schema key rows
  pub rows : (key : ColumnKey) (rows : List (List ColumnValue)) → get contents.columns key ≡ Some rows
      → (length rows ≡ contents.documents) × AreRowsOf key.type rows
  pub one_number_type : (path : List ℕ) → is_some (get contents.columns (record { path = path; type = I64 })) ≡ true
      → is_some (get contents.columns (record { path = path; type = U64 })) ≡ true
      → (is_declared (declared_columns schema) (record { path = path; type = I64 }) ≡ true)
      × (is_declared (declared_columns schema) (record { path = path; type = U64 }) ≡ true)
