-- The meta that bytes are.
use Rattle.std.specs.Prelude.{ℕ, ◌^◌, ◌-◌, List, [], ◌∷◌, length, Bool, ◌&&◌, if◌then◌else◌, Option, Some, None, nat_lt, codes}
use Rattle.std.specs.Str.{is_utf8}
use Rattle.serde_json.specs.Data.{Data}
use Rattle.serde_json.specs.Find.{as_str}
use Rattle.serde_json.specs.Read.{read}
use Rattle.seg_values.specs.DistinctLists.{all_distinct}
use Rattle.seg_values.specs.SchemaRules.{same_name}
use Rattle.seg_values.specs.declared.schema.FieldEntry.{FieldEntry}
use Rattle.seg_meta.specs.IndexOfFiles.{ListedSegment, Meta}
use Rattle.seg_meta.specs.ParsedMetaParts.{settings_from, entry_from, segment_from}
use Rattle.seg_meta.specs.JsonReaders.{given, provided, required, natural, nullable, list_of, has_only}
use Rattle.seg_meta.specs.SavableMetas.{same_id}

-- a list of fewer than this many items, no two of them alike
abbrev pub distinct_list : {A : Type 0} → (Data → Option A) → (A → A → Bool) → ℕ → Data → Option (List A)
distinct_list read alike limit d = given (list_of read d)
    (λ xs. provided (all_distinct alike xs && nat_lt (length xs) limit) (Some xs))

-- fields with distinct names, whose number is below the largest of 32 bits
abbrev pub schema_from : Data → Option (List FieldEntry)
schema_from = distinct_list entry_from same_name (2 ^ 32 - 1)

-- fewer than 2^32 segments, with distinct ids
abbrev pub segments_from : Data → Option (List ListedSegment)
segments_from = distinct_list segment_from same_id (2 ^ 32)

-- the members of a meta
abbrev pub meta_members : List (List ℕ)
meta_members = codes "index_settings" ∷ codes "opstamp" ∷ codes "payload" ∷ codes "schema" ∷ codes "segments" ∷ []

-- the meta that a JSON value says: each member must be there
abbrev pub meta_from : Data → Option Meta
meta_from d =
    provided (has_only meta_members d)
    (given (required settings_from (codes "index_settings") d) (λ settings.
    given (required natural (codes "opstamp") d) (λ stamp.
    given (required (nullable as_str) (codes "payload") d) (λ payload.
    given (required schema_from (codes "schema") d) (λ schema.
    given (required segments_from (codes "segments") d) (λ segments.
    Some (record { settings = settings; schema = schema; stamp = stamp; payload = payload; segments = segments })))))))

-- the JSON value that bytes are; `read` by itself does not ask that they are UTF-8
abbrev pub json_of : List ℕ → Option Data
json_of bytes = if is_utf8 bytes then read bytes else None

-- the meta that bytes are
abbrev pub meta_read : List ℕ → Option Meta
meta_read bytes = given (json_of bytes) meta_from
