-- The parts of a meta that a JSON value says: settings, fields and segments.
use Rattle.std.specs.Prelude.{ℕ, ◌^◌, ◌+◌, ◌-◌, ◌*◌, List, [], ◌∷◌, ◌&&◌, if◌then◌else◌, Option, Some, None, nat_lt, nat_le, codes}
use Rattle.std.specs.Str.{bytes_eq}
use Rattle.serde_json.specs.Data.{Data}
use Rattle.serde_json.specs.Find.{as_bool, as_str}
use Rattle.seg_common.specs.SegmentIds.{id_text}
use Rattle.seg_common.specs.declared.precision.DateTimePrecision.{DateTimePrecision}
use Rattle.seg_common.specs.declared.precision.DateTimePrecision.TheVariants as precision
use Rattle.seg_values.specs.SchemaRules.{is_entry}
use Rattle.seg_values.specs.declared.schema.FieldEntry.{FieldEntry}
use Rattle.seg_values.specs.declared.schema.FieldKind.{FieldKind}
use Rattle.seg_values.specs.declared.schema.FieldKind.TheVariants as kind
use Rattle.seg_values.specs.declared.schema.IndexOption.{IndexOption}
use Rattle.seg_values.specs.declared.schema.IndexOption.TheVariants as index
use Rattle.seg_model.specs.Input.{Compression, uncompressed, lz4, zstd, Settings}
use Rattle.seg_meta.specs.IndexOfFiles.{Deletes, ListedSegment}
use Rattle.seg_meta.specs.JsonReaders.{given, provided, required, natural, below, nullable, word_of, has_only}

-- the compressions by their words
abbrev pub compressions : List (List ℕ × Compression)
compressions = (codes "none", uncompressed) ∷ (codes "lz4", lz4) ∷ (codes "zstd", zstd) ∷ []

-- the kinds of a field by their words
abbrev pub kinds : List (List ℕ × FieldKind)
kinds =
    (codes "text", kind.Text) ∷ (codes "u64", kind.U64) ∷ (codes "i64", kind.I64) ∷ (codes "bool", kind.Bool)
    ∷ (codes "date", kind.Date) ∷ (codes "facet", kind.Facet)
    ∷ (codes "bytes", kind.Bytes) ∷ (codes "ip", kind.IpAddr) ∷ (codes "json", kind.Json) ∷ []

-- what terms record, by its words
abbrev pub index_options : List (List ℕ × IndexOption)
index_options = (codes "no", index.No) ∷ (codes "basic", index.Basic) ∷ (codes "freqs", index.Freqs)
    ∷ (codes "positions", index.Positions) ∷ []

-- the units of time by their words
abbrev pub precisions : List (List ℕ × DateTimePrecision)
precisions = (codes "seconds", precision.Seconds) ∷ (codes "milliseconds", precision.Milliseconds)
    ∷ (codes "microseconds", precision.Microseconds) ∷ (codes "nanoseconds", precision.Nanoseconds) ∷ []

-- the members of settings
abbrev pub settings_members : List (List ℕ)
settings_members = codes "docstore_blocksize" ∷ codes "docstore_compress_dedicated_thread"
    ∷ codes "docstore_compression" ∷ []

-- settings: each member must be there
abbrev pub settings_from : Data → Option Settings
settings_from d =
    provided (has_only settings_members d)
    (given (required (below (2 ^ 32)) (codes "docstore_blocksize") d) (λ block_size.
    given (required as_bool (codes "docstore_compress_dedicated_thread") d) (λ dedicated_thread.
    given (required (word_of compressions) (codes "docstore_compression") d) (λ compression.
    Some (record { compression = compression; block_size = block_size; dedicated_thread = dedicated_thread })))))

-- the members of a field
abbrev pub entry_members : List (List ℕ)
entry_members =
    codes "expand_dots" ∷ codes "fast" ∷ codes "fast_tokenizer" ∷ codes "index" ∷ codes "kind" ∷ codes "name"
    ∷ codes "norms" ∷ codes "precision" ∷ codes "stored" ∷ codes "tokenizer" ∷ []

-- a field: each member must be there
abbrev pub entry_from : Data → Option FieldEntry
entry_from d =
    provided (has_only entry_members d)
    (given (required as_bool (codes "expand_dots") d) (λ expand_dots.
    given (required as_bool (codes "fast") d) (λ fast.
    given (required (nullable as_str) (codes "fast_tokenizer") d) (λ fast_tokenizer.
    given (required (word_of index_options) (codes "index") d) (λ index.
    given (required (word_of kinds) (codes "kind") d) (λ kind.
    given (required as_str (codes "name") d) (λ name.
    given (required as_bool (codes "norms") d) (λ norms.
    given (required (word_of precisions) (codes "precision") d) (λ precision.
    given (required as_bool (codes "stored") d) (λ stored.
    given (required (nullable as_str) (codes "tokenizer") d) (λ tokenizer.
    let e : FieldEntry = record {
      name = name;
      kind = kind;
      stored = stored;
      index = index;
      tokenizer = tokenizer;
      norms = norms;
      fast = fast;
      fast_tokenizer = fast_tokenizer;
      precision = precision;
      expand_dots = expand_dots;
    } in
    provided (is_entry e) (Some e))))))))))))

-- the members of deletes
abbrev pub deletes_members : List (List ℕ)
deletes_members = codes "num_deleted_docs" ∷ codes "opstamp" ∷ []

-- the deletes of a segment of this many documents
abbrev pub deletes_from : ℕ → Data → Option Deletes
deletes_from documents d =
    provided (has_only deletes_members d)
    (given (required (below (2 ^ 32)) (codes "num_deleted_docs") d) (λ number.
    given (required natural (codes "opstamp") d) (λ stamp.
    provided (nat_le 1 number && nat_le number documents) (Some (record { number = number; stamp = stamp })))))

-- the number that a hexadecimal digit in lower case stands for
abbrev pub digit_value : ℕ → ℕ
digit_value c = if nat_lt c 58 then c - 48 else c - 87

-- the number that hexadecimal digits go on to, after those before them
unfoldable pub digits_value : ℕ → List ℕ → ℕ
digits_value before [] = before
digits_value before (c ∷ cs) = digits_value (before * 16 + digit_value c) cs

-- the id that a text of 32 digits in lower case is
abbrev pub id_from : List ℕ → Option ℕ
id_from text =
    let id = digits_value 0 text in
    if nat_lt id (2 ^ 128) && bytes_eq text (id_text id) then Some id else None

-- the members of a segment
abbrev pub segment_members : List (List ℕ)
segment_members = codes "deletes" ∷ codes "max_doc" ∷ codes "segment_id" ∷ []

-- a segment: each member must be there
abbrev pub segment_from : Data → Option ListedSegment
segment_from d =
    provided (has_only segment_members d)
    (given (required (below (2 ^ 31)) (codes "max_doc") d) (λ documents.
    given (required (nullable (deletes_from documents)) (codes "deletes") d) (λ deletes.
    given (required (λ v. given (as_str v) id_from) (codes "segment_id") d) (λ id.
    Some (record { id = id; documents = documents; deletes = deletes })))))
