-- The parts of a meta are read from their own JSON values.
use Rattle.std.proofs.Common.{◌≡◌, ℕ, ◌<◌, ◌^◌, List, true, Option, Some, None, nat_lt, nat_le, refl, arith}
use Rattle.std.proofs.lemmas.Bool.Decides.{nat_tests}
use Rattle.serde_json.specs.Data.{string}
use Rattle.serde_json.specs.Find.{as_str}
use Rattle.seg_common.specs.declared.precision.DateTimePrecision.{DateTimePrecision}
use Rattle.seg_common.specs.declared.precision.DateTimePrecision.TheVariants as precision
use Rattle.seg_values.specs.SchemaRules.{is_entry}
use Rattle.seg_values.specs.declared.schema.FieldEntry.{FieldEntry}
use Rattle.seg_values.specs.declared.schema.FieldKind.{FieldKind}
use Rattle.seg_values.specs.declared.schema.FieldKind.TheVariants as kind
use Rattle.seg_values.specs.declared.schema.IndexOption.{IndexOption}
use Rattle.seg_values.specs.declared.schema.IndexOption.TheVariants as index
use Rattle.seg_model.specs.Input.{Compression, Settings, uncompressed, lz4, zstd}
use Rattle.seg_meta.specs.IndexOfFiles.{Deletes, ListedSegment}
use Rattle.seg_meta.specs.MetaJson.{text_json, settings_json, entry_json, deletes_json, segment_json}
use Rattle.seg_meta.specs.Metas.{AreDeletes}
use Rattle.seg_meta.specs.ParsedMetaParts.{compressions, kinds, index_options, precisions, settings_from, entry_from, deletes_from, segment_from}
use Rattle.seg_meta.specs.JsonReaders.{nullable, word_of}
use Rattle.seg_meta.specs.MetaWords.{compression_word, kind_word, index_word, precision_word}
use Rattle.seg_meta.proofs.IdDigits.{id_from-id_text}

word_of-compression : (c : Compression) → word_of compressions (string (compression_word c)) ≡ Some c
word_of-compression uncompressed = refl
word_of-compression lz4 = refl
word_of-compression zstd = refl

word_of-kind : (k : FieldKind) → word_of kinds (string (kind_word k)) ≡ Some k
word_of-kind kind.Text = refl
word_of-kind kind.U64 = refl
word_of-kind kind.I64 = refl
word_of-kind kind.Bool = refl
word_of-kind kind.Date = refl
word_of-kind kind.Facet = refl
word_of-kind kind.Bytes = refl
word_of-kind kind.IpAddr = refl
word_of-kind kind.Json = refl

word_of-index : (i : IndexOption) → word_of index_options (string (index_word i)) ≡ Some i
word_of-index index.No = refl
word_of-index index.Basic = refl
word_of-index index.Freqs = refl
word_of-index index.Positions = refl

word_of-precision : (p : DateTimePrecision) → word_of precisions (string (precision_word p)) ≡ Some p
word_of-precision precision.Seconds = refl
word_of-precision precision.Milliseconds = refl
word_of-precision precision.Microseconds = refl
word_of-precision precision.Nanoseconds = refl

pub text_back : (text : Option (List ℕ)) → nullable as_str (text_json text) ≡ Some text
text_back None = refl
text_back (Some t) = refl

pub settings_back : (s : Settings) → s.block_size < 2 ^ 32 → settings_from (settings_json s) ≡ Some s
settings_back s h =
    let small : nat_lt s.block_size (2 ^ 32) ≡ true = grind (arith, nat_tests) in
    rw (small, word_of-compression s.compression) refl

pub entry_back : (e : FieldEntry) → is_entry e ≡ true → entry_from (entry_json e) ≡ Some e
entry_back e h = rw (text_back e.fast_tokenizer, word_of-index e.index, word_of-kind e.kind, word_of-precision e.precision, text_back e.tokenizer, h) refl

deletes_back : (documents : ℕ) (d : Option Deletes) → AreDeletes documents d → documents < 2 ^ 31 → nullable (deletes_from documents) (deletes_json d) ≡ Some d
deletes_back documents None h few = refl
deletes_back documents (Some d) h few =
    let small : nat_lt d.number (2 ^ 32) ≡ true = grind (arith, nat_tests, h.1) in
    let some : nat_le 1 d.number ≡ true = grind (arith, nat_tests, h.0) in
    let most : nat_le d.number documents ≡ true = grind (arith, nat_tests, h.1) in
    rw (small, some, most) refl

pub segment_back : (s : ListedSegment) → s.id < 2 ^ 128 → s.documents < 2 ^ 31 → AreDeletes s.documents s.deletes → segment_from (segment_json s) ≡ Some s
segment_back s id few deletes =
    let small : nat_lt s.documents (2 ^ 31) ≡ true = grind (arith, nat_tests) in
    rw (small, deletes_back s.documents s.deletes deletes few, id_from-id_text s.id id) refl
