-- The words that a meta has for kinds, options, precisions and compressions.
use Rattle.std.specs.Prelude.{ℕ, List, codes}
use Rattle.seg_common.specs.declared.precision.DateTimePrecision.{DateTimePrecision}
use Rattle.seg_common.specs.declared.precision.DateTimePrecision.TheVariants as precision
use Rattle.seg_values.specs.declared.schema.FieldKind.{FieldKind}
use Rattle.seg_values.specs.declared.schema.FieldKind.TheVariants as kind
use Rattle.seg_values.specs.declared.schema.IndexOption.{IndexOption}
use Rattle.seg_values.specs.declared.schema.IndexOption.TheVariants as index
use Rattle.seg_model.specs.Input.{Compression, uncompressed, lz4, zstd}

-- the word of a compression
abbrev pub compression_word : Compression → List ℕ
compression_word uncompressed = codes "none"
compression_word lz4 = codes "lz4"
compression_word zstd = codes "zstd"

-- the word of a kind of field
abbrev pub kind_word : FieldKind → List ℕ
kind_word kind.Text = codes "text"
kind_word kind.U64 = codes "u64"
kind_word kind.I64 = codes "i64"
kind_word kind.Bool = codes "bool"
kind_word kind.Date = codes "date"
kind_word kind.Facet = codes "facet"
kind_word kind.Bytes = codes "bytes"
kind_word kind.IpAddr = codes "ip"
kind_word kind.Json = codes "json"

-- the word of what terms record
abbrev pub index_word : IndexOption → List ℕ
index_word index.No = codes "no"
index_word index.Basic = codes "basic"
index_word index.Freqs = codes "freqs"
index_word index.Positions = codes "positions"

-- the word of a unit of time
abbrev pub precision_word : DateTimePrecision → List ℕ
precision_word precision.Seconds = codes "seconds"
precision_word precision.Milliseconds = codes "milliseconds"
precision_word precision.Microseconds = codes "microseconds"
precision_word precision.Nanoseconds = codes "nanoseconds"
