-- The JSON value of a meta is read from its own text.
use Rattle.std.proofs.Common.{◌≡◌, ℕ, ◌^◌, ◌<◌, List, [], ◌∷◌, ◌++◌, map, true, Option, Some, None, option_and_then, IsUtf8, refl, sym, ap, ◌∙◌, arith, append-nil}
use Rattle.std.specs.List.{AllByRecursion}
use Rattle.json.specs.Json as json
use Rattle.json.specs.Token.{Token}
use Rattle.json.specs.Tree.{json_tokens}
use Rattle.json.proofs.Printed.Trees.{value-json_tokens, ArePrintable-json_tokens}
use Rattle.json.proofs.Printed.Utf8.{are_ascii}
use Rattle.serde_json.specs.Data.{Data}
use Rattle.serde_json.specs.Read.{read, max_depth, of_json, of_items}
use Rattle.serde_json.specs.View.{items_of}
use Rattle.serde_json.specs.Written.{outline, items_outline}
use Rattle.serde_json.proofs.Numbers.{number_of-decimal}
use Rattle.seg_common.specs.declared.precision.DateTimePrecision.{DateTimePrecision}
use Rattle.seg_common.specs.declared.precision.DateTimePrecision.TheVariants as precision
use Rattle.seg_values.specs.declared.schema.FieldEntry.{FieldEntry}
use Rattle.seg_values.specs.declared.schema.FieldKind.{FieldKind}
use Rattle.seg_values.specs.declared.schema.FieldKind.TheVariants as kind
use Rattle.seg_values.specs.declared.schema.IndexOption.{IndexOption}
use Rattle.seg_values.specs.declared.schema.IndexOption.TheVariants as index
use Rattle.seg_model.specs.Input.{Compression, Settings, uncompressed, lz4, zstd}
use Rattle.seg_meta.specs.IndexOfFiles.{Deletes, ListedSegment, Meta}
use Rattle.seg_meta.specs.MetaBounds.{HasTexts, FitStamps, SegmentFits, MetaFits}
use Rattle.seg_meta.specs.MetaJson.{text_json, settings_json, entry_json, deletes_json, segment_json, meta_json}
use Rattle.seg_meta.specs.MetaText.{pretty_text, meta_text}
use Rattle.seg_meta.specs.Metas.{AreDeletes}
use Rattle.seg_meta.specs.MetaWords.{compression_word, kind_word, index_word, precision_word}
use Rattle.seg_meta.proofs.PlainJson.{IsPlain, plain_null, plain_flag, plain_string, plain_count, plain_word, plain_id, plain_text, plain_object, plain_list}
use Rattle.seg_meta.proofs.PrettyJson.{tokens-pretty, IsUtf8-pretty}

-- ---- the values are plain

ascii_compression : (c : Compression) → are_ascii (compression_word c) ≡ true
ascii_compression uncompressed = refl
ascii_compression lz4 = refl
ascii_compression zstd = refl

ascii_kind : (k : FieldKind) → are_ascii (kind_word k) ≡ true
ascii_kind kind.Text = refl
ascii_kind kind.U64 = refl
ascii_kind kind.I64 = refl
ascii_kind kind.Bool = refl
ascii_kind kind.Date = refl
ascii_kind kind.Facet = refl
ascii_kind kind.Bytes = refl
ascii_kind kind.IpAddr = refl
ascii_kind kind.Json = refl

ascii_index : (i : IndexOption) → are_ascii (index_word i) ≡ true
ascii_index index.No = refl
ascii_index index.Basic = refl
ascii_index index.Freqs = refl
ascii_index index.Positions = refl

ascii_precision : (p : DateTimePrecision) → are_ascii (precision_word p) ≡ true
ascii_precision precision.Seconds = refl
ascii_precision precision.Milliseconds = refl
ascii_precision precision.Microseconds = refl
ascii_precision precision.Nanoseconds = refl

plain_settings : (s : Settings) → s.block_size < 2 ^ 32 → IsPlain 3 (settings_json s)
plain_settings s h = plain_object 2 _ ((refl, plain_count 2 s.block_size (omega arith), (refl, plain_flag 2 s.dedicated_thread, (refl, plain_word 2 _ (ascii_compression s.compression), tt))))

plain_entry : (e : FieldEntry) → HasTexts e → IsPlain 2 (entry_json e)
plain_entry e h =
    plain_object 1 _ (
      refl,
      plain_flag 1 e.expand_dots,
      (
        refl,
        plain_flag 1 e.fast,
        (
          refl,
          plain_text 1 e.fast_tokenizer h.2,
          (
            refl,
            plain_word 1 _ (ascii_index e.index),
            (
              refl,
              plain_word 1 _ (ascii_kind e.kind),
              (
                refl,
                plain_string 1 e.name h.0,
                (
                  refl,
                  plain_flag 1 e.norms,
                  (refl, plain_word 1 _ (ascii_precision e.precision), (refl, plain_flag 1 e.stored, (refl, plain_text 1 e.tokenizer h.1, tt))),
                ),
              ),
            ),
          ),
        ),
      ),
    )

plain_deletes : (documents : ℕ) (d : Option Deletes) → documents < 2 ^ 31 → AreDeletes documents d → FitStamps d → IsPlain 1 (deletes_json d)
plain_deletes documents None few h k = plain_null 1
plain_deletes documents (Some d) few h k = plain_object 0 _ (refl, plain_count 0 d.number (omega (arith, h.1)), (refl, plain_count 0 d.stamp k, tt))

plain_segment : (s : ListedSegment) → SegmentFits s → IsPlain 2 (segment_json s)
plain_segment s h =
    plain_object 1 _ (refl, plain_deletes s.documents s.deletes h.1.0 h.1.1 h.2, (refl, plain_count 1 s.documents (omega (arith, h.1.0)), (refl, plain_id 1 s.id, tt)))

plain_meta : (m : Meta) → MetaFits m → IsPlain 4 (meta_json m)
plain_meta m fits =
    plain_object 3 _ (
      refl,
      plain_settings m.settings fits.block_size,
      (
        refl,
        plain_count 3 m.stamp fits.stamp,
        (
          refl,
          plain_text 3 m.payload fits.payload,
          (refl, plain_list 2 entry_json HasTexts plain_entry m.schema fits.fields, (refl, plain_list 2 segment_json SegmentFits plain_segment m.segments fits.segments, tt)),
        ),
      ),
    )

-- ---- the values are those of their tokens

text_kept : (text : Option (List ℕ)) → of_json (outline (text_json text)) ≡ Some (text_json text)
text_kept None = refl
text_kept (Some s) = refl

settings_kept : (s : Settings) → s.block_size < 2 ^ 32 → of_json (outline (settings_json s)) ≡ Some (settings_json s)
settings_kept s h = rw (number_of-decimal s.block_size (omega arith)) refl

entry_kept : (e : FieldEntry) → HasTexts e → of_json (outline (entry_json e)) ≡ Some (entry_json e)
entry_kept e h = rw (text_kept e.fast_tokenizer, text_kept e.tokenizer) refl

deletes_kept : (documents : ℕ) (d : Option Deletes) → documents < 2 ^ 31 → AreDeletes documents d → FitStamps d → of_json (outline (deletes_json d)) ≡ Some (deletes_json d)
deletes_kept documents None few h k = refl
deletes_kept documents (Some d) few h k = rw (number_of-decimal d.number (omega (arith, h.1)), number_of-decimal d.stamp k) refl

segment_kept : (s : ListedSegment) → SegmentFits s → of_json (outline (segment_json s)) ≡ Some (segment_json s)
segment_kept s h = rw (deletes_kept s.documents s.deletes h.1.0 h.1.1 h.2, number_of-decimal s.documents (omega (arith, h.1.0))) refl

items_kept : {A : Type 0} (write : A → Data) (P : A → Type 0) → ((x : A) → P x → of_json (outline (write x)) ≡ Some (write x)) → (xs : List A) → AllByRecursion P xs
    → of_items (items_outline (items_of (map write xs))) ≡ Some (items_of (map write xs))
items_kept write P h [] k = refl
items_kept write P h (x ∷ xs) k = rw (h x k.0, items_kept write P h xs k.1) refl

meta_kept : (m : Meta) → MetaFits m → of_json (outline (meta_json m)) ≡ Some (meta_json m)
meta_kept m fits =
    rw (
      settings_kept m.settings fits.block_size,
      number_of-decimal m.stamp fits.stamp,
      text_kept m.payload,
      items_kept entry_json HasTexts entry_kept m.schema fits.fields,
      items_kept segment_json SegmentFits segment_kept m.segments fits.segments,
    ) refl

-- ---- the text

abbrev whole : Option (json.Json × List Token) → Option Data
whole o = option_and_then of_json (option_and_then (λ p. json.if_last p.0 p.1) o)

-- a plain value is read from its pretty text, with a line feed after it
read_pretty : (d : Data) → IsPlain 4 d → of_json (outline d) ≡ Some d → read (pretty_text d ++ 10 ∷ []) ≡ Some d
read_pretty d plain kept =
    let shallow = plain.shallow in
    ap whole (ap (json.value max_depth) (tokens-pretty (json_tokens (outline d)) (ArePrintable-json_tokens (outline d) plain.numbers) ∙ sym (append-nil _)) ∙ value-json_tokens (outline d) max_depth [] (omega arith))
    ∙ kept

-- the text of a meta is UTF-8, and reads as its value
pub read-meta_text : (m : Meta) → MetaFits m → IsUtf8 (meta_text m) × (read (meta_text m) ≡ Some (meta_json m))
read-meta_text m fits = let plain = plain_meta m fits in (IsUtf8-pretty (json_tokens (outline (meta_json m))) plain.utf8, read_pretty (meta_json m) plain (meta_kept m fits))
