-- Which tokenizers are to be known.
use Rattle.std.specs.Prelude.{◌≡◌, IsTrue, Bool, true, ◌&&◌, ◌||◌}
use Rattle.seg_values.specs.declared.schema.FieldEntry.{FieldEntry}
use Rattle.seg_model.specs.Fields.{is_text, is_json, is_indexed, indexing_tokenizer}
use Rattle.seg_model.specs.ValidInputs.{Known}

-- an indexed text or JSON field
abbrev pub has_indexed_texts : FieldEntry → Bool
has_indexed_texts entry = is_indexed entry && (is_text entry.kind || is_json entry.kind)

-- the indexing tokenizer of a field is known, where its texts are indexed
abbrev pub KnowsTexts : Known → FieldEntry → Type 0
KnowsTexts known entry = has_indexed_texts entry ≡ true → IsTrue (known (indexing_tokenizer entry))
