-- The JSON value of a meta has no float, so its text is known.
use Rattle.std.proofs.Common.{◌≡◌, ℕ, List, [], ◌∷◌, map, false, Option, Some, None, refl, ap, ◌∙◌, subst}
use Rattle.json.specs.Layout.{pretty}
use Rattle.json.specs.Lex.{tokens}
use Rattle.serde_json.specs.Data.{Data}
use Rattle.serde_json.specs.View.{items_of}
use Rattle.serde_json.specs.Written.{IsInOrder, has_float, items_have_float}
use Rattle.serde_json.proofs.Texts.{tokens_from_order}
use Rattle.seg_values.specs.declared.schema.FieldEntry.{FieldEntry}
use Rattle.seg_meta.specs.IndexOfFiles.{Deletes, ListedSegment, Meta}
use Rattle.seg_meta.specs.MetaJson.{text_json, entry_json, deletes_json, segment_json, meta_json}
use Rattle.seg_meta.specs.MetaText.{pretty_text}

none_in : {A : Type 0} (f : A → Data) → ((a : A) → has_float (f a) ≡ false) → (xs : List A) → items_have_float (items_of (map f xs)) ≡ false
none_in f h [] = refl
none_in f h (x ∷ xs) = rw (h x) (none_in f h xs)

in_text : (text : Option (List ℕ)) → has_float (text_json text) ≡ false
in_text None = refl
in_text (Some t) = refl

in_entry : (e : FieldEntry) → has_float (entry_json e) ≡ false
in_entry e = rw (in_text e.fast_tokenizer, in_text e.tokenizer)

in_deletes : (deletes : Option Deletes) → has_float (deletes_json deletes) ≡ false
in_deletes None = refl
in_deletes (Some d) = refl

in_segment : (s : ListedSegment) → has_float (segment_json s) ≡ false
in_segment s = rw (in_deletes s.deletes)

in_meta : (m : Meta) → has_float (meta_json m) ≡ false
in_meta m = rw (in_text m.payload, none_in entry_json in_entry m.schema, none_in segment_json in_segment m.segments)

-- bytes that lay the value of a meta out are its text
pub laid_out : (bytes : List ℕ) (d : Data) (m : Meta) → bytes ≡ pretty (tokens bytes) → IsInOrder bytes d → d ≡ meta_json m → bytes ≡ pretty_text (meta_json m)
laid_out bytes d m layout order is = layout ∙ ap pretty (tokens_from_order bytes (meta_json m) (subst (IsInOrder bytes) is order) (in_meta m))
