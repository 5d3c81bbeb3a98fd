-- Which JSON value bytes are.
use Rattle.std.proofs.Common.{◌≡◌, ℕ, List, Some, None, refl}
use Rattle.std.specs.Str.{IsUtf8, is_utf8}
use Rattle.std.proofs.lemmas.Str.{is_utf8-from_IsUtf8}
use Rattle.serde_json.specs.Data.{Data}
use Rattle.serde_json.specs.Read.{read}
use Rattle.seg_meta.proofs.Exports.{either}
use Rattle.seg_script.specs.Script.{json_of}

-- a text that is read is the value of its bytes
pub json_of-read : (bytes text : List ℕ) (d : Data) → text ≡ bytes → IsUtf8 text × (read text ≡ Some d) → json_of bytes ≡ Some d
json_of-read bytes text d same h = rw (← same, is_utf8-from_IsUtf8 text h.0) h.1

-- bytes that are refused, where they are text, have no value
pub json_of-refused : (bytes text : List ℕ) → text ≡ bytes → (IsUtf8 text → read text ≡ None) → json_of bytes ≡ None
json_of-refused bytes text same h = rw (← same) (either text (is_utf8 text) refl h)
