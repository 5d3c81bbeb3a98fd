-- Which JSON value bytes are.
use Rattle.std.proofs.Common.{◌≡◌, ℕ, List, Bool, true, false, Some, None, refl, if◌then◌else◌}
use Rattle.std.specs.Str.{IsUtf8, is_utf8}
use Rattle.std.proofs.lemmas.Str.{IsUtf8-from_is_utf8, is_utf8-from_IsUtf8}
use Rattle.serde_json.specs.Data.{Data}
use Rattle.serde_json.specs.Read.{read}
use Rattle.seg_meta.specs.ParsedMeta.{json_of}

-- a text that is read is the value of its bytes
pub json_of-read : (bytes : List ℕ) (d : Data) → IsUtf8 bytes × (read bytes ≡ Some d) → json_of bytes ≡ Some d
json_of-read bytes d h = rw (is_utf8-from_IsUtf8 bytes h.0) h.1

-- text that isn't read, or no text
pub either : (bytes : List ℕ) (b : Bool) → is_utf8 bytes ≡ b → (IsUtf8 bytes → read bytes ≡ None) → (if b then read bytes else None) ≡ None
either bytes true e h = h (IsUtf8-from_is_utf8 bytes e)
either bytes false e h = refl

-- bytes that are refused, where they are text, have no value
pub json_of-refused : (bytes : List ℕ) → (IsUtf8 bytes → read bytes ≡ None) → json_of bytes ≡ None
json_of-refused bytes h = either bytes (is_utf8 bytes) refl h
