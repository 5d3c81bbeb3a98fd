-- Terms, and the bytes of values.
use Rattle.std.specs.Prelude.{ℕ, List, []}
use Rattle.std.specs.Int.{w64, to_be_bytes}
use Rattle.seg_common.specs.DateUnits.{cut_to, nanos_in_second}
pub use Rattle.seg_common.specs.MappableValues.{raised, bit}
use Rattle.seg_values.specs.Tree.{Leaf, text, unsigned, signed, boolean, date, facet, byte_string, ip}

-- a term: a field, and value bytes
pub record TermKey : Type 0 where
  pub field : ℕ
  pub bytes : List ℕ

-- the value bytes of a leaf that makes one term; a text is its token, and a facet one of its prefixes
abbrev pub value_bytes : Leaf → List ℕ
value_bytes (text s) = s
value_bytes (unsigned n) = to_be_bytes w64 n
value_bytes (signed z) = to_be_bytes w64 (raised z)
value_bytes (boolean b) = to_be_bytes w64 (bit b)
value_bytes (date nanos) = to_be_bytes w64 (raised (cut_to nanos_in_second nanos))
value_bytes (facet encoded) = encoded
value_bytes (byte_string b) = b
value_bytes (ip octets) = octets
value_bytes _ = []
