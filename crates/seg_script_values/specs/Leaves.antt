-- The leaf that a text or a number is, by the kind that it is read by.
use Rattle.std.specs.Prelude.{ℕ, List, Option, None, unwrap_or, slice_index, if◌then◌else◌}
use Rattle.std.specs.Char.{is_ascii_digit}
use Rattle.std.specs.Option.{option_or, option_map}
use Rattle.serde_json.specs.Data.{Num}
use Rattle.serde_json.specs.Find.{as_i64, as_u64}
use Rattle.seg_common.specs.ParsedDates.{date_of}
use Rattle.seg_values.specs.declared.schema.FieldKind.{FieldKind}
use Rattle.seg_values.specs.declared.schema.FieldKind.TheVariants as kind
use Rattle.seg_values.specs.Tree.{Leaf, text, unsigned, signed, date, facet, byte_string, ip}
use Rattle.seg_script_values.specs.Addresses.{address_of}
use Rattle.seg_script_values.specs.ByteTexts.{bytes_of}
use Rattle.seg_script_values.specs.FacetTexts.{facet_of}

-- what a text tells but itself
abbrev pub told_leaf : FieldKind → List ℕ → Option Leaf
told_leaf kind.Text s = None
told_leaf kind.U64 s = None
told_leaf kind.I64 s = None
told_leaf kind.Bool s = None
told_leaf kind.Date s = option_map date (date_of s)
told_leaf kind.Facet s = option_map facet (facet_of s)
told_leaf kind.Bytes s = option_map byte_string (bytes_of s)
told_leaf kind.IpAddr s = option_map ip (address_of s)
told_leaf kind.Json s = if is_ascii_digit (slice_index s 0) then option_map date (date_of s) else None

-- a date, a facet, bytes or an address where the text reads as one, else the text
abbrev pub text_leaf : FieldKind → List ℕ → Leaf
text_leaf how s = unwrap_or (told_leaf how s) (text s)

-- an i64 where it fits one
abbrev pub signed_first : Num → Option Leaf
signed_first n = option_or (option_map signed (as_i64 n)) (option_map unsigned (as_u64 n))

-- a u64 where it isn't negative
abbrev pub unsigned_first : Num → Option Leaf
unsigned_first n = option_or (option_map unsigned (as_u64 n)) (option_map signed (as_i64 n))

-- a whole number; another one is no leaf
abbrev pub number_leaf : FieldKind → Num → Option Leaf
number_leaf kind.U64 n = unsigned_first n
number_leaf _ n = signed_first n
