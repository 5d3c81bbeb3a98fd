-- The bytes of values in JSON fields.
use Rattle.std.specs.Prelude.{ℕ, ◌^◌, List, [], ◌∷◌, nat_lt, pos, if◌then◌else◌, Option, Some, None}
use Rattle.std.specs.Int.{w64, to_be_bytes}
use Rattle.seg_common.specs.MappableValues.{raised, lowered, is_bit, is_one}
use Rattle.seg_values.specs.declared.fast_value.LeafCode.{LeafCode}
use Rattle.seg_values.specs.declared.field_type.FieldType.{FieldType}
use Rattle.seg_values.specs.declared.field_type.FieldType.TheVariants as types
use Rattle.seg_values.specs.Tree.{Leaf, unsigned, signed, boolean, date}
use Rattle.seg_values.specs.ValueBytes.{value_bytes}

-- the type code and value bytes of a leaf that is no text: `i`, `u`, `o` or `d`; a u64 that fits i64 is coded `i`
abbrev pub coded_value : Leaf → List (List ℕ)
coded_value (unsigned n) =
    (if nat_lt n (2 ^ 63) then 105 ∷ to_be_bytes w64 (raised (pos n)) else 117 ∷ to_be_bytes w64 n) ∷ []
coded_value (signed z) = (105 ∷ value_bytes (signed z)) ∷ []
coded_value (boolean b) = (111 ∷ value_bytes (boolean b)) ∷ []
coded_value (date nanos) = (100 ∷ value_bytes (date nanos)) ∷ []
coded_value _ = []

-- a type code, and the bytes of the number after it
abbrev pub code_bytes : LeafCode → List ℕ
code_bytes c = c.code ∷ to_be_bytes w64 c.number

-- the type code and value bytes of a token: `s`
abbrev pub coded_token : List ℕ → List ℕ
coded_token token = 115 ∷ token

-- the leaf of a type that a number stands for
abbrev pub leaf_of_number : FieldType → ℕ → Option Leaf
leaf_of_number types.U64 n = Some (unsigned n)
leaf_of_number types.I64 n = Some (signed (lowered n))
leaf_of_number types.Bool n = if is_bit n then Some (boolean (is_one n)) else None
leaf_of_number types.Date n = Some (date (lowered n))
leaf_of_number _ n = None
