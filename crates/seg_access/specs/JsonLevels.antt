-- The children of a list of JSON values have fewer levels than the list has.
use Rattle.std.specs.Prelude.{◌≤◌, List, [], ◌∷◌, map}
use Rattle.std.proofs.Common.{arith}
use denote.Param.Weighed.{most}
use Rattle.seg_access.specs.declared.json_value.JsonMember.{JsonMember}
use Rattle.seg_access.specs.declared.json_value.JsonValue.{JsonValue}
use Rattle.seg_access.specs.declared.json_value.JsonValue.TheVariants.{Null, Bool, U64, I64, Str, Array, Object}
use Rattle.seg_access.specs.declared.json_value.JsonMembers.TheDeep.{deep-JsonValue, deep-JsonMember}
use Rattle.seg_values.specs.Tree.{levels, most_levels, most_member_levels, trees_from, members_from}
use Rattle.seg_access.specs.JsonTrees.{tree_of_json, member_of_json}

deep-le : (v : JsonValue) → deep-JsonValue v ≤ levels (tree_of_json v)
deep-le Null = omega arith
deep-le (Str s) = omega arith
deep-le (U64 s) = omega arith
deep-le (I64 s) = omega arith
deep-le (Bool s) = omega arith
deep-le (Array ts) = omega arith
deep-le (Object ms) = omega arith

pub most_deep-le : (vs : List JsonValue) → most deep-JsonValue vs ≤ most_levels (trees_from (map tree_of_json vs))
most_deep-le [] = omega arith
most_deep-le (v ∷ vs) = omega (arith, deep-le v, most_deep-le vs)

pub most_member_deep-le : (ms : List JsonMember)
    → most deep-JsonMember ms ≤ most_member_levels (members_from (map member_of_json ms))
most_member_deep-le [] = omega arith
most_member_deep-le (m ∷ ms) = omega (arith, deep-le m.value, most_member_deep-le ms)
