-- The children of a list of values have fewer levels than the list has.
use Rattle.std.specs.Prelude.{◌≤◌, List, [], ◌∷◌, map}
use Rattle.std.proofs.Common.{arith}
use denote.Param.Weighed.{most}
use Rattle.seg_values.specs.declared.value.Member.{Member}
use Rattle.seg_values.specs.declared.value.OwnedValue.{OwnedValue}
use Rattle.seg_values.specs.declared.value.OwnedValue.TheVariants.{Null, Str, PreTokStr, U64, I64, Bool, Date, Facet, Bytes, Array, Object, IpAddr}
use Rattle.seg_values.specs.declared.value.Members.TheDeep.{deep-OwnedValue, deep-Member}
use Rattle.seg_values.specs.Tree.{levels, most_levels, most_member_levels, trees_from, members_from}
use Rattle.seg_values.specs.ValueTrees.{tree_of, member_of}

deep-le : (v : OwnedValue) → deep-OwnedValue v ≤ levels (tree_of v)
deep-le Null = omega arith
deep-le (Str s) = omega arith
deep-le (PreTokStr s) = omega arith
deep-le (U64 s) = omega arith
deep-le (I64 s) = omega arith
deep-le (Bool s) = omega arith
deep-le (Date s) = omega arith
deep-le (Facet s) = omega arith
deep-le (Bytes s) = omega arith
deep-le (Array ts) = omega arith
deep-le (Object ms) = omega arith
deep-le (IpAddr a) = omega arith

pub most_deep-le : (vs : List OwnedValue) → most deep-OwnedValue vs ≤ most_levels (trees_from (map tree_of vs))
most_deep-le [] = omega arith
most_deep-le (v ∷ vs) = omega (arith, deep-le v, most_deep-le vs)

pub most_member_deep-le : (ms : List Member)
    → most deep-Member ms ≤ most_member_levels (members_from (map member_of ms))
most_member_deep-le [] = omega arith
most_member_deep-le (m ∷ ms) = omega (arith, deep-le m.value, most_member_deep-le ms)
