-- Trees and members have texts in UTF-8 where the values that they stand for have.
use Rattle.std.proofs.Common.{List, [], ◌∷◌, map}
use Rattle.std.specs.List.{AllByRecursion}
use Rattle.seg_values.specs.declared.value.Member.{Member}
use Rattle.seg_values.specs.declared.value.OwnedValue.{OwnedValue}
use Rattle.std.specs.Prelude.{IsUtf8}
use Rattle.seg_values.specs.Tree.{trees_from, members_from}
use Rattle.seg_values.specs.Utf8Values.{IsUtf8Tree, AreUtf8Trees, AreUtf8Members}
use Rattle.seg_values.specs.ValueTrees.{tree_of, member_of}

pub are_utf8_trees : (vs : List OwnedValue) → AllByRecursion (λ v. IsUtf8Tree (tree_of v)) vs → AreUtf8Trees (trees_from (map tree_of vs))
are_utf8_trees [] h = tt
are_utf8_trees (v ∷ vs) h = (h.0, are_utf8_trees vs h.1)

pub are_utf8_members : (ms : List Member) → AllByRecursion (λ m. IsUtf8 m.key × IsUtf8Tree (tree_of m.value)) ms → AreUtf8Members (members_from (map member_of ms))
are_utf8_members [] h = tt
are_utf8_members (m ∷ ms) h = (h.0.0, h.0.1, are_utf8_members ms h.1)
