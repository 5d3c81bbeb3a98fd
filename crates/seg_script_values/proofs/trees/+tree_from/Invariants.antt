use Rattle.std.proofs.Common.{◌≡◌, ◌++◌, option_map, List, ℕ}
use Rattle.std.specs.Vec.Iter.{into_iter_items}
use Rattle.serde_json.specs.View.{items_view, members_view}
use Rattle.seg_values.specs.Tree.{Tree}
use Rattle.seg_script_values.specs.Trees.{values_from, members_read}
use Rattle.seg_script_values.proofs.trees.+tree_from.Given as goal

-- what is done, with what is left, is all
abbrev pub invariant-values_from-loop-item : goal.invariant-values_from-loop-item
invariant-values_from-loop-item l =
    option_map (λ (rest : List Tree). l.values ++ rest) (values_from l.kind (items_view (into_iter_items l.item-iterator))) ≡ values_from l.kind (items_view l.fn.items.items)

abbrev pub invariant-members_from-loop-key : goal.invariant-members_from-loop-key
invariant-members_from-loop-key l =
    option_map (λ (rest : List (List ℕ × Tree)). l.trees ++ rest) (members_read (members_view l.key-iterator)) ≡ members_read (members_view l.fn.members.entries)
