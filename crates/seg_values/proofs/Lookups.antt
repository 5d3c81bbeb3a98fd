-- Values of a field, found among pairs.
use Rattle.std.proofs.Common.{◌≡◌, ℕ, ◌+◌, ◌<◌, Bool, cond, List, length, map, drop, get_or, Some, nat_eq, ap, ◌∙◌}
use Rattle.std.specs.Map.{lookup}
use Rattle.seg_common.proofs.Lists.{drop-get_or}
use Rattle.seg_values.specs.declared.document.FieldValue.{FieldValue}
use Rattle.seg_values.specs.ValueTrees.{pair_of, tree_of}

-- what is found from a place on: at it, or after it
pub found_from : (field : ℕ) (items : List FieldValue) (i j : ℕ) (p : FieldValue) (b : Bool) → i < length items → j ≡ i + 1 → p ≡ get_or items i p → nat_eq field p.field ≡ b
    → lookup (nat_eq field) (map pair_of (drop i items)) ≡ cond b (Some (tree_of p.value)) (lookup (nat_eq field) (map pair_of (drop j items)))
found_from field items i j p b lt next is test =
    ap (λ l. lookup (nat_eq field) (map pair_of l)) (drop-get_or items i j p lt next is)
    ∙ ap (λ (t : Bool). cond t (Some (tree_of p.value)) (lookup (nat_eq field) (map pair_of (drop j items)))) test
