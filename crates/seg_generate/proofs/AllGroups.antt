-- All groups make the operations.
use Rattle.std.proofs.Common.{◌≡◌, ℕ, ap}
use Rattle.std.specs.List.{flat_map, range_with_len}
use Rattle.seg_generate.specs.GeneratedInput.{group_operations, operations}

pub all_groups : (seed n : ℕ) → n ≡ 250 → flat_map (group_operations seed) (range_with_len 0 n) ≡ operations seed
unfolding operations
all_groups seed n all = ap (λ m. flat_map (group_operations seed) (range_with_len 0 m)) all
