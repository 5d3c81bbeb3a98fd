use Rattle.std.proofs.Common.{List, ℕ, rules}
use Rattle.std.specs.Cmp.Lexicographic.{nat_list_cmp_total}
use Rattle.seg_common.proofs.ByOrder.{sorted_by}
use Rattle.seg_column_format.proofs.ByteOrder.{ascend_sorted}
use Rattle.seg_column_format.proofs.path_starts.sort.Goals as goal

pub returns-clause-ascend : goal.returns-clause-ascend
returns-clause-ascend c =
    let up = sorted_by nat_list_cmp_total (λ (s : List ℕ). s) c.sort_unstable_by.new.self.items
    c.sort_unstable_by.ensures.sorted (λ a r q k. search rules) in
    ascend_sorted c.sort_unstable_by.new.self.items up
