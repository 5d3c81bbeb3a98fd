use Rattle.std.proofs.Common.{ℕ, List, [], rules, subst, get_or}
use Rattle.std.specs.Cmp.Lexicographic.{nat_list_cmp_total}
use Rattle.std.specs.List.Sorted.{IsPermutation}
use Rattle.seg_common.proofs.ByOrder.{sorted_by}
use Rattle.seg_column_format.proofs.SortedTerms.{ascending}
use Rattle.seg_column_format.proofs.term_order.sorted_numbers.Goals as goal

pub returns : goal.returns
returns c =
    let terms = c.args.terms.now in
    let moved = subst (λ (l : List ℕ). IsPermutation l c.sort_unstable_by.new.self.items) c.in_ok-numbers.ensures
    c.sort_unstable_by.ensures.permutation in
    let up = sorted_by nat_list_cmp_total (λ (n : ℕ). get_or terms n []) c.sort_unstable_by.new.self.items
    c.sort_unstable_by.ensures.sorted (λ a r q k. search rules) in
    ascending terms c.requires c.sort_unstable_by.new.self.items moved up
