use Rattle.std.proofs.Common.{rules, tests, ◌∙◌, ap, subst, ◌≡◌}
use Rattle.std.specs.Prelude.{nat_lt}
use Rattle.std.specs.List.{IsAllAdjacentAnswer}
use Rattle.std.proofs.lemmas.Fn.{always_returns_same}
use Rattle.seg_model.specs.ValidInputs.{are_distinct}
use Rattle.seg_check.proofs.DistinctNumbers.{told_by_neighbours}
use Rattle.seg_check.proofs.ids.are_distinct.Goals as goal

pub returns : goal.returns
returns c =
    told_by_neighbours c.in_ok-sorted.sorted.items c.sort_unstable.new.self.items c.sort_unstable.ensures.permutation c.sort_unstable.ensures.sorted c.is_sorted_by.result
    (subst (λ l. IsAllAdjacentAnswer (λ x y b. b ≡ nat_lt x y) l c.is_sorted_by.result) c.deref.ensures.value
    (c.is_sorted_by.ensures.cases nat_lt (always_returns_same _ _ _ (λ a r q k. search (rules, tests)))))
    ∙ ap are_distinct c.in_ok-sorted.ensures.items
