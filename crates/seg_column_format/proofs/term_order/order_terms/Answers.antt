use Rattle.std.proofs.Common.{ℕ, List, ◌<◌, sym, subst, length}
use Rattle.std.specs.Prelude.{All, nat_eq}
use Rattle.std.specs.List.{IsDistinct}
use Rattle.seg_column_format.specs.NumberedTerms.{AreOrdinals}
use Rattle.seg_column_format.proofs.SortedTerms.{below_many, still_distinct}
use Rattle.seg_column_format.proofs.term_order.order_terms.Goals as goal

pub ordinals_of-requires-clause-below : goal.ordinals_of-requires-clause-below
ordinals_of-requires-clause-below c =
    subst (λ (l : List ℕ). All (λ n. n < length l) l) (sym c.deref.ensures.value)
    (below_many c.args.terms.now c.in_ok-numbers.numbers.items c.in_ok-numbers.ensures)

pub ordinals_of-requires-clause-distinct : goal.ordinals_of-requires-clause-distinct
ordinals_of-requires-clause-distinct c =
    subst (IsDistinct nat_eq) (sym c.deref.ensures.value)
    (still_distinct c.args.terms.now c.in_ok-numbers.numbers.items c.in_ok-numbers.ensures)

pub returns : goal.returns
returns c = record {
  ascend = c.in_ok-numbers.ensures;
  ordinals_are =
      subst (λ (l : List ℕ). AreOrdinals l c.in_ok-ordinals.ordinals.items) c.deref.ensures.value
      c.in_ok-ordinals.ensures;
}
