use Rattle.std.proofs.Common.{◌≡◌, ◌<◌, ◌+◌, List, ◌∷◌, arith, subst}
use Rattle.std.specs.Prelude.{IsSomeAnd}
use Rattle.seg_columns.specs.Columns.{values_between}
use Rattle.seg_columns.proofs.DocumentValues.{next_value, at_place, steps, goes}
use Rattle.seg_columns.proofs.column_values.ColumnValuesIterator.next.Goals as goal
use Rattle.seg_columns.proofs.column_values.ColumnValuesIterator.next.Given.{Over}

next_is : (g : Over) (c : goal.After-decode g)
    → IsSomeAnd c.decode.result (λ x. c.args.self.now
    ≡ x ∷ values_between g.T.ColumnValue.WIDTH g.T.ColumnValue.decoded c.self.inside.values.now
    (c.self.inside.place + 1) c.self.inside.end)
next_is g c =
    let i = c.self.inside in
    let v = g.T.ColumnValue in
    let lt : i.place < i.end = omega (arith, c.self.invariant.0) in
    let is = at_place v.WIDTH v.decoded i.values.now i.place c.WIDTH.result c.WIDTH-2.result
    c.WIDTH.ensures c.WIDTH-2.ensures c.decode.result c.decode.ensures in
    subst (λ (vs : List g.row.T.Denot). IsSomeAnd c.decode.result
    (λ x. vs ≡ x ∷ values_between v.WIDTH v.decoded i.values.now (i.place + 1) i.end))
    c.self.view_is (next_value v.WIDTH v.decoded i.values.now i.place i.end lt (c.self.invariant.2 i.place lt)
    c.decode.result is)

pub returns-clause-steps : goal.returns-clause-steps
returns-clause-steps g c = steps _ _ _ (next_is g c)

pub returns-clause-goes : goal.returns-clause-goes
returns-clause-goes g c = goes (λ _. Unit {0}) (λ _. tt) _ _ _ (next_is g c)
