use Rattle.std.proofs.Common.{◌≤◌, ◌*◌, ◌+◌, ◌∙◌, ℕ, List, sym, subst, length, arith}
use Rattle.std.specs.Prelude.{IsSome}
use Rattle.seg_columns.specs.Ends.{start_at}
use Rattle.seg_columns.specs.Columns.{row_of, value_at, values_between}
use Rattle.seg_columns.proofs.DocumentValues.{within, known}
use Rattle.seg_columns.proofs.column.row_values.Goals as goal

pub start_at-start-requires : goal.start_at-start-requires
start_at-start-requires g c = omega (arith, c.requires.column.ends, c.requires.place)

pub start_at-end-requires : goal.start_at-end-requires
start_at-end-requires g c = omega (arith, c.requires.column.ends, c.requires.place)

pub values_of-requires : goal.values_of-requires
values_of-requires g c = c.requires.column.ends

pub new-requires-clause-order : goal.new-requires-clause-order
new-requires-clause-order g c =
    let rise = c.requires.column.rise c.args.row c.requires.place in
    omega (arith, rise, c.start_at-start.ensures, c.start_at-end.ensures)

pub new-requires-clause-within : goal.new-requires-clause-within
new-requires-clause-within g c =
    let v = g.T.ColumnValue in
    let bytes = c.args.bytes.now in
    let next = c.args.row + 1 in
    let w = within v.WIDTH v.decoded c.args.rows bytes c.requires.column next (omega (arith, c.requires.place)) in
    subst (λ (n : ℕ). v.WIDTH * n ≤ length c.values_of.result.now) (sym c.start_at-end.ensures)
    (subst (λ (vs : List ℕ). v.WIDTH * start_at bytes next ≤ length vs) (sym c.values_of.ensures) w)

pub new-requires-clause-known : goal.new-requires-clause-known
new-requires-clause-known g c = λ k lt.
    let v = g.T.ColumnValue in
    let next = c.args.row + 1 in
    let all = known v.WIDTH v.decoded c.args.rows c.args.bytes.now c.requires.column next
    (omega (arith, c.requires.place)) in
    subst (λ (vs : List ℕ). IsSome (value_at v.WIDTH v.decoded vs k)) (sym c.values_of.ensures)
    (all k (omega (arith, lt, c.start_at-end.ensures)))

pub returns : goal.returns
unfolding row_of
returns g c =
    let v = g.T.ColumnValue in
    let a = c.start_at-start.ensures in
    let b = c.start_at-end.ensures in
    let e = c.values_of.ensures in
    c.new.ensures ∙ (λ i. values_between v.WIDTH v.decoded (e i) (a i) (b i))
