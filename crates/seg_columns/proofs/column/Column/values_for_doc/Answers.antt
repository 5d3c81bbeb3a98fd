use Rattle.std.proofs.Common.{◌≡◌, ◌∙◌, ◌<◌, [], map, ap, sym, subst, length, get_or, arith}
use Rattle.std.proofs.lemmas.List.FromFn.{length-map-range_with_len, get_or-map-range_with_len}
use Rattle.std.specs.List.{range_with_len}
use Rattle.seg_columns.specs.Columns.{IsColumn, row_of}
use Rattle.seg_columns.proofs.column.Column.values_for_doc.Goals as goal

pub row_values-requires-clause-place : goal.row_values-requires-clause-place
row_values-requires-clause-place g c =
    let row = row_of g.T.ColumnValue.WIDTH g.T.ColumnValue.decoded c.self.inside.num_docs c.self.inside.bytes in
    omega (arith, c.requires, ap length c.self.view_is, length-map-range_with_len row 0 c.self.inside.num_docs)

pub row_values-requires-clause-column : goal.row_values-requires-clause-column
row_values-requires-clause-column g c =
    let v = g.T.ColumnValue in
    subst (IsColumn v.WIDTH v.decoded c.self.inside.num_docs) (sym c.as_slice.ensures) c.self.invariant

pub returns : goal.returns
returns g c =
    let v = g.T.ColumnValue in
    let docs = c.self.inside.num_docs in
    let row = row_of v.WIDTH v.decoded docs in
    let bytes = c.self.inside.bytes in
    let doc = c.args.doc in
    let lt : doc < docs = omega
    (arith, c.requires, ap length c.self.view_is, length-map-range_with_len (row bytes) 0 docs) in
    let here : get_or (map (row bytes) (range_with_len 0 docs)) doc [] ≡ row bytes doc =
    get_or-map-range_with_len (row bytes) 0 docs doc doc [] lt (omega arith) in
    c.row_values.ensures ∙ (λ i. row (c.as_slice.ensures i) doc) ∙ sym here ∙ (λ i. get_or (c.self.view_is i) doc [])
