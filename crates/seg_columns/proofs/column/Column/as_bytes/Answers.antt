use Rattle.std.proofs.Common.{◌≡◌, ◌∙◌, ℕ, List, ap, sym, subst, length}
use Rattle.std.proofs.lemmas.List.FromFn.{length-map-range_with_len}
use Rattle.seg_columns.specs.Columns.{IsColumn, row_of, rows_of}
use Rattle.seg_columns.proofs.column.Column.as_bytes.Goals as goal

pub returns-clause-column : goal.returns-clause-column
returns-clause-column g c =
    let v = g.T.ColumnValue in
    let docs = c.self.inside.num_docs in
    let bytes = c.self.inside.bytes in
    let many : docs ≡ length c.args.self.now =
    sym (length-map-range_with_len (row_of v.WIDTH v.decoded docs bytes) 0 docs) ∙ ap length c.self.view_is in
    subst (λ (n : ℕ). IsColumn v.WIDTH v.decoded n c.as_slice.result.now) many
    (subst (IsColumn v.WIDTH v.decoded docs) (sym c.as_slice.ensures) c.self.invariant)

pub returns-clause-rows : goal.returns-clause-rows
returns-clause-rows g c =
    let v = g.T.ColumnValue in
    let docs = c.self.inside.num_docs in
    let bytes = c.self.inside.bytes in
    let many : docs ≡ length c.args.self.now =
    sym (length-map-range_with_len (row_of v.WIDTH v.decoded docs bytes) 0 docs) ∙ ap length c.self.view_is in
    (λ i. rows_of v.WIDTH v.decoded (sym many i) (c.as_slice.ensures i)) ∙ c.self.view_is
