use Rattle.std.proofs.Common.{◌+◌, ◌<◌, ◌∷◌, ℕ, List, Some, sym, ap, subst, ◌∙◌, arith}
use Rattle.seg_columns.specs.DynamicColumns.{IsColumnOf, stored_column}
use Rattle.seg_column_file.specs.ColumnFiles.{NamedColumn, column_count, columns_from, row_count, table_of}
use Rattle.seg_column_file.specs.ColumnTable.{code_in, end_in, path_in, type_of_code}
use Rattle.seg_column_file.proofs.FileColumns.{columns_from-end, columns_from-next, end_is, goes, next_at, of_piece, order, read_column, within}
use Rattle.seg_column_file.proofs.column_iter.ColumnIterIterator.next.Goals as goal

pub returns-then-self-clause-steps : goal.returns-then-self-clause-steps
returns-then-self-clause-steps c =
    let i = c.self.inside in
    let known = c.self.invariant in
    let none = sym c.self.view_is
    ∙ columns_from-end i.bytes.now i.place (omega (arith, c.if-self.true, known.1.columns)) in
    (none, none)

pub slice-requires-clause-order : goal.slice-requires-clause-order
slice-requires-clause-order c =
    let i = c.self.inside in
    let known = c.self.invariant in
    let is = c.table_in-table.ensures.table ∙ ap table_of c.as_slice.ensures in
    let lt : i.place < column_count i.bytes.now = omega (arith, known.2, c.if-self.false, known.1.columns) in
    order i.bytes.now known.0 c.table_in-table.result.now is i.place i.at i.start c.end_in-end.result lt known.3 known.4
    c.end_in-end.ensures

pub slice-requires-clause-within : goal.slice-requires-clause-within
slice-requires-clause-within c =
    let i = c.self.inside in
    let known = c.self.invariant in
    let is = c.table_in-table.ensures.table ∙ ap table_of c.as_slice.ensures in
    let lt : i.place < column_count i.bytes.now = omega (arith, known.2, c.if-self.false, known.1.columns) in
    within i.bytes.now known.0 c.table_in-table.result.now is i.place i.at i.start c.end_in-end.result lt known.3
    known.4 c.end_in-end.ensures

pub of_checked-handle-requires : goal.of_checked-handle-requires
of_checked-handle-requires c =
    let i = c.self.inside in
    let known = c.self.invariant in
    let bytes = i.bytes.now in
    let is = c.table_in-table.ensures.table ∙ ap table_of c.as_slice.ensures in
    let lt : i.place < column_count bytes = omega (arith, known.2, c.if-self.false, known.1.columns) in
    let end = c.end_in-end.ensures ∙ ap (λ (t : List ℕ). end_in t i.at) is in
    let type = c.type_in.ensures ∙ ap (λ (t : List ℕ). type_of_code (code_in t i.at)) is in
    subst (λ (rows : ℕ). IsColumnOf c.type_in.result rows c.slice.result) (sym known.1.rows)
    (of_piece bytes (table_of bytes) c.slice.result i.place i.at i.start c.end_in-end.result
    (row_count bytes) c.type_in.result
    known.3 known.4 end type c.slice.ensures (known.0.columns.columns i.place lt))

pub invariant_of-self : goal.invariant_of-self
invariant_of-self c =
    let i = c.self.inside in
    let known = c.self.invariant in
    let is = c.table_in-table.ensures.table ∙ ap table_of c.as_slice.ensures in
    let lt : i.place < column_count i.bytes.now = omega (arith, known.2, c.if-self.false, known.1.columns) in (
      known.0,
      known.1,
      omega (arith, lt),
      next_at i.bytes.now c.table_in-table.result.now i.place i.at c.place_behind-self-inside.result is known.3
          c.place_behind-self-inside.ensures,
      end_is i.bytes.now known.0 c.table_in-table.result.now is i.place i.at i.start c.end_in-end.result lt known.3
          known.4
          c.end_in-end.ensures,
    )

pub returns-clause-steps : goal.returns-clause-steps
returns-clause-steps c =
    let i = c.self.inside in
    let known = c.self.invariant in
    let bytes = i.bytes.now in
    let piece = c.slice.result in
    let is = c.table_in-table.ensures.table ∙ ap table_of c.as_slice.ensures in
    let lt : i.place < column_count bytes = omega (arith, known.2, c.if-self.false, known.1.columns) in
    let end = c.end_in-end.ensures ∙ ap (λ (t : List ℕ). end_in t i.at) is in
    let type = c.type_in.ensures ∙ ap (λ (t : List ℕ). type_of_code (code_in t i.at)) is in
    let path = c.text-path.ensures ∙ c.path_in.ensures ∙ ap (λ (t : List ℕ). path_in t i.at) is in
    let stored = c.of_checked-handle.ensures
    ∙ ap (λ (rows : ℕ). stored_column c.type_in.result rows piece) known.1.rows in
    sym c.self.view_is ∙ columns_from-next bytes i.place lt
    ∙ ap (λ (column : NamedColumn). column ∷ columns_from bytes (i.place + 1))
    (read_column bytes (table_of bytes) piece i.place i.at i.start c.end_in-end.result
    (row_count bytes) c.type_in.result known.3
    known.4 end type c.slice.ensures c.text-path.result.now c.of_checked-handle.result path stored)

pub returns-clause-goes : goal.returns-clause-goes
returns-clause-goes c =
    let i = c.self.inside in
    let known = c.self.invariant in
    let bytes = i.bytes.now in
    let piece = c.slice.result in
    let is = c.table_in-table.ensures.table ∙ ap table_of c.as_slice.ensures in
    let lt : i.place < column_count bytes = omega (arith, known.2, c.if-self.false, known.1.columns) in
    let end = c.end_in-end.ensures ∙ ap (λ (t : List ℕ). end_in t i.at) is in
    let type = c.type_in.ensures ∙ ap (λ (t : List ℕ). type_of_code (code_in t i.at)) is in
    let path = c.text-path.ensures ∙ c.path_in.ensures ∙ ap (λ (t : List ℕ). path_in t i.at) is in
    let stored = c.of_checked-handle.ensures
    ∙ ap (λ (rows : ℕ). stored_column c.type_in.result rows piece) known.1.rows in
    goes (λ _. Unit {0}) (λ _. tt) c.args.self.now (columns_from bytes (i.place + 1))
    (Some (c.text-path.result, c.of_checked-handle.result))
    (sym c.self.view_is ∙ columns_from-next bytes i.place lt
    ∙ ap (λ (column : NamedColumn). column ∷ columns_from bytes (i.place + 1))
    (read_column bytes (table_of bytes) piece i.place i.at i.start c.end_in-end.result
    (row_count bytes) c.type_in.result known.3
    known.4 end type c.slice.ensures c.text-path.result.now c.of_checked-handle.result path stored))
