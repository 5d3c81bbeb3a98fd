use Rattle.std.proofs.Common.{ℕ, ◌+◌, ◌*◌, ◌≤◌, List, take, length, ap, subst, sym, ◌∙◌, arith}
use Rattle.std.specs.Prelude.{slice_range}
use Rattle.std.specs.Int.{w64, to_le_bytes}
use Rattle.std.specs.List.{flat_map}
use Rattle.seg_columns.specs.Ends.{start_at}
use Rattle.seg_columns.specs.ValueImages.{unsigned}
use Rattle.seg_column_merge_parts.proofs.RowValueBytes.{number_again, first_rows, fits}
use Rattle.seg_column_merge_parts.proofs.value_bytes.number_bytes.Goals as goal

pub first_numbers-requires-clause-ends : goal.first_numbers-requires-clause-ends
first_numbers-requires-clause-ends c = omega (arith, c.as_bytes.ensures.column.ends, c.requires)

pub first_numbers-requires-clause-within : goal.first_numbers-requires-clause-within
first_numbers-requires-clause-within c =
    let bytes = c.as_bytes.result.now in
    let docs = length c.args.column.now in
    subst (λ (n : ℕ). 8 * n + 8 * start_at bytes c.args.rows ≤ length bytes) (sym c.num_docs.ensures)
    (fits 8 unsigned docs bytes c.as_bytes.ensures.column c.args.rows c.requires)

pub returns : goal.returns
returns c =
    let bytes = c.as_bytes.result.now in
    let docs = length c.args.column.now in
    let count = start_at bytes c.args.rows in
    c.first_numbers.ensures.cut
    ∙ ap (λ (n : ℕ). slice_range bytes (8 * n) (8 * n + 8 * count)) c.num_docs.ensures
    ∙ first_rows 8 unsigned (to_le_bytes w64) number_again docs bytes c.first_numbers.ensures.octets c.as_bytes.ensures.column
    c.args.rows c.requires
    ∙ ap (λ (rows : List (List ℕ)). flat_map (flat_map (to_le_bytes w64)) (take c.args.rows rows)) c.as_bytes.ensures.rows
