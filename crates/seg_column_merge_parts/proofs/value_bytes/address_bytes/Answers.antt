use Rattle.std.proofs.Common.{ℕ, ◌+◌, ◌*◌, ◌≤◌, List, take, length, ap, subst, sym, ◌∙◌, arith}
use Rattle.std.specs.Prelude.{slice_range}
use Rattle.std.specs.List.{flat_map}
use Rattle.std.specs.Net.Addr.{ipv6_octets}
use Rattle.std.specs.declared.net.ipv6_addr.Ipv6Addr.{Ipv6Addr}
use Rattle.seg_columns.specs.Addresses.{address}
use Rattle.seg_columns.specs.Ends.{start_at}
use Rattle.seg_column_merge_parts.proofs.RowValueBytes.{address_again, first_rows, fits}
use Rattle.seg_column_merge_parts.proofs.value_bytes.address_bytes.Goals as goal

pub first_addresses-requires-clause-ends : goal.first_addresses-requires-clause-ends
first_addresses-requires-clause-ends c = omega (arith, c.as_bytes.ensures.column.ends, c.requires)

pub first_addresses-requires-clause-within : goal.first_addresses-requires-clause-within
first_addresses-requires-clause-within c =
    let bytes = c.as_bytes.result.now in
    let docs = length c.args.column.now in
    subst (λ (n : ℕ). 8 * n + 16 * start_at bytes c.args.rows ≤ length bytes) (sym c.num_docs.ensures)
    (fits 16 address docs bytes c.as_bytes.ensures.column c.args.rows c.requires)

pub returns : goal.returns
returns c =
    let bytes = c.as_bytes.result.now in
    let docs = length c.args.column.now in
    let count = start_at bytes c.args.rows in
    c.first_addresses.ensures.cut
    ∙ ap (λ (n : ℕ). slice_range bytes (8 * n) (8 * n + 16 * count)) c.num_docs.ensures
    ∙ first_rows 16 address ipv6_octets address_again docs bytes c.first_addresses.ensures.octets c.as_bytes.ensures.column
    c.args.rows c.requires
    ∙ ap (λ (rows : List (List Ipv6Addr)). flat_map (flat_map ipv6_octets) (take c.args.rows rows)) c.as_bytes.ensures.rows
