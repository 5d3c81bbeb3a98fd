use Rattle.std.proofs.Common.{◌≡◌, List, ℕ, length, sym, ap, subst, ◌∙◌}
use Rattle.std.specs.Prelude.{IfSome}
use Rattle.std.specs.List.{range_with_len}
use Rattle.std.specs.Net.Addr.{ipv6_octets}
use Rattle.seg_column_merge_parts.specs.declared.source.Source.{Source}
use Rattle.seg_column_merge_parts.specs.SourceRows.{CanPutFirst, first_rows, number_code}
use Rattle.seg_column_merge_parts.proofs.FirstRows.{at_most, first_codes, no_bytes, row_bytes}
use Rattle.seg_column_merge_parts.proofs.source.Source.first_bytes.Goals as goal

pub first_bytes-requires : goal.first_bytes-requires
first_bytes-requires c =
    let can = subst (λ (s : Source). CanPutFirst s c.args.rows) c.in-Numbers.is c.requires in
    at_most (length c.in-Numbers.source.numbers) c.args.rows (λ row lt. (can row lt).0)

pub address_bytes-requires : goal.address_bytes-requires
address_bytes-requires c =
    let can = subst (λ (s : Source). CanPutFirst s c.args.rows) c.in-Addresses.is c.requires in
    at_most (length c.in-Addresses.column) c.args.rows can

pub returns-in-Nothing : goal.returns-in-Nothing
returns-in-Nothing c =
    no_bytes (range_with_len 0 c.args.rows)
    ∙ ap (λ (s : Source). row_bytes (first_rows s c.args.rows)) (sym c.in-Nothing.is)

pub returns-in-Numbers : goal.returns-in-Numbers
returns-in-Numbers c =
    let can = subst (λ (s : Source). CanPutFirst s c.args.rows) c.in-Numbers.is c.requires in
    let source = c.in-Numbers.source in
    let fits = at_most (length source.numbers) c.args.rows (λ row lt. (can row lt).0) in
    subst (λ (bytes : List ℕ). IfSome c.first_bytes.result (λ found. found.now ≡ bytes))
    (first_codes (number_code source.written) source.numbers c.args.rows fits
    ∙ ap (λ (s : Source). row_bytes (first_rows s c.args.rows)) (sym c.in-Numbers.is))
    c.first_bytes.ensures

pub returns-in-Addresses : goal.returns-in-Addresses
returns-in-Addresses c =
    let can = subst (λ (s : Source). CanPutFirst s c.args.rows) c.in-Addresses.is c.requires in
    let fits = at_most (length c.in-Addresses.column) c.args.rows can in
    c.address_bytes.ensures
    ∙ first_codes ipv6_octets c.in-Addresses.column c.args.rows fits
    ∙ ap (λ (s : Source). row_bytes (first_rows s c.args.rows)) (sym c.in-Addresses.is)
