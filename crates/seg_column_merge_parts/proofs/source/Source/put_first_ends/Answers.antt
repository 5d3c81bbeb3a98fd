use Rattle.std.proofs.Common.{length, sym, subst, arith}
use Rattle.std.specs.Prelude.{IfOk}
use Rattle.std.specs.Net.Addr.{ipv6_octets}
use Rattle.seg_columns.specs.Addresses.{address}
use Rattle.seg_columns.specs.ValueImages.{unsigned}
use Rattle.seg_column_merge_parts.specs.SourceRows.{AddsEnds, CanPutFirst, first_rows, number_code}
use Rattle.seg_column_merge_parts.specs.declared.source.Source.{Source}
use Rattle.seg_column_merge_parts.proofs.FirstRows.{at_most}
use Rattle.seg_column_merge_parts.proofs.RowEnds.{adds_same_ends, all_ends_added}
use Rattle.seg_column_merge_parts.proofs.source.Source.put_first_ends.Goals as goal

pub put_ends_after-requires : goal.put_ends_after-requires
put_ends_after-requires c =
    let can = subst (λ (s : Source). CanPutFirst s c.args.rows) c.in-Numbers.is c.requires in
    omega (
      arith,
      c.as_bytes.ensures.column.ends,
      at_most (length c.in-Numbers.source.numbers) c.args.rows (λ row lt. (can row lt).0),
    )

pub put_ends_after-requires-in-Addresses : goal.put_ends_after-requires-in-Addresses
put_ends_after-requires-in-Addresses c =
    let can = subst (λ (s : Source). CanPutFirst s c.args.rows) c.in-Addresses.is c.requires in
    omega (
      arith,
      c.as_bytes-in-Addresses.ensures.column.ends,
      at_most (length c.in-Addresses.column) c.args.rows can,
    )

pub returns-in-Nothing : goal.returns-in-Nothing
returns-in-Nothing c =
    subst (λ (s : Source). IfOk c.put_same_ends.result (AddsEnds (first_rows s c.args.rows) c.args.before
    c.args.out.now.items c.put_same_ends.new.out.items)) (sym c.in-Nothing.is)
    (adds_same_ends c.args.rows c.args.before c.args.out.now.items c.put_same_ends.new.out.items c.put_same_ends.result
    c.put_same_ends.ensures.bytes c.put_same_ends.ensures.end c.put_same_ends.ensures.fits)

pub returns-in-Numbers : goal.returns-in-Numbers
returns-in-Numbers c =
    let source = c.in-Numbers.source in
    let can = subst (λ (s : Source). CanPutFirst s c.args.rows) c.in-Numbers.is c.requires in
    let told = c.put_ends_after.ensures in
    subst (λ (s : Source). IfOk c.put_ends_after.result (AddsEnds (first_rows s c.args.rows) c.args.before
    c.args.out.now.items c.put_ends_after.new.out.items)) (sym c.in-Numbers.is)
    (all_ends_added 8 unsigned (number_code source.written) source.numbers c.as_bytes.result.now
    c.as_bytes.ensures.column c.as_bytes.ensures.rows c.args.rows
    (at_most (length source.numbers) c.args.rows (λ row lt. (can row lt).0)) c.args.before c.args.out.now.items
    c.put_ends_after.new.out.items c.put_ends_after.result told.bytes told.end told.fits)

pub returns-in-Addresses : goal.returns-in-Addresses
returns-in-Addresses c =
    let can = subst (λ (s : Source). CanPutFirst s c.args.rows) c.in-Addresses.is c.requires in
    let told = c.put_ends_after-in-Addresses.ensures in
    subst (λ (s : Source). IfOk c.put_ends_after-in-Addresses.result (AddsEnds (first_rows s c.args.rows) c.args.before
    c.args.out.now.items c.put_ends_after-in-Addresses.new.out.items)) (sym c.in-Addresses.is)
    (all_ends_added 16 address ipv6_octets c.in-Addresses.column c.as_bytes-in-Addresses.result.now
    c.as_bytes-in-Addresses.ensures.column c.as_bytes-in-Addresses.ensures.rows c.args.rows
    (at_most (length c.in-Addresses.column) c.args.rows can) c.args.before c.args.out.now.items
    c.put_ends_after-in-Addresses.new.out.items c.put_ends_after-in-Addresses.result told.bytes told.end told.fits)
