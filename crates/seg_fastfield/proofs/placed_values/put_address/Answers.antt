use Rattle.std.specs.Net.Addr.{ipv6_octets}
use Rattle.seg_model.specs.Columns.{ip_value}
use Rattle.seg_column_writer.specs.declared.value_kind.ValueKind.TheVariants.{IpAddr}
use Rattle.seg_fastfield.proofs.PathNumbers.{known_found, recorded_found, refused_found, takes_found}
use Rattle.seg_fastfield.proofs.placed_values.put_address.Goals as goal

pub record_ip_addr_in-requires : goal.record_ip_addr_in-requires
record_ip_addr_in-requires c =
    takes_found c.args.path.now IpAddr c.args.columns.now c.column.new.columns c.in_ok-column.column
    c.in_ok-column.ensures.found c.in_ok-column.ensures.made c.args.row (ip_value (ipv6_octets c.args.value))
    c.requires.may

pub returns-clause-ok : goal.returns-clause-ok
returns-clause-ok c =
    recorded_found c.args.path.now IpAddr c.args.columns.now c.column.new.columns c.in_ok-column.column
    c.in_ok-column.ensures.found c.in_ok-column.ensures.made c.args.row (ip_value (ipv6_octets c.args.value))
    c.record_ip_addr_in.new.self c.record_ip_addr_in.result c.record_ip_addr_in.ensures.ok

pub returns-clause-kept : goal.returns-clause-kept
returns-clause-kept c =
    refused_found c.args.path.now IpAddr c.args.columns.now c.column.new.columns c.in_ok-column.column
    c.in_ok-column.ensures.found c.in_ok-column.ensures.made
    c.record_ip_addr_in.new.self c.record_ip_addr_in.result c.record_ip_addr_in.ensures.kept

pub returns-clause-known : goal.returns-clause-known
returns-clause-known c =
    known_found c.args.path.now IpAddr c.args.columns.now c.column.new.columns c.in_ok-column.column
    c.in_ok-column.ensures.found c.in_ok-column.ensures.made c.column.new.self
    c.args.known.now c.args.row (ip_value (ipv6_octets c.args.value))
    c.record_ip_addr_in.new.self c.record_ip_addr_in.result c.record_ip_addr_in.ensures.ok
    c.in_ok-column.ensures.known
