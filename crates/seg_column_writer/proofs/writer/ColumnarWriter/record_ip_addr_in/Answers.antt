use Rattle.std.proofs.Common.{◌≡◌, length, ap, arith, ◌∙◌}
use Rattle.std.specs.Net.Addr.{ipv6_octets}
use Rattle.seg_model.specs.Columns.{ip_value}
use Rattle.seg_column_writer.specs.declared.value_kind.ValueKind.TheVariants.{IpAddr}
use Rattle.seg_column_writer.proofs.RecordingRules.{may_push_term, push_term_adds}
use Rattle.seg_column_writer.proofs.writer.ColumnarWriter.record_ip_addr_in.Goals as goal

pub push_term-requires : goal.push_term-requires
push_term-requires c =
    let many : length c.octets.result ≡ 16 = omega (arith, c.octets.type_inv) in
    may_push_term IpAddr c.args.doc (ip_value (ipv6_octets c.args.value)) c.octets.result
    (c.args.value, c.octets.ensures, many) (ap ip_value c.octets.ensures) c.args.column.place c.args.self.now c.requires

pub returns-clause-ok : goal.returns-clause-ok
returns-clause-ok c =
    let many : length c.octets.result ≡ 16 = omega (arith, c.octets.type_inv) in
    c.in_ok-push_term.ensures.ok
    ∙ push_term_adds IpAddr c.args.doc (ip_value (ipv6_octets c.args.value)) c.octets.result
    (c.args.value, c.octets.ensures, many) (ap ip_value c.octets.ensures) c.args.column.place c.args.self.now c.requires
