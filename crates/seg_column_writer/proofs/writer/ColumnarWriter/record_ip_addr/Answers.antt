use Rattle.std.proofs.Common.{sym, subst}
use Rattle.std.specs.Net.Addr.{ipv6_octets}
use Rattle.seg_model.specs.Columns.{ip_value}
use Rattle.seg_column_writer.specs.RecordingRules.{At, CanTake}
use Rattle.seg_column_writer.specs.declared.value_kind.ValueKind.TheVariants.{IpAddr}
use Rattle.seg_column_writer.proofs.RecordingRules.{takes_named}
use Rattle.seg_column_writer.proofs.writer.ColumnarWriter.record_ip_addr.Goals as goal

pub record_ip_addr_in-requires : goal.record_ip_addr_in-requires
record_ip_addr_in-requires c =
    subst (λ (X : Type 0). X) (sym (λ j. At (CanTake IpAddr c.args.doc (ip_value (ipv6_octets c.args.value)))
    (c.in_ok-column.ensures.place j) (c.in_ok-column.ensures.ok j)))
    (takes_named c.args.name.now IpAddr c.args.doc (ip_value (ipv6_octets c.args.value)) c.args.self.now c.requires)
