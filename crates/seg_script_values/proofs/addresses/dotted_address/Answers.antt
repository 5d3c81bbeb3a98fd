use Rattle.std.proofs.Common.{Some, option_map, sym, ap, ◌∙◌}
use Rattle.std.specs.Net.Addr.{ipv4_octets, octets_of}
use Rattle.seg_script_values.specs.Addresses.{mapped}
use Rattle.seg_script_values.proofs.WrittenAddresses.{dotted_complete, not_dotted}
use Rattle.seg_script_values.proofs.addresses.dotted_address.Goals as goal

pub returns-in-Ok : goal.returns-in-Ok
returns-in-Ok c =
    ap (λ segments. Some (octets_of segments)) c.to_ipv6_mapped.ensures
    ∙ sym (ap (option_map mapped) (dotted_complete c.args.text.now (ipv4_octets c.in-Ok.address) c.in-Ok.ensures.value))

pub returns-in-Err : goal.returns-in-Err
returns-in-Err c = sym (ap (option_map mapped) (not_dotted c.args.text.now c.in-Err.ensures.value))
