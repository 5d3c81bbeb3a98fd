use Rattle.std.proofs.Common.{option_map, sym, ap}
use Rattle.std.specs.Net.Addr.{ipv6_segments, octets_of}
use Rattle.seg_script_values.proofs.WrittenAddresses.{colon_complete, not_groups}
use Rattle.seg_script_values.proofs.addresses.colon_address.Goals as goal

pub returns-in-Ok : goal.returns-in-Ok
returns-in-Ok c = sym (ap (option_map octets_of) (colon_complete c.args.text.now (ipv6_segments c.in-Ok.address) c.in-Ok.ensures.value))

pub returns-in-Err : goal.returns-in-Err
returns-in-Err c = sym (ap (option_map octets_of) (not_groups c.args.text.now c.in-Err.ensures.value))
