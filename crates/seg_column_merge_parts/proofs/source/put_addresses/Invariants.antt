use Rattle.std.proofs.Common.{◌≡◌, ◌++◌}
use Rattle.std.specs.List.{flat_map}
use Rattle.std.specs.Net.Addr.{ipv6_octets}
use Rattle.seg_column_merge_parts.proofs.source.put_addresses.Given as goal

abbrev pub invariant-loop-address : goal.invariant-loop-address
invariant-loop-address l = record {
  can : (goal.iterator-loop-address).can_next l.address-iterator;
  finite : (goal.iterator-loop-address).is_finite l.address-iterator;
  all : l.out.items ++ flat_map ipv6_octets l.address-iterator ≡ l.fn.out.items ++ flat_map ipv6_octets l.fn.addresses;
}
