use Rattle.std.proofs.Common.{◌++◌, ap, ◌∙◌}
use Rattle.std.specs.List.{flat_map}
use Rattle.std.specs.Net.Addr.{ipv6_octets}
use Rattle.seg_column_merge_parts.proofs.JoinedBytes.{put_next}
use Rattle.seg_column_merge_parts.proofs.source.put_addresses.Goals as goal

pub loop-address-preserved : goal.loop-address-preserved
loop-address-preserved c =
    let out = c.loop-address.out.items in
    record {
      can = tt;
      finite = tt;
      all = put_next ipv6_octets out (c.args.out.now.items ++ flat_map ipv6_octets c.args.addresses)
          c.loop-address.address-iterator c.next.new.self c.in-Some.address c.extend_from_slice.new.self.items
          c.in-Some.ensures.steps
          (c.in_ok-extend_from_slice.ensures.items ∙ ap (λ bytes. out ++ bytes) c.octets.ensures)
          c.loop-address.invariant.all;
    }
