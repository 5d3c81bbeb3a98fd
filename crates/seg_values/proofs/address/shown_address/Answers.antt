use Rattle.std.proofs.Common.{sym, ap, ◌∙◌}
use Rattle.std.proofs.lemmas.Bool.{false≢true}
use Rattle.std.specs.Net.Addr.{ipv6_segments}
use Rattle.std.specs.Net.Text.{hex_groups_text}
use Rattle.seg_values.proofs.ShownAddresses.{shown_groups}
use Rattle.seg_values.proofs.address.shown_address.Goals as goal

pub returns-in_ok-format-in-None : goal.returns-in_ok-format-in-None
returns-in_ok-format-in-None c =
    c.in_ok-format-in-None.ensures.ok
    ∙ ap (λ a. hex_groups_text (ipv6_segments a)) c.hex_groups.ensures
    ∙ sym (shown_groups c.args.address.segments (λ h. false≢true (c.in-None.ensures.found.1 h)))
