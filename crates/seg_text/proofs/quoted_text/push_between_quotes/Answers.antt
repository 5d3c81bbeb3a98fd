use Rattle.std.proofs.Common.{◌++◌, List, ℕ, ap, ◌∙◌}
use Rattle.seg_text.proofs.QuotedTexts.{quoted_plain}
use Rattle.seg_text.proofs.quoted_text.push_between_quotes.Goals as goal

pub returns : goal.returns
returns c = quoted_plain c.args.out.now.items c.push.new.self.items c.extend_from_slice.new.self.items c.push-2.new.self.items c.args.text.now c.requires
    c.in_ok-push.ensures.items
    (c.in_ok-extend_from_slice.ensures.items ∙ ap (λ (t : List ℕ). c.push.new.self.items ++ t) c.as_bytes.ensures.value)
    c.in_ok-push-2.ensures.items
