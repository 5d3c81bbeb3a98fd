use Rattle.std.proofs.Common.{◌≡◌, ◌+◌, ◌∙◌, ap, rules}
use Rattle.seg_check.proofs.Exports.{number_more}
use Rattle.seg_generate.proofs.input.numbered_ids.Goals as goal

pub loop-before-preserved : goal.loop-before-preserved
loop-before-preserved c =
    let before : c.from.result ≡ c.loop-before.before = search rules in
    number_more c.loop-before.ids.items c.push.new.self.items c.loop-before.before c.from_u128.result c.loop-before.invariant c.in_ok-push.ensures.items
    (c.from_u128.ensures ∙ ap (λ n. n + 1) before)
