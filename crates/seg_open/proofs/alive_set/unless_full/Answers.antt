use Rattle.std.proofs.Common.{rules, ◌≡◌, ◌∙◌, Some, ap, length, sym}
use Rattle.seg_open.proofs.DocumentMarks.{full_is, lacking_is}
use Rattle.seg_open.proofs.alive_set.unless_full.Goals as goal

pub returns-then-num_alive_docs-max_value : goal.returns-then-num_alive_docs-max_value
returns-then-num_alive_docs-max_value c documents long =
    let is : c.args.set ≡ Some c.in_ok-set.set = search rules in
    full_is documents c.args.set c.in_ok-set.set is
    (sym c.num_alive_docs.ensures ∙ c.if-num_alive_docs-max_value.true ∙ c.max_value.ensures ∙ ap length c.bitset.ensures) long

pub returns : goal.returns
returns c documents long =
    let is : c.args.set ≡ Some c.in_ok-set.set = search rules in
    lacking_is documents c.args.set c.in_ok-set.set is
    (λ full. c.if-num_alive_docs-max_value.false (c.num_alive_docs.ensures ∙ full ∙ sym (c.max_value.ensures ∙ ap length c.bitset.ensures))) long
