use Rattle.std.proofs.Common.{◌≡◌, ◌∙◌, ap, rules}
use Rattle.seg_model.specs.Operations.{TermKey, delete}
use Rattle.seg_generate.proofs.PushedOperations.{deletes_as, pushed}
use Rattle.seg_generate.proofs.operations.push_delete.Goals as goal

pub returns : goal.returns
returns c =
    let field : c.from_field_id.result ≡ 0 = search rules in
    let number : c.from.result ≡ c.args.number = search rules in
    pushed c.args.operations.now.items c.push.new.self.items _ _ c.in_ok-push.ensures.items
    (ap (λ (t : TermKey). delete t) c.in-Ok.ensures.ok ∙ deletes_as c.from_field_id.result c.from.result c.args.number field number)
