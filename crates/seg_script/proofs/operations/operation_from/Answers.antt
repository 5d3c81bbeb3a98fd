use Rattle.std.proofs.Common.{◌≡◌, None, arith}
use Rattle.std.proofs.lemmas.Grind.{common_steps}
use Rattle.serde_json.proofs.Views.{view-Object}
use Rattle.seg_script.proofs.ReadItems.{not_one}
use Rattle.seg_script.proofs.operations.operation_from.Goals as goal

pub returns-in_err-word-clause-none : goal.returns-in_err-word-clause-none
returns-in_err-word-clause-none c _ =
    let none : c.only_member.result ≡ None = grind (arith, common_steps) in
    rw (c.in-Object.is, view-Object) (not_one c.args.schema.now c.in-Object.members.entries (rw none at c.only_member.ensures))
