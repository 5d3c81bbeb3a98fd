use Rattle.std.proofs.Common.{refl}
use Rattle.std.proofs.lemmas.Result.{IfOk-weaker}
use Rattle.seg_common.specs.declared.name.SegmentComponent.TheVariants.{Terms}
use Rattle.seg_open.specs.OpenedTermFiles.{OneLacksDictionary}
use Rattle.seg_open.proofs.UnopenedFiles.{with_table}
use Rattle.seg_open.proofs.opened_dictionaries.open_dictionaries.Goals as goal

pub returns-in_default-clause-err : goal.returns-in_default-clause-err
returns-in_default-clause-err c = (refl, λ parts has. absurd (c.in_default.ensures parts has))

pub returns-clause-ok : goal.returns-clause-ok
returns-clause-ok c = IfOk-weaker c.open_all.result _ _ (λ fields are. record { parts = c.in-Some.parts; file = c.in-Some.ensures; are = are }) c.open_all.ensures.ok

pub returns-clause-err : goal.returns-clause-err
returns-clause-err c =
    with_table c.args.schema.now c.args.terms c.in-Some.parts c.in-Some.ensures Terms (λ ps. OneLacksDictionary c.args.schema.now ps) c.open_all.result c.open_all.ensures.err
