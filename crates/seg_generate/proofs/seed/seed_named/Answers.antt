use Rattle.std.proofs.Common.{◌∙◌, sym, rules}
use Rattle.seg_generate.proofs.Seeds.{parsed, unparsed}
use Rattle.seg_generate.proofs.seed.seed_named.Goals as goal

pub returns-in-Ok : goal.returns-in-Ok
returns-in-Ok c =
    c.if_written_so.ensures
    ∙ parsed c.args.word.now c.parse.result c.in-Ok.seed c.in-Ok.is (search rules) c.parse.ensures.value.0

pub returns-in-Err : goal.returns-in-Err
returns-in-Err c = sym (unparsed c.args.word.now c.parse.result _ c.in-Err.is c.parse.ensures.value.0)
