use Rattle.std.proofs.Common.{refl, subst}
use Rattle.seg_model.specs.Input.{Input}
use Rattle.seg_index_build.specs.TwoDirectories.{both}
use Rattle.seg_open.specs.Answers.{seen_as}
use Rattle.seg_tool.specs.InputIndexes.{BuildsText}
use Rattle.seg_tool.specs.Words.GenerateJob.{not_generated, of_generated}
use Rattle.seg_tool.specs.declared.words.Detail.TheVariants.{Summary}
use Rattle.seg_tool.proofs.command.generate_job.generate.Goals as goal

pub returns-in_default : goal.returns-in_default
returns-in_default g c = not_generated refl refl

pub returns : goal.returns
returns g c =
    of_generated (subst (λ (i : Input). BuildsText (g.Z.Analyzers.knows c.args.analyzers.now) (g.Z.Analyzers.tokens_of c.args.analyzers.now) i Summary
    (seen_as (λ t. t.items) c.build_and_print.result) (both (g.W.Directory.state c.args.work.now) (g.O.Directory.state c.args.output.now))
    (both (g.W.Directory.state c.build_and_print.new.work) (g.O.Directory.state c.build_and_print.new.output)))
    c.in-Ok.ensures c.build_and_print.ensures)
