use Rattle.std.proofs.Common.{◌∙◌, Some, ap, sym}
use Rattle.seg_tool.specs.declared.words.Command.TheVariants.{Build, Generate, Merge, Show}
use Rattle.seg_tool.proofs.RunSteps.{as_command, made_so}
use Rattle.seg_tool.proofs.command.execute.Goals as goal

pub returns-in-Some-Build : goal.returns-in-Some-Build
returns-in-Some-Build g c =
    as_command c.args.words.now (Build c.in-Some-Build.detail) (sym c.in-Some-Build.ensures ∙ ap Some c.in-Some-Build.field-0-is) c.run_build.ensures

pub returns-in-Some-Generate : goal.returns-in-Some-Generate
returns-in-Some-Generate g c =
    as_command c.args.words.now (Generate c.in-Some-Generate.seed) (sym c.in-Some-Generate.ensures ∙ ap Some c.in-Some-Generate.field-0-is)
    (made_so c.write_made.ensures c.generate.ensures)

pub returns-in-Some-Merge : goal.returns-in-Some-Merge
returns-in-Some-Merge g c =
    as_command c.args.words.now Merge (sym c.in-Some-Merge.ensures ∙ ap Some c.in-Some-Merge.field-0-is)
    (made_so c.write_made-in-Some-Merge.ensures c.merge_and_print.ensures)

pub returns-in-Some-Show : goal.returns-in-Some-Show
returns-in-Some-Show g c =
    as_command c.args.words.now Show (sym c.in-Some-Show.ensures ∙ ap Some c.in-Some-Show.field-0-is)
    (made_so c.write_made-in-Some-Show.ensures (c.show.ensures (g.O.Directory.state c.args.output.now)))
