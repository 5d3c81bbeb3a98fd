use Rattle.std.proofs.Common.{Bool, false, List, subst}
use Rattle.std.specs.Prelude.{not}
use Rattle.std.specs.List.{Contains, count_by}
use Rattle.seg_batches.proofs.AliveSteps.{not_wanted, starved, wanted}
use Rattle.seg_batches.proofs.DocumentMarks.{all_listed_alive, lacking_listed}
use Rattle.seg_batches.proofs.alive_files.write_alive_file.Goals as goal

pub returns-in_default : goal.returns-in_default
returns-in_default g c =
    let s = c.args.segment.now in
    not_wanted c.args.stamp s _ (all_listed_alive s.documents c.args.stamp s.alive c.in_default.ensures)

pub returns-in_default-set_in_memory : goal.returns-in_default-set_in_memory
returns-in_default-set_in_memory g c = starved c.args.stamp c.args.segment.now _

pub returns : goal.returns
returns g c =
    let s = c.args.segment.now in
    let set = c.in-Some.ensures in
    let lacks = subst (λ (marks : List Bool). Contains marks false) set.0 set.2 in
    wanted c.args.stamp s c.id.result (count_by not s.alive) c.bytes.result.now c.in-Ok.file.written c.in-Some.alive.now c.write_file.result _ _
    c.id.ensures (lacking_listed c.args.stamp s.alive lacks) c.bytes.ensures c.in-Ok.ensures set.0 set.1 c.write_file.ensures.does
