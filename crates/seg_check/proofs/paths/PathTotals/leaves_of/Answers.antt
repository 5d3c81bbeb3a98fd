use Rattle.std.proofs.Common.{refl}
use Rattle.std.proofs.lemmas.Result.{IfOk-weaker}
use Rattle.seg_values.specs.ValueTrees.{tree_of}
use Rattle.seg_model.specs.Leaves.{leaves}
use Rattle.seg_check.proofs.FieldLeaves.{are-leaves}
use Rattle.seg_check.proofs.PathLeaves.{stands-grown}
use Rattle.seg_check.proofs.paths.PathTotals.leaves_of.Goals as goal

pub returns-clause-leaves : goal.returns-clause-leaves
returns-clause-leaves c =
    IfOk-weaker c.leaves_of.result _ _ (λ found is. are-leaves c.args.expand_dots c.leaves_of.new.table (leaves
    (tree_of c.args.value.now)) found.items is) c.leaves_of.ensures.leaves

pub returns-clause-stands : goal.returns-clause-stands
returns-clause-stands c analyze found stands = stands-grown analyze c.args.self.now _ found
    c.leaves_of.ensures.extends refl refl stands
