use Rattle.std.proofs.Common.{◌≡◌, Some, sym, ap, ◌∙◌, subst}
use Rattle.std.specs.Prelude.{IfOk}
use Rattle.seg_model.specs.Leaves.{joined_path}
use Rattle.seg_paths.specs.NumberedLeaves.{IsPathOf}
use Rattle.seg_paths.specs.Paths.{number_of}
use Rattle.seg_paths.proofs.KeyCuts.{root-path}
use Rattle.seg_paths.proofs.leaves.leaf_path.Goals as goal

pub returns-in-None-clause-number : goal.returns-in-None-clause-number
returns-in-None-clause-number c e keys is =
    let none = subst (λ a. IsPathOf c.args.table.now e a keys) c.in-None.is is in
    subst (λ p. IfOk c.add_root.result (λ n. number_of c.add_root.new.self p ≡ Some n)) (sym (root-path e)
    ∙ ap (joined_path e) (sym none)) c.add_root.ensures.number
