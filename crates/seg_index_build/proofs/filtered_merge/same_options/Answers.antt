use Rattle.std.proofs.Common.{rules, ◌≡◌}
use Rattle.seg_index_build.proofs.SameOptions.{options_same}
use Rattle.seg_index_build.proofs.filtered_merge.same_options.Goals as goal

pub returns : goal.returns
returns c =
    let kind : c.args.left.now.kind ≡ c.args.right.now.kind = search rules in
    let index : c.args.left.now.index ≡ c.args.right.now.index = search rules in
    let precision : c.args.left.now.precision ≡ c.args.right.now.precision = search rules in
    let stored : c.args.left.now.stored ≡ c.args.right.now.stored = search rules in
    let norms : c.args.left.now.norms ≡ c.args.right.now.norms = search rules in
    let fast : c.args.left.now.fast ≡ c.args.right.now.fast = search rules in
    let expand_dots : c.args.left.now.expand_dots ≡ c.args.right.now.expand_dots = search rules in
    options_same c.args.left.now c.args.right.now kind index precision stored norms fast expand_dots
