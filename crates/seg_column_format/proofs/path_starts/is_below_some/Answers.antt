use Rattle.std.proofs.Common.{◌∙◌, sym, ap, arith}
use Rattle.std.specs.Prelude.{◌-◌}
use Rattle.seg_column_format.specs.PathStarts.{begins}
use Rattle.seg_column_format.proofs.FoundStarts.{none_found, one_found, read_at}
use Rattle.seg_column_format.proofs.path_starts.is_below_some.Goals as goal

pub returns-then-up_to-eq0 : goal.returns-then-up_to-eq0
returns-then-up_to-eq0 c = sym (none_found c.args.path.now c.args.starts.now c.count_up_to-up_to.result
    (omega (arith, c.if-up_to-eq0.true)) c.count_up_to-up_to.ensures.ends)

pub returns : goal.returns
returns c =
    let starts = c.args.starts.now in
    let up_to = c.count_up_to-up_to.result in
    let bound = c.count_up_to-up_to.ensures.bound in
    c.begins.ensures
    ∙ sym (one_found c.args.path.now starts up_to (up_to - 1) (omega (arith, c.if-up_to-eq0.false)) bound c.requires
    c.count_up_to-up_to.ensures.ends
    ∙ ap (begins c.args.path.now) (read_at starts (up_to - 1) c.index-starts-up_to.result
    (omega (arith, c.if-up_to-eq0.false, bound)) c.index-starts-up_to.is))
