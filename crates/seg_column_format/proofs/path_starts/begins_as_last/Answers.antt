use Rattle.std.proofs.Common.{◌≡◌, ◌∙◌, false, length, sym, ap, rules, arith}
use Rattle.std.specs.Prelude.{◌-◌, ◌==◌}
use Rattle.seg_column_format.specs.PathStarts.{begins}
use Rattle.seg_column_format.proofs.FoundStarts.{counted, last_is, last_none, read_at}
use Rattle.seg_column_format.proofs.path_starts.begins_as_last.Goals as goal

pub returns-then-is_empty : goal.returns-then-is_empty
returns-then-is_empty c = sym (last_none c.args.starts.now c.args.start.now (search rules))

pub returns : goal.returns
returns c =
    let starts = c.args.starts.now in
    let some : (length starts == 0) ≡ false = search rules in
    let last = length starts - 1 in
    let many = counted (length starts) some in
    c.begins.ensures
    ∙ sym (last_is starts c.args.start.now last many
    ∙ ap (begins c.args.start.now) (read_at starts last c.index-starts-starts.result (omega (arith, many)) c.index-starts-starts.is))
