use Rattle.std.proofs.Common.{rules}
use Rattle.seg_tool.proofs.TermSums.{with_one}
use Rattle.seg_tool.proofs.summary_totals.with_term.Goals as goal

pub returns : goal.returns
returns c = with_one c.args.totals c.args.term.now _ _ (search rules) (search rules)
