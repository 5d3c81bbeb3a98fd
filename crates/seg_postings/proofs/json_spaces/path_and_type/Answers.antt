use Rattle.seg_postings.proofs.JsonHeads.{ends_by}
use Rattle.seg_postings.proofs.json_spaces.path_and_type.Goals as goal

pub returns-then-term-at-eq0 : goal.returns-then-term-at-eq0
returns-then-term-at-eq0 c = ends_by c.loop-at.at c.min.result c.args.term.now c.loop-at-test.true c.if-term-at-eq0.true c.min.ensures c.loop-at.invariant
