use Rattle.std.proofs.Common.{arith}
use Rattle.seg_postings.proofs.SpaceTerms.{all_found}
use Rattle.seg_postings.proofs.json_spaces.json_spaces.Goals as goal

pub returns : goal.returns
returns c = all_found c.args.terms.now c.loop-start.start c.loop-start.found.items (omega (arith, c.loop-start-test.false, c.num_terms.ensures)) c.loop-start.invariant.so_far
