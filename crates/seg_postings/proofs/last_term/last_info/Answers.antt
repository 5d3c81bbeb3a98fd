use Rattle.std.proofs.Common.{arith, ◌-◌}
use Rattle.seg_postings.proofs.LastInfo.{last_info_is}
use Rattle.seg_postings.proofs.last_term.last_info.Goals as goal

pub returns : goal.returns
returns c = last_info_is c.args.terms.now (c.num_terms-count.result - 1) c.term_info_from_ord.result (omega (arith, c.if-count-eq0.false, c.num_terms-count.ensures)) c.term_info_from_ord.ensures
