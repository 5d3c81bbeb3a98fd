use Rattle.seg_termdict.proofs.BuilderGrowth.{none_written, none_view}
use Rattle.seg_termdict.proofs.written_terms.WrittenTerms.new.Goals as goal

pub invariant_of-result : goal.invariant_of-result
invariant_of-result c = rw (c.new.ensures.items, c.new-2.ensures.items, c.in_ok-put_u64-2.ensures.ok, c.in_ok-put_u64.ensures.ok, c.new-infos.ensures.items) none_written

pub returns : goal.returns
returns c = none_view c.new.result.items c.new-2.result.items c.put_u64-2.new.out.items
