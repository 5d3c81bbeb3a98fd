use Rattle.seg_merger.proofs.SortedEntries.{sorted_entries}
use Rattle.seg_merger.proofs.term_source.TermSource.new.Goals as goal

pub returns-clause-ascend : goal.returns-clause-ascend
returns-clause-ascend c = sorted_entries _ _ c.terms_ascend.ensures
