use Rattle.std.proofs.Common.{sym, ap}
use Rattle.seg_postings.specs.OpenPostings.{count_of}
use Rattle.seg_build.specs.WrittenTerms.{kept_hits}
use Rattle.seg_build.proofs.WrittenHits.{counted_as, counted_placed}
use Rattle.seg_build.proofs.written_terms.kept_count.Goals as goal

pub returns-in-Documents : goal.returns-in-Documents
returns-in-Documents c = sym (ap (λ k. count_of (kept_hits k c.args.hits.now)) c.in-Documents.is)

pub returns-in-Counts : goal.returns-in-Counts
returns-in-Counts c = cc (counted_as c.args.kind c.in-Counts.is c.args.hits.now)

pub returns-in-Positions : goal.returns-in-Positions
returns-in-Positions c = cc (counted_placed c.args.kind c.in-Positions.is c.args.hits.now)
