use Rattle.std.proofs.Common.{◌≡◌, drop, map}
use Rattle.seg_open.specs.OpenSegment.{terms_in}
use Rattle.seg_generate.specs.SummaryText.{indexed_terms, totals_of}
use Rattle.seg_tool.specs.Summaries.{with_terms}
use Rattle.seg_tool.proofs.summary_totals.of_entries.Given as goal

abbrev pub invariant-loop-place : goal.invariant-loop-place
invariant-loop-place l =
    with_terms l.totals (indexed_terms (drop l.place l.entries) (map terms_in (drop l.place l.reader.fields))) ≡ totals_of (indexed_terms l.entries (map terms_in l.reader.fields))
