use Rattle.std.proofs.Common.{ap, sym, ◌∙◌, inl, inr}
use Rattle.seg_build.specs.FieldTerms.{postings_as}
use Rattle.seg_terms.specs.PostingGroups.{grouped}
use Rattle.seg_build.specs.TokenTotal.{count_total}
use Rattle.seg_build.proofs.PostingsTotals.{hits_counted, hits_placed, documents_count}
use Rattle.seg_build.proofs.sorted_terms.recorded_count.Goals as goal

pub returns-in-Documents : goal.returns-in-Documents
returns-in-Documents c =
    c.posting_count.ensures ∙ sym (ap (λ k. count_total (postings_as k (grouped c.args.hits.now))) c.in-Documents.is ∙ documents_count (grouped c.args.hits.now))

pub returns-in-Counts : goal.returns-in-Counts
returns-in-Counts c = elim c.in-Counts.is [
  | inl counts ↦ sym (ap (λ k. count_total (postings_as k (grouped c.args.hits.now))) counts ∙ hits_counted c.args.hits.now)
  | inr places ↦ sym (ap (λ k. count_total (postings_as k (grouped c.args.hits.now))) places ∙ hits_placed c.args.hits.now)
]
