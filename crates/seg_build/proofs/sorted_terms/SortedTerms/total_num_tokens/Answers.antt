use Rattle.std.proofs.Common.{◌≡◌, ◌≤◌, length, ap, ◌∙◌, arith}
use Rattle.std.specs.Map.{values_of}
use Rattle.std.proofs.lemmas.List.{length-map}
use Rattle.seg_build.specs.FieldTerms.{kind_in, postings_as}
use Rattle.seg_terms.specs.PostingGroups.{grouped}
use Rattle.seg_build.specs.TokenTotal.{count_total}
use Rattle.seg_build.proofs.RecordedForms.{value_there}
use Rattle.seg_build.proofs.PostingsTotals.{saturated_end, saturated_more}
use Rattle.seg_build.proofs.sorted_terms.SortedTerms.total_num_tokens.Goals as goal

pub loop-at-preserved : goal.loop-at-preserved
loop-at-preserved c =
    let count = c.recorded_count-count.result in
    let field = c.args.self.now in
    let kind = c.kind_of-kind.result in
    let bytes = c.copy_bytes_at.new.out.items in
    let hits = grouped c.hits_at.result.now in
    let postings = postings_as (kind_in field.asked bytes) hits in
    let at = value_there field.asked field.terms c.loop-at.at bytes hits c.in_ok-copy_bytes_at.ensures c.hits_at.ensures in
    let kind_is : kind ≡ kind_in field.asked bytes = c.kind_of-kind.ensures ∙ ap (kind_in field.asked) c.deref.ensures.value in
    let counted : count ≡ count_total postings = c.recorded_count-count.ensures ∙ ap (λ k. count_total (postings_as k hits)) kind_is in
    record {
      sum = saturated_more c.loop-at.total count c.saturating_add-total.result (values_of c.args.self.now.terms) c.loop-at.at postings at counted c.saturating_add-total.ensures ∙ c.loop-at.invariant.sum;
      few = omega (arith, c.saturating_add-total.ensures);
    }

pub returns : goal.returns
returns c =
    let past : length (values_of c.args.self.now.terms) ≤ c.loop-at.at = omega (arith, length-map c.args.self.now.terms (λ e. e.1), c.len-at-end.ensures, c.loop-at-test.false) in
    saturated_end c.loop-at.total (values_of c.args.self.now.terms) c.loop-at.at past c.loop-at.invariant.few ∙ c.loop-at.invariant.sum
