use Rattle.std.proofs.Common.{arith}
use Rattle.seg_terms.specs.PostingGroups.{grouped}
use Rattle.seg_build.specs.OrderedFields.{ordered_terms}
use Rattle.seg_build.proofs.RecordedForms.{as_many, postings_of_place}
use Rattle.seg_build.proofs.sorted_terms.SortedTerms.hits_at.Goals as goal

pub hits_at-requires : goal.hits_at-requires
hits_at-requires c =
    let many = as_many c.self.inside.asked (ordered_terms c.self.inside.terms) c.args.self.now c.self.view_is in
    omega (arith, c.requires, many)

pub returns : goal.returns
returns c =
    let inside = c.self.inside in
    let postings = grouped c.hits_at.result.now in
    postings_of_place inside.asked (ordered_terms inside.terms) c.args.self.now c.self.view_is c.args.index postings c.hits_at.ensures
