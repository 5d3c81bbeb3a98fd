use Rattle.std.proofs.Common.{◌∙◌}
use Rattle.seg_build.specs.OrderedFields.{ordered_terms}
use Rattle.seg_build.proofs.RecordedForms.{as_many}
use Rattle.seg_build.proofs.sorted_terms.SortedTerms.len.Goals as goal

pub returns : goal.returns
returns c = c.len.ensures ∙ as_many c.self.inside.asked (ordered_terms c.self.inside.terms) c.args.self.now c.self.view_is
