use Rattle.std.proofs.Common.{ap, ◌∙◌}
use Rattle.std.specs.FinMap.{entries}
use Rattle.seg_build.specs.FieldState.{FieldSoFar}
use Rattle.seg_build.specs.FieldTerms.{entries_as}
use Rattle.seg_terms.specs.TermEntries.{TermEntries}
use Rattle.seg_build.proofs.sorted_terms.sort_terms.Goals as goal

pub returns : goal.returns
returns c =
    ap (λ (es : TermEntries). record { asked = c.args.asked; terms = entries_as c.args.asked es })
    (c.in_ok-terms.ensures ∙ ap (λ (f : FieldSoFar). entries f.terms) c.field.view_is)
