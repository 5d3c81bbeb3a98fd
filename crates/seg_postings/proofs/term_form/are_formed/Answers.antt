use Rattle.std.proofs.Common.{sym}
use Rattle.seg_postings.proofs.TermForms.{none_asked}
use Rattle.seg_postings.proofs.term_form.are_formed.Goals as goal

pub returns-in_default : goal.returns-in_default
returns-in_default c = sym (none_asked c.args.kind c.args.terms.now c.in_default.not-Json c.in_default.not-Facet)
