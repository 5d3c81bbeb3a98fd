use Rattle.seg_terms.proofs.PathKeys.{terms_stay}
use Rattle.seg_terms.proofs.path_terms.PathTerms.leaves_of.Goals as goal

pub returns-clause-terms : goal.returns-clause-terms
returns-clause-terms c = terms_stay c.self.inside.known c.self.inside.paths c.leaves_of.new.table c.args.self.now
    c.leaves_of.ensures.extends c.self.view_is c.self.invariant.1
