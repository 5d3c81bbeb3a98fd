use Rattle.seg_build.specs.PathStarts.{starts_of}
use Rattle.seg_build.proofs.field.no_terms.Goals as goal

pub returns-in-Json : goal.returns-in-Json
returns-in-Json c =
    let terms = c.new.ensures.terms in
    let starts = c.new.ensures.starts in
    λ i. record { terms = (terms i).terms; starts = starts_of (terms i).paths (starts i) }
