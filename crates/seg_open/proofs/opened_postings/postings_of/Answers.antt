use Rattle.std.proofs.Common.{◌≡◌, refl, rules, inl, inr}
use Rattle.seg_open.proofs.UnopenedFiles.{lacks_postings}
use Rattle.seg_open.proofs.opened_postings.postings_of.Goals as goal

pub returns-in-Err-Malformed-clause-err : goal.returns-in-Err-Malformed-clause-err
returns-in-Err-Malformed-clause-err c =
    let same : c.in-Ok.terms ≡ c.args.terms.now = search rules in
    elim c.in-Err-Malformed.ensures.err [
      | inl h ↦ absurd (cc h)
      | inr h ↦ (refl, lacks_postings c.args.parts.now c.args.field c.args.terms.now c.in-Ok.terms c.in-Some.part same c.in-Some.ensures h.1)
    ]
