use Rattle.std.proofs.Common.{◌<◌, ◌^◌, ◌∙◌, length, subst, sym, arith}
use Rattle.seg_terms.specs.PathKeys.{TermsOnPaths}
use Rattle.seg_terms.proofs.PathKeys.{added_on_path}
use Rattle.seg_terms.proofs.path_terms.PathTerms.add.Goals as goal

pub returns-clause-ok : goal.returns-clause-ok
returns-clause-ok c =
    let within : c.args.path < length c.self.inside.paths =
    subst (λ (x : TermsOnPaths). c.args.path < length x.paths) (sym c.self.view_is) c.requires in
    let small : c.args.path < 2 ^ 32 = omega (arith, c.ranges.path.fits) in
    added_on_path c.self.inside.paths c.self.inside.known c.add.new.self c.args.path c.args.rest.now c.deref.result.now
    (record { document = c.args.document; position = c.args.position }) c.self.invariant.1 within small
    (c.deref.ensures.value ∙ c.in_ok-write_key.ensures) c.len.ensures.no_zero c.len.ensures.distinct
    c.self.invariant.0 c.args.self.now c.self.view_is c.add.result c.add.ensures.ok
