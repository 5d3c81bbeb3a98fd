use Rattle.std.proofs.Common.{rules, subst, ◌≡◌, ◌≢◌}
use Rattle.std.specs.Prelude.{MatchBool}
use Rattle.seg_norms.specs.StoredNorms.{lengths_of_parts, lengths_for, HaveIds}
use Rattle.seg_norms.proofs.NormsOfParts.{fitting_norms, other_norms}
use Rattle.seg_norms.proofs.field_norm_readers.FieldNormReaders.fit.Goals as goal

pub returns-clause-fits : goal.returns-clause-fits
returns-clause-fits c =
    let told : MatchBool c.fit_parts.result (lengths_of_parts c.args.self.now ≡ lengths_for c.args.schema.now c.args.max_doc) (lengths_of_parts c.args.self.now ≢ lengths_for c.args.schema.now c.args.max_doc) = search rules in
    fitting_norms c.args.schema.now c.args.max_doc c.args.self.now c.fit_parts.result (subst HaveIds c.self.view_is c.self.invariant) told

pub returns-clause-differs : goal.returns-clause-differs
returns-clause-differs c =
    let told : MatchBool c.fit_parts.result (lengths_of_parts c.args.self.now ≡ lengths_for c.args.schema.now c.args.max_doc) (lengths_of_parts c.args.self.now ≢ lengths_for c.args.schema.now c.args.max_doc) = search rules in
    other_norms c.args.schema.now c.args.max_doc c.args.self.now c.fit_parts.result told
