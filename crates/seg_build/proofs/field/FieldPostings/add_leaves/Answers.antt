use Rattle.std.proofs.Common.{◌≡◌, ◌+◌, map, sym, ap, ◌∙◌, arith}
use Rattle.seg_values.specs.ValueTrees.{tree_of}
use Rattle.seg_model.specs.Leaves as model
use Rattle.seg_check.specs.LeafContents.{with_texts}
use Rattle.seg_check.specs.Paths.{at_path}
use Rattle.seg_build.specs.AddedValues.{length_of}
use Rattle.seg_build.specs.FieldState.{FieldSoFar}
use Rattle.seg_build.specs.GatheredFieldTerms.{Gathered, gathered, json_gathered, with_leaves}
use Rattle.seg_build.proofs.GatheredLeaves.{gathered-leaves}
use Rattle.seg_build.proofs.field.FieldPostings.add_leaves.Goals as goal

abbrev part_of : FieldSoFar → Gathered
part_of f = record { terms = f.terms; starts = f.starts }

pub returns-clause-added : goal.returns-clause-added
returns-clause-added c =
    let old = c.args.self.now in
    let document = c.args.document in
    let ls = with_texts c.args.texts.now (map (at_path c.args.expand_dots) (model.leaves (tree_of c.args.value.now))) in
    let same : json_gathered c.in-Json.terms ≡ part_of old = sym (ap gathered c.in-Json.is) ∙ ap part_of c.self.view_is in
    let all = c.in_ok-more.ensures.added ∙ ap (λ g. with_leaves document g ls) same ∙ gathered-leaves document (part_of old) ls in
    let len : c.length_of-len.result ≡ length_of document old + 0 = omega (arith, c.length_of-len.ensures) in
    λ i. record { terms = (all i).terms; starts = (all i).starts; document = document; start = c.start_of-start.ensures i; len = len i }
