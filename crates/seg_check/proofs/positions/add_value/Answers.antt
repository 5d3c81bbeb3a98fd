use Rattle.std.proofs.Common.{rules, [], ◌∷◌, ◌++◌, Some, sym, subst}
use Rattle.std.specs.HashMap.{Updates}
use Rattle.std.specs.Prelude.{nat_eq}
use Rattle.seg_values.specs.ValueTrees.{tree_of}
use Rattle.seg_model.specs.Fields.{indexing_tokenizer, values_of}
use Rattle.seg_check.specs.DocumentFields.{TellMore}
use Rattle.seg_check.specs.FieldContents.{Stands}
use Rattle.seg_check.proofs.DocumentFields.{one-field, to-some, to-none, stand-if}
use Rattle.seg_check.proofs.positions.add_value.Goals as goal

pub returns-in-Some-clause-stand : goal.returns-in-Some-clause-stand
returns-in-Some-clause-stand g c schema here =
    let F = g.Z.Analyzers.tokens_of c.args.analyzers.now in
    let field = c.args.text.now.field in
    let t = tree_of c.args.value.now in
    let entry = c.args.entry.now in
    let A = F (indexing_tokenizer entry) in
    let new = c.add_value.new.self in
    let updates = (c.get_mut.follows.holds new).3 (search rules) in
    stand-if c.add_value.result new (λ u. TellMore schema F (field, t) c.args.totals.now (c.get_mut.follows.lender u))
    (λ values. Stands entry A c.in-Some.found.now values) (λ u values. Stands entry A u (values ++ t ∷ [])) c.add_value.ensures.stands
    (λ more came stand. one-field schema F c.args.totals.now came field t stand entry (c.get_mut.follows.lender new) new here c.requires.indexed updates
    (to-some entry A _ c.in-Some.found.now new (values_of field came) t (sym c.in-Some.ensures.value) (more (values_of field came))))

pub returns-clause-stand : goal.returns-clause-stand
returns-clause-stand g c schema here rises came stand =
    let F = g.Z.Analyzers.tokens_of c.args.analyzers.now in
    let field = c.args.text.now.field in
    let t = tree_of c.args.value.now in
    let entry = c.args.entry.now in
    let A = F (indexing_tokenizer entry) in
    let new = c.add_value-2.new.self in
    -- the map that is lent to nobody is as it was
    let same = c.get_mut.follows.holds-at-none in
    let updates = subst (λ m. Updates nat_eq m c.insert.new.self field (Some new)) same c.in_ok-insert.ensures.updates in
    one-field schema F c.args.totals.now came field t stand entry c.insert.new.self new here c.requires.indexed updates
    (to-none entry A _ new (values_of field came) t (sym c.in_default.ensures.value) (c.in_ok-rises.ensures.stands [] (c.new-first.ensures entry A) rises))
