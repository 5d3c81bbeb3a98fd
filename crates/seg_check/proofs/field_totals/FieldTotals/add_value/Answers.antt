use Rattle.std.proofs.Common.{ap, sym, ◌∙◌}
use Rattle.std.specs.Prelude.{is_some}
use Rattle.seg_values.specs.ValueTrees.{tree_of}
use Rattle.seg_model.specs.Fields.{indexing_tokenizer}
use Rattle.seg_check.proofs.FieldValues.{one-more}
use Rattle.seg_check.proofs.field_totals.FieldTotals.add_value.Goals as goal

pub returns-in-Some-clause-stands : goal.returns-in-Some-clause-stands
returns-in-Some-clause-stands g c done stands some =
    let e = c.args.entry.now in
    one-more e (g.Z.Analyzers.tokens_of c.args.analyzers.now (indexing_tokenizer e)) c.args.self.now _ done (tree_of c.args.value.now) c.in-Some.size
    (sym c.in-Some.is ∙ c.in_ok-size.ensures.size) c.with-self.ensures (λ json. c.in_ok-size.ensures.stands done json (stands.paths json) (ap is_some c.in-Some.is)) stands
