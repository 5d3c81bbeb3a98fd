use Rattle.std.proofs.Common.{◌≡◌, true, refl, ap, sym, ◌∙◌, subst}
use Rattle.std.specs.Prelude.{IfOk}
use Rattle.std.proofs.lemmas.Result.{IfOk-weaker}
use Rattle.std.proofs.lemmas.Option.{same_Some}
use Rattle.seg_values.specs.ValueTrees.{tree_of}
use Rattle.seg_model.specs.Fields.{is_indexed}
use Rattle.seg_check.specs.DocumentFields.{CutsMore}
use Rattle.seg_check.specs.KnownTokenizers.{KnowsTexts}
use Rattle.seg_check.proofs.DocumentFields.{each-at, keys-plain, order-of, order-none, read-at, none-past}
use Rattle.seg_check.proofs.KeptValues.{cut-passed}
use Rattle.seg_check.proofs.positions.CutDocument.add_pair.Goals as goal

pub returns-in_default-clause-cut : goal.returns-in_default-clause-cut
returns-in_default-clause-cut g c passes document came at has =
    cut-passed c.args.schema.now (g.Z.Analyzers.tokens_of c.args.analyzers.now) came c.args.field (tree_of c.args.value.now) document c.args.self.now
    (λ entry here. absurd (none-past c.args.schema.now c.field_id-field.result c.args.field entry c.in_default.ensures.lookup.3 c.field_id-field.ensures here)) has

pub returns-then-not-is_indexed-clause-order : goal.returns-then-not-is_indexed-clause-order
returns-then-not-is_indexed-clause-order g c =
    let here = read-at c.args.schema.now c.field_id-field.result c.args.field c.in-Some.entry.now c.in-Some.ensures.lookup.3.0 c.in-Some.ensures.lookup.1 c.field_id-field.ensures in
    order-none (g.Z.Analyzers.tokens_of c.args.analyzers.now) c.args.schema.now c.args.field (tree_of c.args.value.now) c.in-Some.entry.now here (sym c.is_indexed.ensures ∙ c.if-not-is_indexed.true)

pub returns-then-not-is_indexed-clause-cut : goal.returns-then-not-is_indexed-clause-cut
returns-then-not-is_indexed-clause-cut g c passes document came at has =
    let here = read-at c.args.schema.now c.field_id-field.result c.args.field c.in-Some.entry.now c.in-Some.ensures.lookup.3.0 c.in-Some.ensures.lookup.1 c.field_id-field.ensures in
    cut-passed c.args.schema.now (g.Z.Analyzers.tokens_of c.args.analyzers.now) came c.args.field (tree_of c.args.value.now) document c.args.self.now
    (λ entry at_entry. ap is_indexed (same_Some entry c.in-Some.entry.now (sym at_entry ∙ here)) ∙ sym c.is_indexed.ensures ∙ c.if-not-is_indexed.true) has

pub add_value-requires : goal.add_value-requires
add_value-requires g c =
    let schema = c.args.schema.now in
    let t = tree_of c.args.value.now in
    let here = read-at schema c.field_id-field.result c.args.field c.in-Some.entry.now c.in-Some.ensures.lookup.3.0 c.in-Some.ensures.lookup.1 c.field_id-field.ensures in
    let indexed = sym c.is_indexed.ensures ∙ c.if-not-is_indexed.false in
    record {
      known = each-at (KnowsTexts (g.Z.Analyzers.knows c.args.analyzers.now)) schema c.args.field c.in-Some.entry.now c.requires.known here;
      indexed = indexed;
      cut = c.in_ok-cut.ensures;
      keys = keys-plain schema c.args.field t c.in-Some.entry.now here indexed c.requires.json;
    }

pub returns-clause-order : goal.returns-clause-order
returns-clause-order g c =
    let here = read-at c.args.schema.now c.field_id-field.result c.args.field c.in-Some.entry.now c.in-Some.ensures.lookup.3.0 c.in-Some.ensures.lookup.1 c.field_id-field.ensures in
    let same = order-of (g.Z.Analyzers.tokens_of c.args.analyzers.now) c.args.schema.now c.args.field (tree_of c.args.value.now) c.in-Some.entry.now here (sym c.is_indexed.ensures ∙ c.if-not-is_indexed.false) in
    IfOk-weaker c.add_value.result _ _ (λ rises is. is ∙ same) c.add_value.ensures.rises

pub returns-clause-cut : goal.returns-clause-cut
returns-clause-cut g c =
    let schema = c.args.schema.now in
    let F = g.Z.Analyzers.tokens_of c.args.analyzers.now in
    let id = c.field_id-field.result in
    let here = read-at schema id id c.in-Some.entry.now c.in-Some.ensures.lookup.3.0 c.in-Some.ensures.lookup.1 refl in
    subst (λ n. IfOk c.add_value.result (λ rises. rises ≡ true → CutsMore schema F c.args.at (n, tree_of c.args.value.now) c.args.self.now c.add_value.new.self)) c.field_id-field.ensures (c.add_value.ensures.cut schema here)
