use Rattle.std.proofs.Common.{Bool, subst}
use Rattle.std.specs.Prelude.{MatchBool}
use Rattle.seg_columns.specs.TermColumns.{UsesEach}
use Rattle.seg_columns.proofs.TermParts.{not_all_used, whole}
use Rattle.seg_columns.proofs.term_column.TermColumn.open.Goals as goal

pub returns-then-not-branch : goal.returns-then-not-branch
returns-then-not-branch c =
    let ords = c.in-Some-open.ords in
    let count = c.num_terms.result in
    not_all_used c.args.num_docs c.args.bytes.now c.in-Some.front c.in-Some.back ords c.in-Some-open-2.dictionary count
    c.in-Some.ensures.0 c.in-Some.ensures.1 c.in-Some-open.ensures.1 c.in-Some-open-2.ensures.1 c.num_terms.ensures
    (subst (λ (b : Bool). MatchBool b (UsesEach count ords)
    (UsesEach count ords → ⊥)) c.if-not-branch.true c.in_ok-uses_each.ensures)

pub returns : goal.returns
returns c =
    let ords = c.in-Some-open.ords in
    let count = c.num_terms.result in
    whole c.args.num_docs c.args.bytes.now c.in-Some.front c.in-Some.back ords c.in-Some-open-2.dictionary count
    c.in-Some.ensures.0 c.in-Some.ensures.1 c.in-Some-open.ensures.1 c.in-Some-open-2.ensures.1 c.num_terms.ensures
    c.in-Some-open.ensures.0 c.in-Some-open-2.ensures.0
    (subst (λ (b : Bool). MatchBool b (UsesEach count ords)
    (UsesEach count ords → ⊥)) c.if-not-branch.false c.in_ok-uses_each.ensures)
