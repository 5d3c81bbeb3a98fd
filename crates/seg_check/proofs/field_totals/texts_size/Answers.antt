use Rattle.std.proofs.Common.{◌≡◌, [], ◌∷◌, ◌++◌, map, ap, sym, ◌∙◌, subst}
use Rattle.std.proofs.lemmas.Result.{IfOk-weaker}
use Rattle.seg_values.specs.ValueTrees.{tree_of}
use Rattle.seg_model.specs.DocumentCheck.{value_texts}
use Rattle.seg_model.specs.Fields.{indexing_tokenizer}
use Rattle.seg_check.specs.Paths.{path_leaf, texts_of, PathsStand}
use Rattle.seg_check.specs.TextSizes.{measured}
use Rattle.seg_check.specs.FieldContents.{found_in}
use Rattle.seg_check.proofs.FieldValues.{texts-walked, found-last}
use Rattle.seg_check.proofs.field_totals.texts_size.Goals as goal

pub returns-in_ok-leaves-in-Json-clause-size : goal.returns-in_ok-leaves-in-Json-clause-size
returns-in_ok-leaves-in-Json-clause-size g c =
    let T = g.Z.Analyzers.tokens_of c.args.analyzers.now in
    let e = c.args.entry.now in
    let t = tree_of c.args.value.now in
    let walk = c.in_ok-leaves-in-Json in
    let table = c.leaves_of.new.self.table in
    let same : measured (texts_of (T c.indexing_tokenizer-tokenizer.result.now) (map
    (path_leaf table) walk.leaves.items)) ≡ measured (value_texts e.kind (T (indexing_tokenizer e)) t) =
    ap (λ n. measured (texts_of (T n) (map (path_leaf table) walk.leaves.items))) c.indexing_tokenizer-tokenizer.ensures
    ∙ ap (λ l. measured (texts_of (T (indexing_tokenizer e)) l)) walk.ensures.leaves.are
    ∙ ap measured (texts-walked e.expand_dots (T (indexing_tokenizer e)) t)
    ∙ ap (λ k. measured (value_texts k (T (indexing_tokenizer e)) t)) (sym c.in-Json.is) in
    IfOk-weaker c.add_leaves.result _ _ (λ size is. is ∙ same) c.add_leaves.ensures.size

pub returns-in_ok-leaves-in-Json-clause-stands : goal.returns-in_ok-leaves-in-Json-clause-stands
returns-in_ok-leaves-in-Json-clause-stands g c done json stands =
    let T = g.Z.Analyzers.tokens_of c.args.analyzers.now in
    let e = c.args.entry.now in
    let t = tree_of c.args.value.now in
    let tokenizer = c.indexing_tokenizer-tokenizer in
    let walk = c.in_ok-leaves-in-Json in
    let came = map (path_leaf c.leaves_of.new.self.table) walk.leaves.items in
    let same : found_in e.expand_dots done ++ came ≡ found_in e.expand_dots (done ++ t ∷ []) =
    ap (λ l. found_in e.expand_dots done ++ l) walk.ensures.leaves.are ∙ sym (found-last e.expand_dots done t) in
    let grown = walk.ensures.stands (T (indexing_tokenizer e)) (found_in e.expand_dots done) stands in
    let before = subst (λ n. PathsStand (T n) c.leaves_of.new.self (found_in e.expand_dots done))
    (sym tokenizer.ensures) grown in
    IfOk-weaker c.add_leaves.result _ _ (λ size more some.
    subst (λ l. PathsStand (T (indexing_tokenizer e)) c.add_leaves.new.paths l) same (subst (λ n. PathsStand
    (T n) c.add_leaves.new.paths (found_in e.expand_dots done ++ came)) tokenizer.ensures (more some)))
    (c.add_leaves.ensures.stands (found_in e.expand_dots done) walk.ensures.leaves.numbered before)

pub returns-in_ok-leaves-in-Json-clause-cut : goal.returns-in_ok-leaves-in-Json-clause-cut
returns-in_ok-leaves-in-Json-clause-cut g c json =
    let T = g.Z.Analyzers.tokens_of c.args.analyzers.now in
    let e = c.args.entry.now in
    let t = tree_of c.args.value.now in
    let walk = c.in_ok-leaves-in-Json in
    let table = c.leaves_of.new.self.table in
    let same : texts_of (T c.indexing_tokenizer-tokenizer.result.now) (map (path_leaf table) walk.leaves.items)
    ≡ value_texts e.kind (T (indexing_tokenizer e)) t =
    ap (λ n. texts_of (T n) (map (path_leaf table) walk.leaves.items)) c.indexing_tokenizer-tokenizer.ensures
    ∙ ap (texts_of (T (indexing_tokenizer e))) walk.ensures.leaves.are
    ∙ texts-walked e.expand_dots (T (indexing_tokenizer e)) t
    ∙ ap (λ k. value_texts k (T (indexing_tokenizer e)) t) (sym c.in-Json.is) in
    IfOk-weaker c.add_leaves.result _ _ (λ size is some. is some
    ∙ ap (λ l. c.args.texts.now.items ++ l) same) c.add_leaves.ensures.cut
