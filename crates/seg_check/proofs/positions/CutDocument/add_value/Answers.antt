use Rattle.std.proofs.Common.{◌++◌, refl, ap, ◌∙◌}
use Rattle.seg_values.specs.ValueTrees.{tree_of}
use Rattle.seg_model.specs.DocumentCheck.{value_texts}
use Rattle.seg_model.specs.Fields.{indexing_tokenizer}
use Rattle.seg_check.proofs.CutContents.{content_cut}
use Rattle.seg_check.proofs.KeptValues.{cut-kept}
use Rattle.seg_check.proofs.positions.CutDocument.add_value.Goals as goal

pub returns-clause-cut : goal.returns-clause-cut
returns-clause-cut g c schema here rises document came at has =
    let F = g.Z.Analyzers.tokens_of c.args.analyzers.now in
    let entry = c.args.entry.now in
    let t = tree_of c.args.value.now in
    let text = c.args.text in
    let A = F (indexing_tokenizer entry) in
    let form = c.value_form-form in
    let content = form.ensures.content t
    ∙ content_cut A entry.kind entry.expand_dots text.cut c.add_value.new.texts.items t c.requires.cut
    (λ json. c.in_ok-rises.ensures.cut json rises ∙ ap (λ l. l ++ value_texts entry.kind A t) c.new-texts.ensures.items) in
    cut-kept schema F came text.field t document c.args.self.now _ _ entry here c.requires.indexed c.in_ok-push.ensures.items refl at content
    (form.ensures.keys t c.requires.keys) (c.in_ok-rises.ensures.stand schema here rises came has.totals) has
