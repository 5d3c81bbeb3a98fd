use Rattle.std.proofs.Common.{lit<, ◌++◌, map, sym, ap, ◌∙◌, subst}
use Rattle.std.proofs.lemmas.Bool.{false≢true}
use Rattle.std.proofs.lemmas.Str.Pattern.{strip_prefix_char}
use Rattle.seg_common.specs.Replacements.{replacement}
use Rattle.seg_values.specs.Facets.{Tells}
use Rattle.seg_values.proofs.FacetPaths.{encoded_again}
use Rattle.seg_values.proofs.facet.Facet.from_text.Goals as goal
use Rattle.seg_values.proofs.facet.Facet.from_text.Goals.{in_default-via-in-Some+else-has_steps, in_default-via-in_default}

pub returns-in_ok-push_replaced-in-Some-clause-ok : goal.returns-in_ok-push_replaced-in-Some-clause-ok
returns-in_ok-push_replaced-in-Some-clause-ok c =
    let cases = strip_prefix_char 47 c.args.text.now c.strip_prefix.result c.strip_prefix.ensures.cases (lit< tt) in
    let behind = rw c.in-Some.is at cases in
    let told = c.has_steps.ensures.0 c.if-has_steps.true in
    let made = c.in_ok-push_replaced-in-Some.ensures.ok ∙ ap (λ l. l ++ map (replacement 47 0) c.in-Some.path.now) c.new-encoded.ensures.bytes ∙ encoded_again c.in-Some.path.now told.0 told.1 in
    subst (λ e. Tells c.args.text.now e) (sym made) (subst (λ t. Tells t told.0) (sym behind) told.1)

pub returns-in_default-clause-malformed : goal.returns-in_default-clause-malformed
returns-in_default-clause-malformed c = λ _ encoded h.
    let cases = strip_prefix_char 47 c.args.text.now c.strip_prefix.result c.strip_prefix.ensures.cases (lit< tt) in
    elim c.in_default.branch [
      | in_default-via-in-Some+else-has_steps w ↦
          let behind = rw w.in-Some.is at cases in
          false≢true (sym w.if-has_steps.false ∙ w.has_steps.ensures.1 (encoded, subst (λ t. Tells t encoded) behind h))
      | in_default-via-in_default w ↦
          let none = rw w.in_default.is at cases in
          none (map (replacement 0 47) encoded) h.path_of_encoded
    ]
