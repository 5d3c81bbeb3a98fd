use Rattle.std.proofs.Common.{◌++◌, ap, ◌∙◌}
use Rattle.json.specs.Print.{quoted}
use Rattle.seg_values.specs.Facets.{path_of}
use Rattle.seg_text.proofs.PrintedFronts.{not_more}
use Rattle.seg_text.proofs.stored_leaf.push_stored_facet.Goals as goal

pub returns-in_default : goal.returns-in_default
returns-in_default c = not_more c.args.out.now.items

pub returns : goal.returns
returns c = record { value = c.in-Some.text.now; is = c.in-Some.ensures; printed = c.in_ok-push_facet.ensures ∙ ap (λ t. c.args.out.now.items ++ quoted (path_of t)) (c.from_encoded_string.ensures ∙ c.in_ok-encoded.ensures.ok) }
