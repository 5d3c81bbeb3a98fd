use Rattle.std.proofs.Common.{◌≡◌, ℕ, List, Option, Some, None, Err, refl, sym, ap}
use Rattle.seg_script_values.specs.FacetTexts.{facet_of}
use Rattle.seg_script_values.proofs.FacetTexts.{paths_are_facets}
use Rattle.seg_script_values.proofs.facet_texts.facet_from.Goals as goal

pub returns-in-Ok : goal.returns-in-Ok
returns-in-Ok c = sym ((paths_are_facets c.args.text.now c.in-Ok.facet).1 c.in-Ok.ensures.ok)

none_told : (path : List ℕ) → ((encoded : List ℕ) → facet_of path ≡ Some encoded → ⊥) → None ≡ facet_of path
none_told path h = by (facet_of path) refl
  where
    by : (o : Option (List ℕ)) → facet_of path ≡ o → None ≡ o
    by None e = refl
    by (Some encoded) e = absurd (h encoded e)

pub returns-in-Err-Malformed : goal.returns-in-Err-Malformed
returns-in-Err-Malformed c = none_told c.args.text.now (λ encoded e. c.in-Err-Malformed.ensures.malformed (ap Err c.in-Err-Malformed.field-0-is) encoded ((paths_are_facets c.args.text.now encoded).0 e))
