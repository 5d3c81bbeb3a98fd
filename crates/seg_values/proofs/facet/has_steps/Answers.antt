use Rattle.std.proofs.Common.{rules, tests, lit<, ◌==◌, not, eqb, length}
use Rattle.std.specs.List.{list_any}
use Rattle.std.proofs.lemmas.Iterator.Search.{all_from_yields_List}
use Rattle.std.proofs.lemmas.Iterator.Splits.{YieldsList-from_str_split}
use Rattle.seg_values.proofs.FacetPaths.{passed_two, stopped, tells_from_passes}
use Rattle.seg_values.proofs.facet.has_steps.Goals as goal

pub returns-then-not-contains : goal.returns-then-not-contains
returns-then-not-contains c =
    let text = c.args.path.now in
    tells_from_passes text _ (passed_two (length text == 0) (list_any (λ byte. byte == 0) text) _ _ (cc) (cc)
    (all_from_yields_List (λ step. not (eqb (length step) 0)) _ _ _ c.all.ensures.ran
    (YieldsList-from_str_split 47 text (lit< tt) c.split.ensures.text c.split.ensures.has_more c.split.ensures.pattern) (λ x b q k. search (rules, tests))))

pub returns-else-not-contains : goal.returns-else-not-contains
returns-else-not-contains c =
    let text = c.args.path.now in
    tells_from_passes text _ (stopped (length text == 0) (list_any (λ byte. byte == 0) text) _ (not c.contains.result) (cc) (cc) (cc))
