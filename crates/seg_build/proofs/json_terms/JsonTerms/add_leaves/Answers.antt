use Rattle.std.proofs.Common.{List, ℕ, map, sym, ap, ◌∙◌, subst}
use Rattle.std.proofs.lemmas.Result.{IfOk-weaker}
use Rattle.seg_values.specs.ValueTrees.{tree_of}
use Rattle.seg_values.specs.Tree.{Leaf}
use Rattle.seg_model.specs.Leaves.{leaves}
use Rattle.seg_check.specs.LeafContents.{with_texts}
use Rattle.seg_check.specs.Paths.{path_leaf}
use Rattle.seg_check.proofs.Exports.{are-leaves}
use Rattle.seg_build.specs.GatheredFieldTerms.{with_leaves}
use Rattle.seg_build.specs.LeafPositions.{LeavesFit, leaves_count}
use Rattle.seg_model.specs.SaturatedNumbers.{saturated}
use Rattle.seg_build.specs.PathStarts.{path_start, starts_of}
use Rattle.seg_build.proofs.StartsByNumber.{starts-extended}
use Rattle.seg_build.proofs.json_terms.JsonTerms.add_leaves.Goals as goal

pub add_found-requires-clause-numbered : goal.add_found-requires-clause-numbered
add_found-requires-clause-numbered c =
    (are-leaves c.args.expand_dots c.leaves_of.new.self.paths (leaves (tree_of c.args.value.now)) c.in_ok-found.found.items
    c.in_ok-found.ensures.leaves).numbered

pub add_found-requires-clause-fits : goal.add_found-requires-clause-fits
add_found-requires-clause-fits c =
    let old = c.args.self.now in
    let paths = c.leaves_of.new.self.paths in
    let texts = c.args.texts.now in
    let found = c.in_ok-found.found.items in
    let known = are-leaves c.args.expand_dots paths (leaves (tree_of c.args.value.now)) found c.in_ok-found.ensures.leaves in
    let starts = starts-extended old.terms.paths paths old.starts.items c.in_ok-found.ensures.extends old.few in
    subst (λ s. LeavesFit (path_start c.args.document s) (with_texts texts (map (path_leaf paths) found))) (sym starts)
    (subst (λ (ls : List (List ℕ × Leaf)). LeavesFit (path_start c.args.document (starts_of old.terms.paths old.starts.items)) (with_texts texts ls)) (sym known.are) c.requires.fits)

pub returns-clause-added : goal.returns-clause-added
returns-clause-added c =
    let old = c.args.self.now in
    let paths = c.leaves_of.new.self.paths in
    let texts = c.args.texts.now in
    let found = c.in_ok-found.found.items in
    let known = are-leaves c.args.expand_dots paths (leaves (tree_of c.args.value.now)) found c.in_ok-found.ensures.leaves in
    let starts = starts-extended old.terms.paths paths old.starts.items c.in_ok-found.ensures.extends old.few in
    let terms = c.in_ok-found.ensures.terms in
    IfOk-weaker c.add_found.result _ _ (λ _ is. is
    ∙ (λ i. with_leaves c.args.document (record { terms = terms i; starts = starts i }) (with_texts texts (known.are i)))) c.add_found.ensures.added

pub returns-clause-counted : goal.returns-clause-counted
returns-clause-counted c =
    let paths = c.leaves_of.new.self.paths in
    let texts = c.args.texts.now in
    let known = are-leaves c.args.expand_dots paths (leaves (tree_of c.args.value.now)) c.in_ok-found.found.items c.in_ok-found.ensures.leaves in
    IfOk-weaker c.add_found.result _ _ (λ _ is. is
    ∙ ap (λ (ls : List (List ℕ × Leaf)). saturated (leaves_count (with_texts texts ls))) known.are) c.add_found.ensures.counted
