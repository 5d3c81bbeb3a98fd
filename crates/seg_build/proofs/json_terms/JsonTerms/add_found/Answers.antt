use Rattle.std.proofs.Common.{◌≡◌, ◌+◌, [], ◌∷◌, List, Some, map, refl, sym, ap, ◌∙◌, subst, arith}
use Rattle.std.specs.List.{AllByRecursion, slice_index_or}
use Rattle.std.specs.Vec.Iter.{into_iter_items}
use Rattle.seg_values.specs.ValueTrees.{tree_of}
use Rattle.seg_paths.specs.NumberedLeaves.{leaf_in}
use Rattle.seg_paths.specs.Paths.{number_of}
use Rattle.seg_paths.specs.declared.leaves.NumberedLeaf.{NumberedLeaf}
use Rattle.seg_tokens.specs.declared.token.Token.{Token}
use Rattle.seg_check.specs.LeafContents.{leaf_with, with_texts}
use Rattle.seg_check.specs.Paths.{IsNumbered, path_leaf}
use Rattle.seg_check.proofs.Exports.{no_more}
use Rattle.seg_build.specs.GatheredFieldTerms.{AddsLeaf, json_gathered, with_leaves}
use Rattle.seg_build.specs.LeafPositions.{LeafFits, LeavesFit, leaf_count, leaves_count}
use Rattle.seg_model.specs.SaturatedNumbers.{saturated}
use Rattle.seg_build.specs.PathStarts.{path_start}
use Rattle.seg_build.proofs.GatheredLeaves.{leaves_turn, count_turn, fit_turn, fit_first}
use Rattle.seg_build.proofs.json_terms.JsonTerms.add_found.Goals as goal

pub loop-found-init : goal.loop-found-init
loop-found-init c =
    let gives = c.into_iter-found-iterator.ensures.into_iter_gives.0 in
    let table = c.args.self.now.terms.paths in
    record {
      same = refl;
      added = refl;
      sum = omega arith;
      few = omega arith;
      fits = subst (λ (ls : List NumberedLeaf). LeavesFit (path_start c.args.document (json_gathered c.args.self.now).starts) (with_texts c.args.texts.now (map (path_leaf table) ls))) (sym gives) c.requires.fits;
      numbered = subst (AllByRecursion (IsNumbered table)) (sym gives) c.requires.numbered;
    }

pub add_leaf-requires-clause-number : goal.add_leaf-requires-clause-number
add_leaf-requires-clause-number c =
    let inv = c.loop-found.invariant in
    let table = c.args.self.now.terms.paths in
    let path = c.in-Some.found.path in
    let known = (subst (AllByRecursion (IsNumbered table)) c.in-Some.ensures.steps.0 inv.numbered).0 in
    subst (λ ps. number_of ps (slice_index_or ps path []) ≡ Some path) (sym inv.same) known

pub add_leaf-requires-clause-fits : goal.add_leaf-requires-clause-fits
add_leaf-requires-clause-fits c =
    let inv = c.loop-found.invariant in
    let table = c.args.self.now.terms.paths in
    let path = c.in-Some.found.path in
    let l = leaf_in (tree_of c.in-Some.found.leaf.now) in
    let at = path_start c.args.document (json_gathered c.loop-found.self).starts in
    subst (λ ps. LeafFits (at (slice_index_or ps path [])) (leaf_with (c.first_tokens-tokens.result.now ∷ []) l)) (sym inv.same)
    (subst (λ (ts : List Token). LeafFits (at (slice_index_or table path [])) (leaf_with (ts ∷ []) l)) (sym c.first_tokens-tokens.ensures)
    (fit_first at c.loop-found.rest.now (slice_index_or table path []) l _ _ (ap (map (path_leaf table)) c.in-Some.ensures.steps.0) inv.fits))

pub loop-found-preserved : goal.loop-found-preserved
loop-found-preserved c =
    let inv = c.loop-found.invariant in
    let table = c.args.self.now.terms.paths in
    let path = c.in-Some.found.path in
    let l = leaf_in (tree_of c.in-Some.found.leaf.now) in
    let document = c.args.document in
    let before = c.loop-found.self in
    let after = c.add_leaf.new.self in
    let texts = c.loop-found.rest.now in
    let cut = c.in-Some.ensures.steps.0 in
    let is = ap (map (path_leaf table)) cut in
    let adds = subst (λ ps. AddsLeaf document before after (slice_index_or ps path [], leaf_with (slice_index_or texts 0 [] ∷ []) l)) inv.same
    (subst (λ (ts : List Token). AddsLeaf document before after (slice_index_or before.terms.paths path [], leaf_with (ts ∷ []) l)) c.first_tokens-tokens.ensures c.in_ok-more.ensures.added) in
    let counted = c.in_ok-more.ensures.counted ∙ ap (λ (ts : List Token). leaf_count (leaf_with (ts ∷ []) l)) c.first_tokens-tokens.ensures in
    let own = slice_index_or table path [] in
    let following = c.texts_after-rest.result.now in
    let moved = c.texts_after-rest.ensures in
    record {
      same = adds.paths ∙ inv.same;
      added = leaves_turn document before after texts own l _ _ is adds following moved ∙ inv.added;
      sum = count_turn document before after texts own l _ _ is adds following moved c.loop-found.count c.in_ok-more.more c.saturating_add-count.result counted (omega (arith, c.saturating_add-count.ensures)) ∙ inv.sum;
      few = omega (arith, c.saturating_add-count.ensures);
      fits = fit_turn document before after texts own l _ _ is adds following moved inv.fits;
      numbered = (subst (AllByRecursion (IsNumbered table)) cut inv.numbered).1;
    }

pub returns-clause-added : goal.returns-clause-added
returns-clause-added c =
    let table = c.args.self.now.terms.paths in
    let it = c.loop-found.found-iterator in
    let gives = c.into_iter-found-iterator.ensures.into_iter_gives.0 in
    let none = ap (map (path_leaf table)) (no_more (into_iter_items it) it.rest.len it.rest.ok.0 c.in-None.ensures.steps.0) in
    ap (λ ls. with_leaves c.args.document (json_gathered c.loop-found.self) (with_texts c.loop-found.rest.now ls)) (sym none)
    ∙ c.loop-found.invariant.added
    ∙ ap (λ (ls : List NumberedLeaf). with_leaves c.args.document (json_gathered c.args.self.now) (with_texts c.args.texts.now (map (path_leaf table) ls))) gives

pub returns-clause-counted : goal.returns-clause-counted
returns-clause-counted c =
    let table = c.args.self.now.terms.paths in
    let it = c.loop-found.found-iterator in
    let gives = c.into_iter-found-iterator.ensures.into_iter_gives.0 in
    let none = ap (map (path_leaf table)) (no_more (into_iter_items it) it.rest.len it.rest.ok.0 c.in-None.ensures.steps.0) in
    let few = c.loop-found.invariant.few in
    let here : c.loop-found.count ≡ saturated (c.loop-found.count + 0) = omega (arith, few) in
    here
    ∙ ap (λ ls. saturated (c.loop-found.count + leaves_count (with_texts c.loop-found.rest.now ls))) (sym none)
    ∙ c.loop-found.invariant.sum
    ∙ ap (λ (ls : List NumberedLeaf). saturated (leaves_count (with_texts c.args.texts.now (map (path_leaf table) ls)))) gives
