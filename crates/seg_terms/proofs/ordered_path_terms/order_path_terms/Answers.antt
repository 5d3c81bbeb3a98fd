use Rattle.std.proofs.Common.{[], subst, sym}
use Rattle.std.specs.List.{IsDistinct}
use Rattle.std.specs.Str.{bytes_eq}
use Rattle.seg_paths.specs.Paths.{HaveNoZero}
use Rattle.seg_paths.specs.Ranks.{AreRanks}
use Rattle.seg_paths.proofs.Exports.{no_zero-paths}
use Rattle.seg_terms.proofs.PathOrder.{path_terms_entries, path_terms_whole}
use Rattle.seg_terms.proofs.ordered_path_terms.order_path_terms.Goals as goal

pub invariant_of-result : goal.invariant_of-result
invariant_of-result c =
    let known = c.index.inside.known in
    let found = c.in_ok-terms.field-0 in
    let plain = subst HaveNoZero c.paths.view_is (no_zero-paths [] c.paths.inside.nodes.keys tt c.paths.invariant.1) in
    let distinct = subst (IsDistinct bytes_eq) c.paths.view_is c.paths.invariant.2 in
    let are = subst (AreRanks c.index.inside.paths) (sym c.deref.ensures.value) c.in_ok-ranks.ensures in
    path_terms_whole c.index.inside.paths plain distinct c.deref.result.now are known.keys.keys known.hits.items
    c.index.invariant.1 found.terms.items c.sort_by_rank.new.terms.items found.hits.items c.in_ok-terms.ensures
    c.sort_by_rank.ensures.permutation c.sort_by_rank.ensures.sorted

pub returns : goal.returns
returns c =
    let known = c.index.inside.known in
    let found = c.in_ok-terms.field-0 in
    let plain = subst HaveNoZero c.paths.view_is (no_zero-paths [] c.paths.inside.nodes.keys tt c.paths.invariant.1) in
    let distinct = subst (IsDistinct bytes_eq) c.paths.view_is c.paths.invariant.2 in
    let are = subst (AreRanks c.index.inside.paths) (sym c.deref.ensures.value) c.in_ok-ranks.ensures in
    path_terms_entries c.index.inside.paths plain distinct c.deref.result.now are known.keys.keys known.hits.items
    c.index.invariant.1 found.terms.items c.sort_by_rank.new.terms.items found.hits.items c.in_ok-terms.ensures
    c.sort_by_rank.ensures.permutation c.sort_by_rank.ensures.sorted c.args.index c.index.view_is
