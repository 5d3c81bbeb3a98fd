use Rattle.std.proofs.Common.{◌<◌, length, refl, sym, ap, ◌∙◌, subst, [], ◌∷◌, ◌++◌}
use Rattle.std.specs.List.{slice_index_or}
use Rattle.seg_model.specs.Occurrences.{placed_from}
use Rattle.seg_terms.specs.AddedOccurrences.{with_occurrences}
use Rattle.seg_segment.proofs.Exports.{drop-item}
use Rattle.seg_build.proofs.PathTokens.{token_turn, fits_first, fits_rest}
use Rattle.seg_build.proofs.path_tokens.add_path_tokens.Goals as goal

pub loop-token-init : goal.loop-token-init
loop-token-init c = record { same = refl; added = refl; fits = c.requires.fits }

pub add_path_token-requires-clause-path : goal.add_path_token-requires-clause-path
add_path_token-requires-clause-path c = subst (λ ps. c.args.path < length ps) (sym c.loop-token.invariant.same) c.requires.path

pub add_path_token-requires-clause-fits : goal.add_path_token-requires-clause-fits
add_path_token-requires-clause-fits c =
    fits_first c.args.first.position c.token-item.result _ _ (drop-item c.args.tokens.now c.loop-token.token-index c.token-item.result c.loop-token-test.true c.token-item.is) c.loop-token.invariant.fits

pub loop-token-preserved : goal.loop-token-preserved
loop-token-preserved c =
    let inv = c.loop-token.invariant in
    let first = c.args.first in
    let t = c.token-item.result in
    let path = slice_index_or c.args.terms.now.paths c.args.path [] in
    let cut = drop-item c.args.tokens.now c.loop-token.token-index t c.loop-token-test.true c.token-item.is in
    let put = c.in_ok-add_path_token.ensures.added
    ∙ ap (λ ps. with_occurrences c.loop-token.terms.terms first.document (placed_from first.position (slice_index_or ps c.args.path [] ++ 0 ∷ 115 ∷ []) (t ∷ []))) inv.same in
    record {
      same = c.in_ok-add_path_token.ensures.paths ∙ inv.same;
      added = token_turn first.position path first.document c.loop-token.terms.terms c.add_path_token.new.terms.terms t _ _ cut put ∙ inv.added;
      fits = fits_rest first.position t _ _ cut inv.fits;
    }
