use Rattle.std.proofs.Common.{◌≡◌, ◌<◌, ◌^◌, [], ◌∷◌, ◌++◌, drop}
use Rattle.std.specs.List.{slice_index_or}
use Rattle.seg_model.specs.Occurrences.{start_after, placed_from}
use Rattle.seg_terms.specs.AddedOccurrences.{with_occurrences}
use Rattle.seg_build.proofs.path_tokens.add_path_tokens.Given as goal

-- what is so far, with what is left, is what all the tokens give, and what is left fits
abbrev pub invariant-loop-token : goal.invariant-loop-token
invariant-loop-token l =
    let left = drop l.token-index l.tokens in
    let prefix = slice_index_or l.initial.terms.paths l.path [] ++ 0 ∷ 115 ∷ [] in
    record {
      same : l.terms.paths ≡ l.initial.terms.paths;
      added : with_occurrences l.terms.terms l.first.document (placed_from l.first.position prefix left)
          ≡ with_occurrences l.initial.terms.terms l.first.document (placed_from l.first.position prefix l.tokens);
      fits : start_after l.first.position left < 2 ^ 32;
    }
