use Rattle.std.proofs.Common.{◌≡◌, ◌<◌, ◌^◌, drop, []}
use Rattle.seg_model.specs.Occurrences.{counted, reach, placed_from}
use Rattle.seg_terms.specs.AddedOccurrences.{with_occurrences}
use Rattle.seg_build.proofs.tokens.add_tokens.Given as goal

-- what is so far, with what is left, is what all the tokens give, and what is left reaches no further than all
abbrev pub invariant-loop-token : goal.invariant-loop-token
invariant-loop-token l =
    let left = drop l.token-index l.tokens in
    record {
      terms : with_occurrences l.terms l.document (placed_from l.start [] left) ≡ with_occurrences l.initial.terms l.document (placed_from l.start [] l.tokens);
      small : reach l.start (counted left) < 2 ^ 32;
    }
