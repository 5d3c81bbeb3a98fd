use Rattle.std.proofs.Common.{◌≡◌, ◌-◌, ◌^◌, ◌≤◌, min, drop}
use Rattle.std.specs.List.{fold}
use Rattle.std.specs.Map.{values_of}
use Rattle.seg_build.specs.TokenTotal.{token_total}
use Rattle.seg_build.proofs.PostingsTotals.{and_total}
use Rattle.seg_build.proofs.sorted_terms.SortedTerms.total_num_tokens.Given as goal

-- what is so far, with what is left, is all
abbrev pub invariant-loop-at : goal.invariant-loop-at
invariant-loop-at l =
    record {
      sum : min (2 ^ 64 - 1) (fold and_total l.total (drop l.at (values_of l.self.terms))) ≡ min (2 ^ 64 - 1) (token_total l.self.terms);
      few : l.total ≤ 2 ^ 64 - 1;
    }
