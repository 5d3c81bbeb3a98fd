use Rattle.std.proofs.Common.{◌≡◌}
use Rattle.std.specs.Bool.{Decides}
use Rattle.std.specs.Coded.{coded_list}
use Rattle.std.specs.Cmp.Lexicographic.{pointwise, pointwise_decides}
use Rattle.std.proofs.lemmas.Bool.Decides.{Decides-at}
use Rattle.seg_tokens.specs.TokenCodes.{token_code}
use Rattle.seg_tokens.specs.CodeEquality.{same_by, same_by-is, same_by-decides}
use Rattle.seg_tokens.proofs.equality.TokensPartialEq.eq.Goals as goal

same : (c : goal.After-eq) → Decides c.eq.result (c.args.self.now ≡ c.args.other.now)
same c =
    let tested : c.eq.result ≡ pointwise (same_by token_code) c.args.self.now c.args.other.now = rw (← c.as_slice.ensures, ← c.as_slice-2.ensures) c.eq.ensures in
    Decides-at c.eq.result _ tested (pointwise_decides (same_by-decides token_code) c.args.self.now c.args.other.now)

pub returns-clause-value : goal.returns-clause-value
returns-clause-value c = same_by-is (coded_list token_code) c.eq.result c.args.self.now c.args.other.now (same c)

pub returns-clause-same : goal.returns-clause-same
returns-clause-same c = same c
