use Rattle.std.proofs.Common.{rules}
use Rattle.seg_tokens.specs.TokenCodes.{token_code}
use Rattle.seg_tokens.specs.CodeEquality.{same_by-is}
use Rattle.seg_tokens.proofs.equality.TokenPartialEq.eq.Goals as goal

pub returns-then-self-other-4-clause-value : goal.returns-then-self-other-4-clause-value
returns-then-self-other-4-clause-value c = same_by-is token_code c.eq.result c.args.self.now c.args.other.now (search rules)

pub returns-else-self-other-4-clause-value : goal.returns-else-self-other-4-clause-value
returns-else-self-other-4-clause-value c = same_by-is token_code c.if-self-other-3.value c.args.self.now c.args.other.now (search rules)
