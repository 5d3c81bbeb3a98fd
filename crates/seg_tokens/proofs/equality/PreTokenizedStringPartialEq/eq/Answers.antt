use Rattle.std.proofs.Common.{rules}
use Rattle.seg_tokens.specs.TokenCodes.{pre_tokenized_code}
use Rattle.seg_tokens.specs.CodeEquality.{same_by-is}
use Rattle.seg_tokens.proofs.equality.PreTokenizedStringPartialEq.eq.Goals as goal

pub returns-then-eq-clause-value : goal.returns-then-eq-clause-value
returns-then-eq-clause-value c = same_by-is pre_tokenized_code c.eq-then-eq.result c.args.self.now c.args.other.now (search rules)

pub returns-else-eq-clause-value : goal.returns-else-eq-clause-value
returns-else-eq-clause-value c = same_by-is pre_tokenized_code c.eq.result c.args.self.now c.args.other.now (search rules)
