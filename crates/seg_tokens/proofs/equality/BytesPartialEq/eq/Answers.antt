use Rattle.std.proofs.Common.{rules}
use Rattle.seg_tokens.specs.TokenCodes.{key_code}
use Rattle.seg_tokens.specs.CodeEquality.{same_by-is}
use Rattle.seg_tokens.proofs.equality.BytesPartialEq.eq.Goals as goal

pub returns-clause-value : goal.returns-clause-value
returns-clause-value c = same_by-is key_code c.eq.result c.args.self.now c.args.other.now (search rules)
