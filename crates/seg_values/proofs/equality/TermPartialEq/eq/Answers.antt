use Rattle.seg_values.specs.ValueCodes.{term_code}
use Rattle.seg_tokens.specs.CodeEquality.{same_by-is}
use Rattle.seg_values.proofs.equality.TermPartialEq.eq.Goals as goal

pub returns-clause-value : goal.returns-clause-value
returns-clause-value c = same_by-is term_code c.is_same_term.result c.args.self.now c.args.other.now c.is_same_term.ensures
