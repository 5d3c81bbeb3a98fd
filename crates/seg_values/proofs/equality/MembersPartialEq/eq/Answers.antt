use Rattle.std.specs.Coded.{coded_list, coded×}
use Rattle.seg_tokens.specs.TokenCodes.{key_code}
use Rattle.seg_values.specs.ValueCodes.{tree_code}
use Rattle.seg_tokens.specs.CodeEquality.{same_by-is}
use Rattle.seg_values.proofs.equality.MembersPartialEq.eq.Goals as goal

pub returns-clause-value : goal.returns-clause-value
returns-clause-value c = same_by-is (coded_list (coded× key_code tree_code)) c.are_same_members.result c.args.self.now c.args.other.now c.are_same_members.ensures
