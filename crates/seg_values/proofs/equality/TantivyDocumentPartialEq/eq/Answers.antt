use Rattle.std.specs.Coded.{coded_list, coded×, coded_ℕ}
use Rattle.seg_values.specs.ValueCodes.{tree_code}
use Rattle.seg_tokens.specs.CodeEquality.{same_by-is}
use Rattle.seg_values.proofs.equality.TantivyDocumentPartialEq.eq.Goals as goal

pub returns-clause-value : goal.returns-clause-value
returns-clause-value c = same_by-is (coded_list (coded× coded_ℕ tree_code)) c.are_same_pairs.result c.args.self.now c.args.other.now c.are_same_pairs.ensures
