use Rattle.seg_column_merge_parts.proofs.ImageLaws.{lowered_value, raised_value}
use Rattle.seg_column_merge_parts.proofs.laws.written_numbers_keep_values.Goals as goal

pub returns-clause-raised : goal.returns-clause-raised
returns-clause-raised c = λ n can. raised_value n can

pub returns-clause-lowered : goal.returns-clause-lowered
returns-clause-lowered c = λ n can. lowered_value n can
