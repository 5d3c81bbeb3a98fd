use Rattle.seg_model.proofs.Answers.{columns_answer, no_other_columns, mixed_numbers_have_no_columns}
use Rattle.seg_model.proofs.laws.columns_are_known_by_their_answers.Goals as goal

pub returns : goal.returns
returns c = record { answers = columns_answer; only = no_other_columns; mixed = mixed_numbers_have_no_columns }
