use Rattle.seg_common.proofs.FirstDateDigit.{read_texts_begin_with_a_digit}
use Rattle.seg_common.proofs.date_laws.read_texts_begin_with_a_digit.Goals as goal

pub returns : goal.returns
returns c = read_texts_begin_with_a_digit
