use Rattle.std.proofs.Common.{sym}
use Rattle.seg_script_values.proofs.TwoMembers.{not_two}
use Rattle.seg_script_values.proofs.tokenized_texts.text_and_tokens.Goals as goal

pub returns-in_err-first : goal.returns-in_err-first
returns-in_err-first c = rw c.from_residual.ensures (sym (not_two c.args.members.entries c.in_err-first.ensures))
