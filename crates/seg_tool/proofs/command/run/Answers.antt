use Rattle.seg_tool.proofs.Commands.{promised, run_words}
use Rattle.seg_tool.proofs.command.run.Goals as goal

pub returns-clause-words : goal.returns-clause-words
returns-clause-words g c = run_words c.execute-status.ensures c.files_hold_one_contents.ensures c.valid_inputs_are_not_refused.ensures c.generated_inputs_are_valid.ensures

pub returns-clause-caused : goal.returns-clause-caused
returns-clause-caused g c =
    (promised c.execute-status.ensures c.files_hold_one_contents.ensures c.valid_inputs_are_not_refused.ensures c.generated_inputs_are_valid.ensures).at.caused

pub returns-clause-ends : goal.returns-clause-ends
returns-clause-ends g c =
    (promised c.execute-status.ensures c.files_hold_one_contents.ensures c.valid_inputs_are_not_refused.ensures c.generated_inputs_are_valid.ensures).at.ends

pub returns-clause-does : goal.returns-clause-does
returns-clause-does g c =
    (promised c.execute-status.ensures c.files_hold_one_contents.ensures c.valid_inputs_are_not_refused.ensures c.generated_inputs_are_valid.ensures).at.does

pub returns-clause-has : goal.returns-clause-has
returns-clause-has g c =
    (promised c.execute-status.ensures c.files_hold_one_contents.ensures c.valid_inputs_are_not_refused.ensures c.generated_inputs_are_valid.ensures).has

pub returns-clause-done : goal.returns-clause-done
returns-clause-done g c =
    (promised c.execute-status.ensures c.files_hold_one_contents.ensures c.valid_inputs_are_not_refused.ensures c.generated_inputs_are_valid.ensures).done

pub returns-clause-untouched : goal.returns-clause-untouched
returns-clause-untouched g c =
    (promised c.execute-status.ensures c.files_hold_one_contents.ensures c.valid_inputs_are_not_refused.ensures c.generated_inputs_are_valid.ensures).untouched

pub returns-clause-stream : goal.returns-clause-stream
returns-clause-stream g c =
    (promised c.execute-status.ensures c.files_hold_one_contents.ensures c.valid_inputs_are_not_refused.ensures c.generated_inputs_are_valid.ensures).stream

pub returns-clause-any_moment : goal.returns-clause-any_moment
returns-clause-any_moment g c =
    (promised c.execute-status.ensures c.files_hold_one_contents.ensures c.valid_inputs_are_not_refused.ensures c.generated_inputs_are_valid.ensures).at.leaves

pub returns-clause-work_disk : goal.returns-clause-work_disk
returns-clause-work_disk g c =
    (promised c.execute-status.ensures c.files_hold_one_contents.ensures c.valid_inputs_are_not_refused.ensures c.generated_inputs_are_valid.ensures).at.keeps

pub returns-clause-end : goal.returns-clause-end
returns-clause-end g c =
    (promised c.execute-status.ensures c.files_hold_one_contents.ensures c.valid_inputs_are_not_refused.ensures c.generated_inputs_are_valid.ensures).takings.end

pub returns-clause-taken : goal.returns-clause-taken
returns-clause-taken g c =
    (promised c.execute-status.ensures c.files_hold_one_contents.ensures c.valid_inputs_are_not_refused.ensures c.generated_inputs_are_valid.ensures).takings.taken

pub returns-clause-turns : goal.returns-clause-turns
returns-clause-turns g c =
    (promised c.execute-status.ensures c.files_hold_one_contents.ensures c.valid_inputs_are_not_refused.ensures c.generated_inputs_are_valid.ensures).takings.turns

pub returns-clause-unread : goal.returns-clause-unread
returns-clause-unread g c =
    (promised c.execute-status.ensures c.files_hold_one_contents.ensures c.valid_inputs_are_not_refused.ensures c.generated_inputs_are_valid.ensures).takings.unread

pub returns-clause-complete : goal.returns-clause-complete
returns-clause-complete g c =
    (promised c.execute-status.ensures c.files_hold_one_contents.ensures c.valid_inputs_are_not_refused.ensures c.generated_inputs_are_valid.ensures).complete

pub returns-clause-counts : goal.returns-clause-counts
returns-clause-counts g c =
    let p = promised c.execute-status.ensures c.files_hold_one_contents.ensures c.valid_inputs_are_not_refused.ensures c.generated_inputs_are_valid.ensures in
    (p.takings.later, p.sink_later, c.report_unless_done.ensures.count)
