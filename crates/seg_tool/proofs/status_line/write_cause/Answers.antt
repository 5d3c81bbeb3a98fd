use Rattle.std.proofs.Common.{◌≡◌, ◌++◌, ◌∙◌, ap, sym}
use Rattle.std.specs.Prelude.{option_to_list}
use Rattle.seg_common.proofs.KnownBytes.{part_of_front}
use Rattle.seg_common.proofs.Results.{at_error}
use Rattle.seg_tool.specs.Statuses.{cause_words, numbers_text, cause_text}
use Rattle.seg_tool.proofs.CauseText.{cause_text-parts}
use Rattle.seg_tool.proofs.Parts.{second_of_three, last_of_three}
use Rattle.seg_tool.proofs.status_line.write_cause.Goals as goal

pub returns-in_err-write_whole-clause-err : goal.returns-in_err-write_whole-clause-err
returns-in_err-write_whole-clause-err g c =
    let name = c.as_bytes.result.now in
    let words = cause_words c.args.error.now in
    let named : name ≡ words.name = c.as_bytes.ensures.value ∙ c.name_of.ensures in
    let whole : cause_text words ≡ name ++ numbers_text words.numbers = ap (λ xs. xs ++ numbers_text words.numbers) (sym named) in
    rw whole
    (at_error c.from_residual.result
    (part_of_front (g.F.Sink.written c.args.faults.now) (g.F.Sink.written c.write_whole.new.sink) name (numbers_text words.numbers) c.in_err-write_whole.ensures.err))

pub returns-in_err-write_number-clause-err : goal.returns-in_err-write_number-clause-err
returns-in_err-write_number-clause-err g c =
    let name = c.as_bytes.result.now in
    let words = cause_words c.args.error.now in
    let first = c.numbers_of-first.result.0 in
    let second = c.numbers_of-first.result.1 in
    let named : name ≡ words.name = c.as_bytes.ensures.value ∙ c.name_of.ensures in
    let parts : cause_text words ≡ (name ++ numbers_text (option_to_list first)) ++ numbers_text (option_to_list second) = cause_text-parts words name first second named c.numbers_of-first.ensures in
    rw parts
    (at_error c.from_residual-in_err-write_number.result
    (second_of_three (g.F.Sink.written c.args.faults.now) (g.F.Sink.written c.write_whole.new.sink) (g.F.Sink.written c.write_number.new.faults) name (numbers_text (option_to_list first)) (numbers_text (option_to_list second))
    c.in_ok-write_whole.ensures.ok c.in_err-write_number.ensures.err))

pub returns-clause-err : goal.returns-clause-err
returns-clause-err g c =
    let name = c.as_bytes.result.now in
    let words = cause_words c.args.error.now in
    let first = c.numbers_of-first.result.0 in
    let second = c.numbers_of-first.result.1 in
    let named : name ≡ words.name = c.as_bytes.ensures.value ∙ c.name_of.ensures in
    let parts : cause_text words ≡ (name ++ numbers_text (option_to_list first)) ++ numbers_text (option_to_list second) = cause_text-parts words name first second named c.numbers_of-first.ensures in
    rw parts
    (last_of_three c.write_number-2.result (g.F.Sink.written c.args.faults.now) (g.F.Sink.written c.write_whole.new.sink) (g.F.Sink.written c.write_number.new.faults) (g.F.Sink.written c.write_number-2.new.faults) name (numbers_text (option_to_list first)) (numbers_text (option_to_list second))
    c.in_ok-write_whole.ensures.ok c.in_ok-write_number.ensures.ok c.write_number-2.ensures.err)
