use Rattle.std.proofs.Common.{Err, ℕ, List, ap, refl, subst}
use Rattle.seg_tool.specs.Runs.{WritesText, has_text, is_read, no_text, not_read, sink_state, starved, too_long}
use Rattle.seg_tool.proofs.command.build_job.run_build.Goals as goal

pub returns-in-Err-Fault : goal.returns-in-Err-Fault
returns-in-Err-Fault g c =
    let read = c.in-Err-Fault.ensures in
    not_read refl (read.fault (ap Err c.in-Err-Fault.field-0-is)) (record { taken = read.taken; turns = read.turns; later = read.later }) refl refl refl

pub returns-in-Err-TooLong : goal.returns-in-Err-TooLong
returns-in-Err-TooLong g c =
    let read = c.in-Err-TooLong.ensures in
    too_long refl (read.too_long (ap Err c.in-Err-TooLong.field-0-is)) (record { taken = read.taken; turns = read.turns; later = read.later }) refl refl refl

pub returns-in-Err-OutOfMemory : goal.returns-in-Err-OutOfMemory
returns-in-Err-OutOfMemory g c =
    let read = c.in-Err-OutOfMemory.ensures in
    starved refl (record { taken = read.taken; turns = read.turns; later = read.later }) refl refl refl

pub returns-in-Ok-build : goal.returns-in-Ok-build
returns-in-Ok-build g c =
    let read = c.in-Ok.ensures in
    is_read c.in-Ok.bytes.items
    (record { takes = record { taken = read.taken; turns = read.turns; later = read.later }; all = read.ok.0; short = read.ok.1; end = read.end })
    (has_text c.in-Ok-build.text.items c.in-Ok-build.ensures
    (subst (λ (text : List ℕ). WritesText text c.write_text.result (sink_state (g.K.Sink.written c.args.sink.now) (g.K.Sink.faults c.args.sink.now)) (sink_state (g.K.Sink.written c.write_text.new.sink) (g.K.Sink.faults c.write_text.new.sink)))
    c.deref.ensures.value c.write_text.ensures))

pub returns-in-Err : goal.returns-in-Err
returns-in-Err g c =
    let read = c.in-Ok.ensures in
    is_read c.in-Ok.bytes.items
    (record { takes = record { taken = read.taken; turns = read.turns; later = read.later }; all = read.ok.0; short = read.ok.1; end = read.end })
    (no_text c.in-Err.ensures refl refl)
