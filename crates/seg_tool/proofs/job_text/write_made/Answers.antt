use Rattle.std.proofs.Common.{ℕ, List, Vec, Global, ap, refl, subst}
use Rattle.seg_open.specs.Answers.{seen_as}
use Rattle.seg_tool.specs.Runs.{WritesText, made_none, made_text, sink_state}
use Rattle.seg_tool.proofs.job_text.write_made.Goals as goal

pub returns-in-Ok : goal.returns-in-Ok
returns-in-Ok g c =
    made_text c.in-Ok.text.items (ap (seen_as {T = Vec ℕ Global} {U = List ℕ} (λ t. t.items)) c.in-Ok.is)
    (subst (λ (text : List ℕ). WritesText text c.write_text.result (sink_state (g.K.Sink.written c.args.sink.now) (g.K.Sink.faults c.args.sink.now)) (sink_state (g.K.Sink.written c.write_text.new.sink) (g.K.Sink.faults c.write_text.new.sink)))
    c.deref.ensures.value c.write_text.ensures)

pub returns-in-Err : goal.returns-in-Err
returns-in-Err g c =
    made_none c.in-Err.e (ap (seen_as {T = Vec ℕ Global} {U = List ℕ} (λ t. t.items)) c.in-Err.is) c.status_of.ensures refl refl
