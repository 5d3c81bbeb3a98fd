use Rattle.std.proofs.Common.{◌≡◌, ◌≤◌, ◌-◌, length, drop}
use Rattle.seg_open.specs.OpenSegment.{contents_of}
use Rattle.seg_batches.specs.AppliedDeletes.{is_left_by, staying}
use Rattle.seg_batches.proofs.applied_deletes.apply_rest.Given as goal

abbrev pub invariant-loop : goal.invariant-loop
invariant-loop g l = record {
  reader : l.reader ≡ l.initial.reader;
  operations : l.queue.operations ≡ l.initial.queue.operations;
  within : l.cursor ≤ l.queue.flushed;
  rises : l.initial.queue.flushed ≤ l.queue.flushed;
  size : length l.alive ≡ length l.initial.alive;
  alive : staying (is_left_by (λ target. g.T.DeleteTarget.names target l.initial.reader.schema (contents_of l.initial.reader)) l.mapping (drop l.cursor l.initial.queue.operations)) l.alive ≡ staying (is_left_by (λ target. g.T.DeleteTarget.names target l.initial.reader.schema (contents_of l.initial.reader)) l.mapping (drop l.initial.cursor l.initial.queue.operations)) l.initial.alive;
}

abbrev pub decreases-loop : goal.decreases-loop
decreases-loop g l = length l.initial.queue.operations - l.cursor
