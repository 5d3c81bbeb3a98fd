use Rattle.std.proofs.Common.{ℕ, ◌+◌, Bool, length, take, drop, min, sym, ap, ◌∙◌, arith}
use Rattle.std.proofs.lemmas.Bool.{false≢true}
use Rattle.seg_open.specs.OpenSegment.{contents_of}
use Rattle.seg_batches.specs.AppliedDeletes.{is_left_by, staying}
use Rattle.seg_batches.proofs.StayingMembers.{length-staying}
use Rattle.seg_batches.proofs.DeleteSequences.{left_by_next, left_by_last}
use Rattle.seg_batches.proofs.applied_deletes.apply_rest.Goals as goal

pub loop-preserved : goal.loop-preserved
loop-preserved g c =
    let names : g.row.T.Denot → ℕ → Bool = λ target. g.T.DeleteTarget.names target c.args.reader.now.schema (contents_of c.args.reader.now) in
    let mapping = c.args.mapping.now in
    let operations = c.args.queue.now.operations in
    let at = c.loop.cursor in
    let same = c.loop.invariant.operations in
    let here = c.in_ok-apply_next.ensures.applies in
    let moved = c.in_ok-apply_next.ensures.advances.position in
    let left = here.alive ∙ ap (λ r. staying (is_left_by {T = g.row.T.Denot} (λ target. g.T.DeleteTarget.names target r.schema (contents_of r)) mapping (take 1 (drop at c.loop.queue.operations))) c.loop.alive) c.loop.invariant.reader in
    record {
      reader = c.in_ok-apply_next.ensures.same ∙ c.loop.invariant.reader;
      operations = here.keeps.operations ∙ same;
      within = here.within;
      rises = omega (arith, c.loop.invariant.rises, here.keeps.rises);
      size =
          ap length left ∙ length-staying (is_left_by names mapping (take 1 (drop at c.loop.queue.operations))) c.loop.alive ∙ c.loop.invariant.size;
      alive =
          ap (staying (is_left_by names mapping (drop c.apply_next.new.cursor operations))) (left ∙ ap (λ os. staying (is_left_by names mapping (take 1 (drop at os))) c.loop.alive) same)
          ∙ left_by_next names mapping operations at c.apply_next.new.cursor c.loop.alive (moved ∙ ap (λ os. min (at + 1) (length os)) same)
          ∙ c.loop.invariant.alive;
    }

pub returns-clause-applies : goal.returns-clause-applies
returns-clause-applies g c =
    let names : g.row.T.Denot → ℕ → Bool = λ target. g.T.DeleteTarget.names target c.args.reader.now.schema (contents_of c.args.reader.now) in
    let mapping = c.args.mapping.now in
    let at = c.loop.cursor in
    let same = c.loop.invariant.operations in
    let here = c.in_ok-apply_next.ensures.applies in
    let passes = c.in_ok-apply_next.ensures.advances.passes in
    record {
      alive =
          here.alive
          ∙ ap (λ r. staying (is_left_by {T = g.row.T.Denot} (λ target. g.T.DeleteTarget.names target r.schema (contents_of r)) mapping (take 1 (drop at c.loop.queue.operations))) c.loop.alive) c.loop.invariant.reader
          ∙ left_by_last names mapping c.loop.queue.operations at c.loop.alive (λ lt. false≢true (sym c.if-branch.false ∙ passes.1 lt))
          ∙ ap (λ os. staying (is_left_by names mapping (drop at os)) c.loop.alive) same
          ∙ c.loop.invariant.alive;
      within = here.within;
      keeps =
          record { operations = here.keeps.operations ∙ same; rises = omega (arith, c.loop.invariant.rises, here.keeps.rises) };
    }
