use Rattle.std.proofs.Common.{◌≡◌, ℕ, Bool, take, drop, sym, subst, ap, arith, rules}
use Rattle.std.specs.Prelude.{OnOk}
use Rattle.seg_common.proofs.Lists.{drop-slice_get_none}
use Rattle.seg_open.specs.OpenSegment.{contents_of}
use Rattle.seg_batches.specs.AppliedDeletes.{is_left_by, staying}
use Rattle.seg_batches.proofs.DeleteSequences.{first_left, left_by_none}
use Rattle.seg_batches.proofs.applied_deletes.apply_current.Goals as goal

pub returns-in-Some-clause-applies : goal.returns-in-Some-clause-applies
returns-in-Some-clause-applies g c =
    let names : g.row.T.Denot → ℕ → Bool = λ target. g.T.DeleteTarget.names target c.args.reader.now.schema (contents_of c.args.reader.now) in
    record {
      alive =
          subst (λ operations. OnOk c.apply_delete.result (c.apply_delete.new.alive ≡ staying (is_left_by names c.args.mapping.now operations) c.args.alive.now))
          (first_left c.args.queue.now.operations c.args.cursor.now c.in-Some.operation.now (sym c.in-Some.ensures.operation)) c.apply_delete.ensures.left;
      within = search (rules, arith);
      keeps = search (rules, arith);
    }

pub returns-in-None-clause-applies : goal.returns-in-None-clause-applies
returns-in-None-clause-applies g c =
    let names : g.row.T.Denot → ℕ → Bool = λ target. g.T.DeleteTarget.names target c.args.reader.now.schema (contents_of c.args.reader.now) in
    let operations = c.args.queue.now.operations in
    record {
      alive =
          sym (left_by_none names c.args.mapping.now (take 1 (drop c.args.cursor.now operations)) c.args.alive.now (ap (take 1) (drop-slice_get_none operations c.args.cursor.now (sym c.in-None.ensures.operation))));
      within = search (rules, arith);
      keeps = search (rules, arith);
    }
