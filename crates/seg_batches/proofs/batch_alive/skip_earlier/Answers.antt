use Rattle.std.proofs.Common.{ap, sym, ◌∙◌, arith, rules}
use Rattle.seg_batches.proofs.LeftBatches.{at_end}
use Rattle.seg_batches.proofs.PassedDeletes.{skipped_are_passed}
use Rattle.seg_batches.proofs.batch_alive.skip_earlier.Goals as goal

pub returns : goal.returns
returns c = record {
  end = λ none. at_end c.get.result c.skip_to.new.queue.operations c.args.queue.now.operations c.skip_to.new.self (ap (λ q. q.operations) c.skip_to.ensures.queue) c.get.ensures.operation (sym c.is_some.ensures ∙ none);
  earlier = record {
    operations = search (rules, arith);
    within = search (rules, arith);
    passed =
        skipped_are_passed c.args.first c.args.queue.now.operations c.args.cursor.now c.skip_to.new.self c.skip_to.ensures.position c.requires.passed;
  };
}
