use Rattle.std.proofs.Common.{◌∙◌, rules, tests}
use Rattle.std.proofs.lemmas.Iterator.{YieldsList-from_slice}
use Rattle.std.proofs.lemmas.Iterator.Consumers.{YieldsList-from_filter, count_from_yields_List}
use Rattle.seg_check.specs.UserOperations.{operation_of}
use Rattle.seg_batches.specs.IndexedBatches.{is_addition}
use Rattle.seg_batches.proofs.AdditionCounts.{counted}
use Rattle.seg_batches.proofs.indexed_batch.count_additions.Goals as goal

pub returns : goal.returns
returns c =
    count_from_yields_List c.filter.result c.count.result c.count.ensures.ran
    (YieldsList-from_filter _ (λ o. is_addition (operation_of o)) (YieldsList-from_slice c.args.operations.now cc) c.filter.ensures.closure (λ x b q k. search (rules, tests)))
    ∙ counted c.args.operations.now
