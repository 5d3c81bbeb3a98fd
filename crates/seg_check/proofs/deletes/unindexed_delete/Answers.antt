use Rattle.std.proofs.Common.{rules, tests, ◌∙◌}
use Rattle.std.proofs.lemmas.Iterator.{YieldsList-from_slice}
use Rattle.std.proofs.lemmas.Iterator.Search.{position_from_yields_List}
use Rattle.seg_model.specs.ValidInputs.{is_unindexed_delete}
use Rattle.seg_check.specs.UserOperations.{operation_of}
use Rattle.seg_check.proofs.RefusalPlaces.{position_seen}
use Rattle.seg_check.proofs.deletes.unindexed_delete.Goals as goal

pub returns : goal.returns
returns c =
    position_from_yields_List (λ o. is_unindexed_delete c.args.schema.now (operation_of o)) _ _ c.position.result c.position.ensures.ran (YieldsList-from_slice c.args.operations.now c.iter.ensures.rest) (λ x b q k. search (rules, tests))
    ∙ position_seen (is_unindexed_delete c.args.schema.now) operation_of c.args.operations.now
