-- The law of deletes that are applied.
use Rattle.std.specs.Prelude.{◌≡◌, ℕ, List, ◌++◌, map, length}
use Rattle.std.specs.Borrow.{Bor}
use Rattle.seg_model.specs.Fields.{Schema, Analyzer}
use Rattle.seg_model.specs.DocumentTerms.{all_terms}
use Rattle.seg_model.specs.Operations.{Operation, delete, additions, alive_after}
use Rattle.seg_model.specs.Stamps.{stamped_deletes, addition_stamps}
use Rattle.seg_model.specs.RemovalLaws.{ArePassed}
use Rattle.seg_batches.specs.declared.doc_opstamp_mapping.DocToOpstampMapping.TheVariants.{WithMap}
use Rattle.seg_batches.specs.declared.operation.DeleteOperation.{DeleteOperation}
use Rattle.seg_batches.specs.AppliedDeletes.{left_by, term_names}
use Rattle.seg_batches.specs.declared.term_target.TermTarget.{TermTarget}

-- deletes that wait, as operations with their stamps
abbrev pub as_operations : List (DeleteOperation TermTarget) → List (ℕ × Operation)
as_operations waiting = map (λ o. (o.opstamp, delete o.target.0)) waiting

-- where the deletes of all operations are some that were passed, none with a greater stamp than a document of the
-- batch, and those that wait, these leave of the batch's documents what no later operation removes
abbrev pub AppliedDeletesLeaveTheAlive : Type 0
AppliedDeletesLeaveTheAlive = (schema : Schema) (analyzer : Analyzer) (before batch after : List Operation)
    (stamps : Bor (List ℕ)) (passed waiting : List (DeleteOperation TermTarget))
    → stamps.now ≡ addition_stamps (length before) batch
    → as_operations (passed ++ waiting) ≡ stamped_deletes 0 (before ++ batch ++ after)
    → ArePassed stamps.now (as_operations passed)
    → left_by (term_names (all_terms schema analyzer (additions batch))) (WithMap stamps)
    (length (additions batch)) waiting
    ≡ alive_after schema analyzer batch after
