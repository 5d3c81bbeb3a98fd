use Rattle.std.proofs.Common.{◌≡◌, ◌+◌, ◌*◌, ◌++◌, map}
use Rattle.std.specs.List.{range_with_len}
use Rattle.seg_model.specs.Operations.{add}
use Rattle.seg_check.specs.UserOperations.{operation_of}
use Rattle.seg_generate.specs.Documents.{document}
use Rattle.seg_generate.proofs.operations.push_additions.Given as goal

abbrev pub invariant-loop-place : goal.invariant-loop-place
invariant-loop-place l =
    map operation_of l.operations.items
    ≡ map operation_of l.initial.operations.items ++ map (λ place. add (document (8 * l.group + place))) (range_with_len 0 l.place)
