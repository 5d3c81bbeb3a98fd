use Rattle.std.proofs.Common.{◌≡◌, ◌++◌}
use Rattle.std.specs.Prelude.{Vec}
use Rattle.std.specs.List.{flat_map}
use Rattle.std.specs.declared.alloc.Global.{Global}
use Rattle.seg_field_metadata.specs.declared.field_metadata.FieldMetadata.{FieldMetadata}
use Rattle.seg_field_metadata.proofs.merged_metadata.join.Given as goal

abbrev pub invariant-loop-list : goal.invariant-loop-list
invariant-loop-list l =
    l.all.items ++ flat_map (λ (list : Vec FieldMetadata Global). list.items) l.list-iterator.rest.items
    ≡ flat_map (λ (list : Vec FieldMetadata Global). list.items) l.fn.lists.items
