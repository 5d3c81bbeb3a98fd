use Rattle.std.proofs.Common.{◌≡◌, ◌++◌, map}
use Rattle.seg_column_file.specs.declared.row_addr.RowAddr.{RowAddr}
use Rattle.seg_merger.specs.DocIdMapping.{places_in}
use Rattle.seg_merger.proofs.doc_id_mapping.push_places.Given as goal

-- the places so far, with those of what is left, are all
abbrev pub invariant-loop-row_id : goal.invariant-loop-row_id
invariant-loop-row_id l =
    l.addresses.items ++ map (λ id. record { segment_ord = l.segment_ord; row_id = id }) l.row_id-iterator
    ≡ l.fn.addresses.items ++ places_in l.segment_ord l.reader.alive
