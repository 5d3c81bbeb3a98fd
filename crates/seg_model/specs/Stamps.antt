-- Operations by their stamps, and the documents that deletes with greater stamps leave.
use Rattle.std.specs.Prelude.{ℕ, List, map, filter, Bool, true, false, not, ◌&&◌, nat_lt}
use Rattle.std.specs.List.{list_any, enumerate_from, zip}
use Rattle.seg_values.specs.Tree.{Document}
use Rattle.seg_model.specs.Fields.{Schema, Analyzer}
use Rattle.seg_model.specs.Operations.{Operation, add, delete, delete_all, deletes}

-- whether an operation deletes
abbrev pub is_delete : Operation → Bool
is_delete (add document) = false
is_delete (delete term) = true
is_delete (delete_all terms) = true

-- the deletes among operations, each with its stamp; the first operation has the stamp `from`
abbrev pub stamped_deletes : ℕ → List Operation → List (ℕ × Operation)
stamped_deletes from operations = filter (λ o. is_delete o.1) (enumerate_from from operations)

-- the stamps of the additions among operations; the first operation has the stamp `from`
abbrev pub addition_stamps : ℕ → List Operation → List ℕ
addition_stamps from operations = map (λ o. o.0) (filter (λ o. not (is_delete o.1)) (enumerate_from from operations))

-- whether a delete with a greater stamp than the document's deletes it
abbrev pub is_deleted_by : Schema → Analyzer → Document → ℕ → List (ℕ × Operation) → Bool
is_deleted_by schema analyzer document stamp stamped =
    list_any (λ d. nat_lt stamp d.0 && deletes schema analyzer document d.1) stamped

-- for each document, beside its stamp, whether no delete with a greater stamp deletes it
abbrev pub undeleted_by : Schema → Analyzer → List ℕ → List Document → List (ℕ × Operation) → List Bool
undeleted_by schema analyzer stamps documents stamped =
    map (λ d. not (is_deleted_by schema analyzer d.1 d.0 stamped)) (zip stamps documents)
