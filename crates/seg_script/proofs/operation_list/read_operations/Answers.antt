use Rattle.std.proofs.Common.{◌≡◌, length, map, Some, refl, ap, ◌∙◌}
use Rattle.std.proofs.lemmas.Result.{IfOk-weaker}
use Rattle.json.specs.Json.{items, value}
use Rattle.serde_json.specs.Data.{Data, Items, array}
use Rattle.serde_json.specs.Read.{of_items, of_json, converted}
use Rattle.seg_meta.specs.JsonReaders.{each, list_of}
use Rattle.seg_check.specs.UserOperations.{operation_of}
use Rattle.seg_script.specs.Operations.{operation_from}
use Rattle.seg_script.proofs.Grammar.{array_read}
use Rattle.seg_script.proofs.operation_list.read_operations.Goals as goal

pub returns : goal.returns
returns c =
    let step = operation_from c.args.schema.now in
    let left = c.begin_array.new.reader in
    let over = c.operations_left.new.reader in
    IfOk-weaker c.operations_left.result
    (λ os. (ds : Items) × (converted of_items (items (value 125) (length left) left) ≡ Some (ds, over)) × (each step ds ≡ Some (map operation_of os.items)))
    (λ os. (d : Data) × (converted of_json (value 126 c.args.reader.now) ≡ Some (d, over)) × (list_of step d ≡ Some (map operation_of os.items)))
    (λ os h. (
      array h.0,
      ap (λ ts. converted of_json (value 126 ts)) c.in_ok-begin_array.ensures ∙ array_read 126 125 left over h.0 refl h.1,
      h.2,
    )) c.operations_left.ensures
