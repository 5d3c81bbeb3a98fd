use Rattle.std.proofs.Common.{◌≡◌, [], ◌∷◌, map, Some, refl, sym, ap, ◌∙◌, subst, rules}
use Rattle.std.specs.Prelude.{codes}
use Rattle.std.proofs.lemmas.Result.{IfOk-weaker}
use Rattle.json.specs.Token.{Token}
use Rattle.json.specs.Json.{value}
use Rattle.serde_json.specs.Data.{Data, object, put}
use Rattle.serde_json.specs.Read.{of_json, converted}
use Rattle.serde_json.specs.View.{view, members_view}
use Rattle.serde_json.specs.declared.value.Value.{Object}
use Rattle.serde_json.proofs.Views.{view-Object}
use Rattle.seg_meta.specs.JsonReaders.{required}
use Rattle.seg_check.specs.UserOperations.{operation_of}
use Rattle.seg_script.specs.Fields.{schema_from}
use Rattle.seg_script.specs.Script.{input_with, script_from}
use Rattle.seg_script.proofs.OperationSequences.{script_of}
use Rattle.seg_script.proofs.Grammar.{object_read}
use Rattle.seg_script.proofs.script.script_read.Goals as goal

pub returns : goal.returns
returns c =
    let before = c.in_ok-members_before.field-0 in
    let ms = members_view before.entries in
    let read = c.in_ok-operations.ensures in
    let over : c.end_object.new.reader ≡ [] = search rules in
    let ended = read.1 ∙ ap (λ ts. Some (read.0, ts)) (c.in_ok-end_object.ensures ∙ ap (λ ts. Token.end_object ∷ ts) over) in
    let known : required schema_from (codes "schema") (object ms) ≡ Some c.in_ok-schema.schema = subst (λ d. required schema_from (codes "schema") d ≡ Some c.in_ok-schema.schema) (view-Object before) (search rules) in
    let given = input_with c.in_ok-schema.schema (map operation_of c.in_ok-operations.operations.items) in
    IfOk-weaker c.input_with.result
    (λ s. given (view (Object before)) ≡ Some s)
    (λ s. (d : Data) × (converted of_json (value 127 c.args.reader.now) ≡ Some (d, [])) × (script_from d ≡ Some s))
    (λ s h. (
      object (put (codes "operations") read.0 ms),
      ap (λ ts. converted of_json (value 127 ts)) c.in_ok-begin_object.ensures ∙ object_read 127 126 c.begin_object.new.reader [] _ refl (c.in_ok-members_before.ensures read.0 [] ended),
      script_of c.in_ok-schema.schema (map operation_of c.in_ok-operations.operations.items) read.0 ms s known read.2
          (ap given (sym (view-Object before)) ∙ h),
    )) c.input_with.ensures
