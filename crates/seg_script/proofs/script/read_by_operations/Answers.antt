use Rattle.std.proofs.Common.{◌≡◌, [], Some, subst, rules}
use Rattle.std.proofs.lemmas.Result.{IfOk-weaker}
use Rattle.std.specs.Str.{IsUtf8}
use Rattle.json.specs.Json.{value}
use Rattle.json.specs.Lex.{tokens}
use Rattle.serde_json.specs.Data.{Data}
use Rattle.serde_json.specs.Read.{of_json, converted}
use Rattle.seg_script.specs.Script.{script, script_from}
use Rattle.seg_script.proofs.OperationSequences.{script_of_text}
use Rattle.seg_script.proofs.script.read_by_operations.Goals as goal

pub returns : goal.returns
returns c =
    let same : c.in-Ok.text.now ≡ c.args.bytes.now = search rules in
    let utf8 : IsUtf8 c.in-Ok.text.now = search rules in
    let read : c.in_ok-reader.reader ≡ tokens c.in-Ok.text.now = c.in_ok-reader.ensures.ok in
    IfOk-weaker c.script_read.result
    (λ s. (d : Data) × (converted of_json (value 127 c.in_ok-reader.reader) ≡ Some (d, [])) × (script_from d ≡ Some s))
    (λ s. script c.args.bytes.now ≡ Some s)
    (λ s h. script_of_text c.args.bytes.now c.in-Ok.text.now s same utf8 (h.0, subst (λ ts. converted of_json (value 127 ts) ≡ Some (h.0, [])) read h.1, h.2)) c.script_read.ensures
