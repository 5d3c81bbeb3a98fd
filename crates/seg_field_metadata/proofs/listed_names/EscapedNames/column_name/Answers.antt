use Rattle.std.proofs.Common.{◌++◌, ℕ, List, ap, sym, ◌∙◌}
use Rattle.std.proofs.lemmas.Result.{IfOk-weaker}
use Rattle.seg_field_metadata.specs.ListedNames.{dotted_path}
use Rattle.seg_field_metadata.proofs.KeptNames.{name_absent, name_there}
use Rattle.seg_field_metadata.proofs.listed_names.EscapedNames.column_name.Goals as goal

pub returns-in-Some : goal.returns-in-Some
returns-in-Some c =
    let path = c.args.path.now in
    let dotted = c.as_str.ensures.value ∙ c.in_ok-push_replaced.ensures.ok ∙ ap (λ (l : List ℕ). l ++ dotted_path path) c.new-dotted.ensures.bytes in
    IfOk-weaker c.from_str.result _ _
    (λ name told names had.
    told ∙ c.as_str-in-Some.ensures.value
    ∙ name_there c.args.self.now.by_dotted names path c.as_str.result.now had dotted c.in-Some.escaped.now c.in-Some.ensures.value)
    c.from_str.ensures.ok

pub returns-in-None : goal.returns-in-None
returns-in-None c =
    let path = c.args.path.now in
    let dotted = c.as_str.ensures.value ∙ c.in_ok-push_replaced.ensures.ok ∙ ap (λ (l : List ℕ). l ++ dotted_path path) c.new-dotted.ensures.bytes in
    λ names had.
    sym c.as_str.ensures.value
    ∙ name_absent c.args.self.now.by_dotted names path c.as_str.result.now had dotted c.in-None.ensures.value
