use Rattle.std.proofs.Common.{◌++◌, [], ◌∷◌, ap, ◌∙◌}
use Rattle.seg_values.proofs.json_path.path_bytes.Goals as goal

pub returns : goal.returns
returns c =
    c.in_ok-push.ensures.items
    ∙ ap (λ l. l ++ 0 ∷ []) (c.in_ok-bytes.ensures.items ∙ (c.as_bytes.ensures.value ∙ (c.as_str.ensures.value ∙ c.in_ok-path.ensures)))
