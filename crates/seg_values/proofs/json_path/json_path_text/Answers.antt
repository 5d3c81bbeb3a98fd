use Rattle.std.proofs.Common.{ap, ◌∙◌}
use Rattle.std.specs.List.{join_with_byte}
use Rattle.seg_values.specs.JsonPathTexts.{path_keys}
use Rattle.seg_values.proofs.JsonPathTexts.{join-written}
use Rattle.seg_values.proofs.json_path.json_path_text.Goals as goal

pub returns : goal.returns
returns c =
    c.in_ok-copy.ensures.ok
    ∙ (c.as_str.ensures ∙ (ap (join_with_byte 1) c.in_ok-path.ensures ∙ join-written c.args.expand_dots (path_keys c.args.text.now)))
