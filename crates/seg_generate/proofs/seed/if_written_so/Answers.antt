use Rattle.std.proofs.Common.{◌∙◌, ℕ, List, Some, None, ap}
use Rattle.std.specs.Prelude.{if◌then◌else◌}
use Rattle.std.specs.Str.{bytes_eq}
use Rattle.seg_generate.proofs.seed.if_written_so.Goals as goal

pub returns : goal.returns
returns c =
    c.if_same.ensures
    ∙ ap (λ (text : List ℕ). if bytes_eq c.args.word.now text then Some c.args.seed else None) c.format.ensures.text
