use Rattle.std.proofs.Common.{List, ℕ, sym, ap, ◌∙◌}
use Rattle.std.specs.List.{list_any}
use Rattle.seg_column_format.specs.PathStarts.{begins}
use Rattle.seg_column_format.proofs.FieldStarts.{named_path, unnamed_path}
use Rattle.seg_column_format.proofs.json_paths.is_json_path.Goals as goal

pub returns-then-is_named : goal.returns-then-is_named
returns-then-is_named c = sym (named_path c.args.schema.now c.args.path.now (sym c.if-is_named.ensures))

pub returns : goal.returns
returns c =
    c.is_below_some.ensures
    ∙ (ap (λ (bytes : List ℕ). list_any (begins bytes) c.args.starts.now) c.as_bytes.ensures.value
    ∙ (c.requires.tell c.args.path.now
    ∙ unnamed_path c.args.schema.now c.args.path.now (sym c.if-is_named.ensures)))
