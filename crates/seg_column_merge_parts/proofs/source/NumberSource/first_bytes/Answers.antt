use Rattle.std.proofs.Common.{take, sym, ap, ◌∙◌}
use Rattle.std.specs.List.{flat_map}
use Rattle.seg_column_merge_parts.specs.SourceRows.{number_code}
use Rattle.seg_column_merge_parts.specs.declared.number_map.NumberMap.{NumberMap}
use Rattle.seg_column_merge_parts.proofs.source.NumberSource.first_bytes.Goals as goal

pub returns-in-Same : goal.returns-in-Same
returns-in-Same c =
    c.number_bytes.ensures
    ∙ ap (λ (m : NumberMap). flat_map (flat_map (number_code m)) (take c.args.rows c.args.self.now.numbers))
    (sym c.in-Same.is)
