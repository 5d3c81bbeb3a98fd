use Rattle.std.proofs.Common.{[], ◌∷◌, map, ap, ◌∙◌}
use Rattle.seg_surface.proofs.ColumnMerging.{can_merge}
use Rattle.seg_surface.proofs.columns.merges.merged.Goals as goal

-- src/columns/merges.rt
pub merge_columnar-requires : goal.merge_columnar-requires
merge_columnar-requires c = can_merge c.args.required.now c.as_slice-2.result.now c.args.order.now
    (ap (map (λ f. f.rows)) (c.as_slice-2.ensures.value ∙ c.in-Ok.ensures)
    ∙ (λ j. c.in_ok-first.ensures j ∷ c.in_ok-second.ensures j ∷ []))
    c.requires.rows c.requires.few c.requires.types
