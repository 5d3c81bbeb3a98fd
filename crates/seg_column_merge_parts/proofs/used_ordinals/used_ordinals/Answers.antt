use Rattle.std.proofs.Common.{◌≡◌, true, sym, subst, ◌∙◌, rules}
use Rattle.seg_column_file.specs.KeptRows.{kept_values}
use Rattle.seg_column_merge_parts.specs.UsedOrdinals.{AreUsed}
use Rattle.seg_column_file.proofs.Exports.{if_ok_so}
use Rattle.seg_column_merge_parts.proofs.OrdinalMarks.{all_are_used}
use Rattle.seg_column_merge_parts.proofs.used_ordinals.used_ordinals.Goals as goal

pub returns-then-are_all_kept : goal.returns-then-are_all_kept
returns-then-are_all_kept c =
    let kept = c.args.kept.now in
    let rows = c.args.ords.now in
    let yes : c.are_all_kept.result ≡ true = search rules in
    if_ok_so c.all_used.result c.all_used.ensures
    (λ used is. subst (AreUsed c.args.count (kept_values kept rows)) (sym is)
    (all_are_used c.args.count kept rows c.requires.rows (sym c.are_all_kept.ensures ∙ yes) c.requires.uses))
