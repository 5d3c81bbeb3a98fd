use Rattle.std.proofs.Common.{[], ◌∷◌, ◌++◌, ◌∙◌, ap, sym}
use Rattle.seg_common.proofs.Lists.{take-slice_get}
use Rattle.seg_tool.proofs.norm_lines.all_ids.Goals as goal

pub loop-document-preserved : goal.loop-document-preserved
loop-document-preserved c =
    c.in_ok-push.ensures.items
    ∙ ap (λ xs. xs ++ c.fieldnorm_id.result ∷ []) c.loop-document.invariant
    ∙ sym (take-slice_get c.args.reader.now c.loop-document.document c.fieldnorm_id.result c.fieldnorm_id.ensures)
