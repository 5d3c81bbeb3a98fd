use Rattle.seg_column_merge_parts.proofs.MergedRows.{others_ascend}
use Rattle.seg_column_merge_parts.proofs.used_terms.terms_ascend.Goals as goal

pub returns-in_default : goal.returns-in_default
returns-in_default c =
    others_ascend c.args.column.now (λ x is. c.in_default.not-Bytes x is) (λ x is. c.in_default.not-Str x is)
