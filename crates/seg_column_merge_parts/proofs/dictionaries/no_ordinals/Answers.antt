use Rattle.std.proofs.Common.{ℕ, ◌∙◌}
use Rattle.std.specs.Prelude.{Vec}
use Rattle.std.specs.declared.alloc.Global.{Global}
use Rattle.seg_column_merge_parts.proofs.HeadCalls.{long_more}
use Rattle.seg_column_merge_parts.proofs.dictionaries.no_ordinals.Goals as goal

pub loop-column-preserved : goal.loop-column-preserved
loop-column-preserved c =
    long_more {V = Vec ℕ Global} (λ v. v.items) c.args.columns.now c.loop-column.column-index c.column-item.result
    c.loop-column-test.true c.column-item.is c.loop-column.ordinals.items c.push.new.self.items c.in_ok-zeros.field-0
    c.in_ok-push.ensures.items (c.in_ok-zeros.ensures ∙ c.len.ensures) c.loop-column.invariant
