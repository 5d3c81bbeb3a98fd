use Rattle.std.proofs.Common.{ℕ, List, get_or, map, ap, ◌∙◌}
use Rattle.seg_column_writer.specs.EncodedColumns.{ranked}
use Rattle.seg_column_writer.specs.declared.row_value.RowValue.{RowValue}
use Rattle.seg_column_writer.proofs.ArrangedValues.{arranged_rise}
use Rattle.seg_column_writer.proofs.encoded_values.put_terms.Goals as goal

pub put_ordered_terms-requires : goal.put_ordered_terms-requires
put_ordered_terms-requires c = arranged_rise (λ (v : RowValue). get_or c.args.order.now.ordinals.items v.number 0) c.args.sorts c.args.values.now c.in_ok-ordinals.field-0.items
    c.arranged-numbers.result.items c.deref-2.result.now (c.in_ok-ordinals.ensures ∙ ap (λ (l : List ℕ). map (ranked l) c.args.values.now) c.deref.ensures.value)
    c.arranged-numbers.ensures c.deref-2.ensures.value c.requires
