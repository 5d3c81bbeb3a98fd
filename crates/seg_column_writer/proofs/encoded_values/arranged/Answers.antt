use Rattle.std.proofs.Common.{rules, sym, subst}
use Rattle.seg_column_writer.specs.EncodedColumns.{IsArranged}
use Rattle.seg_column_format.specs.declared.row_number.RowNumber.{RowNumber}
use Rattle.seg_common.proofs.ByOrder.{sorted_by}
use Rattle.seg_column_writer.proofs.NumberRanks.{number_cmp_total}
use Rattle.seg_column_writer.proofs.encoded_values.arranged.Goals as goal

pub returns : goal.returns
returns c =
    let sorted = c.sort_unstable_by.new.self.items in
    subst (λ b. IsArranged b c.args.numbers.items sorted) (sym c.if-not-sorts.false) (
      c.sort_unstable_by.ensures.permutation,
      sorted_by number_cmp_total (λ (v : RowNumber). v) sorted c.sort_unstable_by.ensures.sorted (λ a r q k. search rules),
    )
