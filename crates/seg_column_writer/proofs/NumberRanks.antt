-- Numbers of rows are ranked by rows, and of one row by numbers.
use Rattle.std.specs.Cmp.{IsTotalOrder, nat_cmp_total, on_total, then_total}
use Rattle.seg_column_writer.specs.EncodedColumns.{number_cmp}
use Rattle.seg_column_format.specs.declared.row_number.RowNumber.{RowNumber}

pub number_cmp_total : IsTotalOrder number_cmp
number_cmp_total =
    then_total (on_total (λ (v : RowNumber). v.row) nat_cmp_total) (on_total (λ (v : RowNumber). v.number) nat_cmp_total)
