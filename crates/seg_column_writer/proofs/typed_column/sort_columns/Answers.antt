use Rattle.std.proofs.Common.{rules}
use Rattle.seg_model.proofs.Exports.{column_cmp_total}
use Rattle.seg_column_writer.specs.TypedColumns.{key_at}
use Rattle.seg_common.proofs.ByOrder.{sorted_by}
use Rattle.seg_column_writer.proofs.typed_column.sort_columns.Goals as goal

pub returns-clause-sorted : goal.returns-clause-sorted
returns-clause-sorted c =
    sorted_by column_cmp_total (key_at c.args.names.now) c.sort_unstable_by.new.self.items
    c.sort_unstable_by.ensures.sorted (λ a r q k. search rules)
