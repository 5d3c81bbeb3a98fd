use Rattle.std.proofs.Common.{ap, arith, Some}
use Rattle.std.proofs.lemmas.Nat.{from_le_bytes-to_le_bytes_4}
use Rattle.seg_common.specs.LittleEndian.{u32_at, u64_at}
use Rattle.seg_column_file.specs.EmptyColumnFile.{is_without_columns, rows_of}
use Rattle.seg_column_file.proofs.writer.ColumnarWriter.serialize.Goals as goal

pub returns-clause-ok : goal.returns-clause-ok
unfolding rows_of is_without_columns u32_at u64_at
returns-clause-ok c = rw (c.in_ok-put_u32-2.ensures.ok, c.in_ok-put_u32.ensures.ok, c.in_ok-put_u64-2.ensures.ok, c.in_ok-put_u64.ensures.ok, c.new-bytes.ensures.items) (ap Some (from_le_bytes-to_le_bytes_4 c.args.num_docs (omega arith)))
