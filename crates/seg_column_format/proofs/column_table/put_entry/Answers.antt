use Rattle.std.proofs.Common.{append_assoc}
use Rattle.seg_column_format.proofs.column_table.put_entry.Goals as goal

pub returns : goal.returns
returns c = rw (
  c.in_ok-put_u64-2.ensures.ok,
  c.in_ok-push.ensures.items,
  c.type_code.ensures,
  c.in_ok-extend_from_slice.ensures.items,
  c.in_ok-put_u64.ensures.ok,
) (simp append_assoc)
