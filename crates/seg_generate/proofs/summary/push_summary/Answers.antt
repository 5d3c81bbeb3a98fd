use Rattle.std.proofs.Common.{append_assoc}
use Rattle.seg_generate.proofs.summary.push_summary.Goals as goal

pub returns : goal.returns
returns c =
    rw (
      c.in_ok-push-2.ensures.items,
      c.in_ok-push_count-4.ensures,
      c.in_ok-push_count-3.ensures,
      c.in_ok-push_count-2.ensures,
      c.in_ok-push_count.ensures,
      c.in_ok-push_id.ensures,
      c.in_ok-push.ensures.items,
      c.in_ok-extend_from_slice.ensures.items,
      c.as_bytes.ensures.value,
    )
    (simp append_assoc)
