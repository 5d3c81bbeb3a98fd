use Rattle.std.proofs.Common.{append_assoc}
use Rattle.seg_text.proofs.header.push_header.Goals as goal

pub returns : goal.returns
returns c = rw (c.in_ok-push-2.ensures.items, c.in_ok-push_decimal-2.ensures, c.in_ok-extend_from_slice-3.ensures.items, c.in_ok-push_decimal.ensures, c.in_ok-extend_from_slice-2.ensures.items, c.in_ok-push_id.ensures, c.in_ok-push.ensures.items, c.in_ok-extend_from_slice.ensures.items, c.as_bytes.ensures.value) (simp append_assoc)
