use Rattle.std.proofs.Common.{◌≡◌, take}
use Rattle.seg_open.proofs.opened_fields.share_fields.Given as goal

-- the fields so far are shared
abbrev pub invariant-loop-field : goal.invariant-loop-field
invariant-loop-field l = l.copy.items ≡ take l.field-index l.fields
