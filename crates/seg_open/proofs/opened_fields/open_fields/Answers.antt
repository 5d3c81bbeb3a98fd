use Rattle.std.proofs.Common.{refl}
use Rattle.seg_open.proofs.opened_fields.open_fields.Goals as goal

pub returns-in_default-clause-err : goal.returns-in_default-clause-err
returns-in_default-clause-err c = (refl, λ parts has. absurd (c.in_default.ensures parts has))
