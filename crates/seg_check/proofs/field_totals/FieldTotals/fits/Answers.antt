use Rattle.std.proofs.Common.{◌∙◌}
use Rattle.seg_check.proofs.FieldValues.{text-fits, json-fits, other-fits}
use Rattle.seg_check.proofs.field_totals.FieldTotals.fits.Goals as goal

pub returns-in-Text : goal.returns-in-Text
returns-in-Text c analyze done stands = c.fits.ensures ∙ text-fits c.args.entry.now analyze c.args.self.now done stands c.in-Text.is

pub returns-in-Json : goal.returns-in-Json
returns-in-Json c analyze done stands = c.fits_by_path.ensures ∙ json-fits c.args.entry.now analyze c.args.self.now done stands c.in-Json.is

pub returns-in_default : goal.returns-in_default
returns-in_default c analyze done stands = c.is_u32.ensures ∙ other-fits c.args.entry.now analyze c.args.self.now done stands c.in_default.not-Text c.in_default.not-Json
