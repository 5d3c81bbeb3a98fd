-- Cases of moments as texts.
use Rattle.std.proofs.Common.{refl}
use Rattle.jiff_core.specs.Calendar.{day_count, days_from_civil, days_of_months, days_of_years}
use Rattle.seg_common.specs.ParsedDates.{date_of}
use Rattle.seg_model_cases.specs.Dates.{DateCases}

pub date_cases : DateCases
unfolding day_count days_from_civil days_of_months days_of_years date_of
date_cases = record { reads = refl; cut = refl; refuses = refl }
