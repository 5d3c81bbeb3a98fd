use Rattle.std.proofs.Common.{◌<◌, ◌^◌, arith, drop, ◌∙◌, rules, w8, w16, w32, w64, FitsSigned}
use Rattle.std.proofs.lemmas.Int.{to_z-of_z, to_z_pos}
use Rattle.std.proofs.lemmas.List.{length-drop, length-take}
use Rattle.seg_common.proofs.DateNumerals.{bound_at}
use Rattle.seg_common.proofs.ParsedDates.{date_read, no_date_read}
use Rattle.seg_common.proofs.date_read.read_day.Goals as goal

pub returns-in_default-clause-value : goal.returns-in_default-clause-value
returns-in_default-clause-value c =
    let text = c.args.text.now in
    let year : c.in_ok-year.year < 10 ^ 4 = bound_at _ 4 c.in_ok-year.year c.in_ok-year.ensures.bound (omega (arith, c.requires, length-take 4 text)) in
    let month : c.in_ok-month.month < 10 ^ 2 = bound_at _ 2 c.in_ok-month.month c.in_ok-month.ensures.bound (omega (arith, c.requires, length-take 2 (drop 5 text), length-drop 5 text)) in
    let day : c.in_ok-day.day < 10 ^ 2 = bound_at _ 2 c.in_ok-day.day c.in_ok-day.ensures.bound (omega (arith, c.requires, length-take 2 (drop 8 text), length-drop 8 text)) in
    no_date_read text c.in_ok-year.year c.in_ok-month.month c.in_ok-day.day _ _ _ c.if-text-ne45.false c.if-text-ne45-2.false c.in_ok-year.ensures.value c.in_ok-month.ensures.value c.in_ok-day.ensures.value
    (to_z_pos w16 c.in_ok-year.year (omega arith)) (to_z_pos w8 c.in_ok-month.month (omega arith)) (to_z_pos w8 c.in_ok-day.day (omega arith)) year c.in_default.ensures.succeeds.1

pub returns-clause-value : goal.returns-clause-value
returns-clause-value c =
    let text = c.args.text.now in
    let year : c.in_ok-year.year < 10 ^ 4 = bound_at _ 4 c.in_ok-year.year c.in_ok-year.ensures.bound (omega (arith, c.requires, length-take 4 text)) in
    let month : c.in_ok-month.month < 10 ^ 2 = bound_at _ 2 c.in_ok-month.month c.in_ok-month.ensures.bound (omega (arith, c.requires, length-take 2 (drop 5 text), length-drop 5 text)) in
    let day : c.in_ok-day.day < 10 ^ 2 = bound_at _ 2 c.in_ok-day.day c.in_ok-day.ensures.bound (omega (arith, c.requires, length-take 2 (drop 8 text), length-drop 8 text)) in
    let fits : FitsSigned w64 c.from.result = search rules in
    let fits_day : FitsSigned w32 c.to_unix_epoch_day.result = search rules in
    date_read text c.in_ok-year.year c.in_ok-month.month c.in_ok-day.day _ _ _ c.in-Ok.date _ c.if-text-ne45.false c.if-text-ne45-2.false c.in_ok-year.ensures.value c.in_ok-month.ensures.value c.in_ok-day.ensures.value
    (to_z_pos w16 c.in_ok-year.year (omega arith)) (to_z_pos w8 c.in_ok-month.month (omega arith)) (to_z_pos w8 c.in_ok-day.day (omega arith)) c.in-Ok.ensures.value
    (to_z-of_z w64 c.from.result fits ∙ c.from.ensures ∙ to_z-of_z w32 c.to_unix_epoch_day.result fits_day ∙ c.to_unix_epoch_day.ensures.value)
