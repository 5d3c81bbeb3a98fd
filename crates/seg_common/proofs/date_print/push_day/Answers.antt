use Rattle.std.proofs.Common.{◌≡◌, ◌++◌, ap, sym, subst, ◌∙◌, unsigned_abs, w16, w64, FitsSigned, rules}
use Rattle.std.proofs.lemmas.Int.{to_z-of_z}
use Rattle.std.proofs.lemmas.Result.{on_ok_weaker}
use Rattle.seg_common.specs.CivilCalendar.{year_of, month_of, day_of_month}
use Rattle.seg_common.specs.DateDigits.{digits_text}
use Rattle.seg_common.proofs.Calendar.{found_is}
use Rattle.seg_common.proofs.DateParts.{three_parts}
use Rattle.seg_common.proofs.date_print.push_day.Goals as goal

pub returns : goal.returns
returns c =
    let day = c.args.day in
    let date = c.unwrap-date.result in
    let value = c.from_unix_epoch_day.ensures.value in
    let same = found_is date day (rw c.unwrap-date.ensures at value ∙ to_z-of_z w64 day c.ranges.day) c.requires.low c.requires.high in
    let fits : FitsSigned w16 date.year = search rules in
    let year : c.from.result ≡ year_of day = c.from.ensures ∙ c.unsigned_abs.ensures.value ∙ ap unsigned_abs (to_z-of_z w16 date.year fits) ∙ sym same.0 in
    let out = c.args.out.now.items in
    let a = c.push_digits.new.out.items in
    let b = c.push.new.self.items in
    let d = c.push_digits-2.new.out.items in
    let e = c.push-2.new.self.items in
    let f = c.push_digits-3.new.out.items in
    let first = subst (λ n. a ≡ out ++ digits_text 4 n) year c.in_ok-push_digits.ensures in
    let second = subst (λ n. d ≡ b ++ digits_text 2 n) (c.from-2.ensures ∙ sym same.1) c.in_ok-push_digits-2.ensures in
    on_ok_weaker c.push_digits-3.result
    (λ (h : f ≡ e ++ digits_text 2 c.from-3.result). three_parts out a b d e f (digits_text 4 (year_of day)) (digits_text 2 (month_of day)) (digits_text 2 (day_of_month day)) 45 first c.in_ok-push.ensures.items second c.in_ok-push-2.ensures.items (subst (λ n. f ≡ e ++ digits_text 2 n) (c.from-3.ensures ∙ sym same.2) h))
    c.push_digits-3.ensures
