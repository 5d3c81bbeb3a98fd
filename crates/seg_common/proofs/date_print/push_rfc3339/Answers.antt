use Rattle.std.proofs.Common.{ap, ◌∙◌, pos, unsigned_abs, w64, FitsSigned, rules}
use Rattle.std.specs.Int.{int_div_euclid, int_rem_euclid}
use Rattle.std.proofs.lemmas.Int.{to_z-of_z}
use Rattle.seg_common.specs.DateText.{day_nanos}
use Rattle.seg_common.proofs.DateParts.{date_parts}
use Rattle.seg_common.proofs.date_print.push_rfc3339.Goals as goal

pub returns : goal.returns
returns c =
    let now = c.into_timestamp_nanos-nanos.result in
    let fits_now : FitsSigned w64 now = search rules in
    let fits_day : FitsSigned w64 c.div_euclid.result = search rules in
    let fits_time : FitsSigned w64 c.rem_euclid.result = search rules in
    let same = to_z-of_z w64 now fits_now ∙ c.into_timestamp_nanos-nanos.ensures in
    let day = to_z-of_z w64 c.div_euclid.result fits_day ∙ c.div_euclid.ensures ∙ ap (λ z. int_div_euclid z (pos day_nanos)) same in
    let nanos = ap unsigned_abs (to_z-of_z w64 c.rem_euclid.result fits_time ∙ c.rem_euclid.ensures.value ∙ ap (λ z. int_rem_euclid z (pos day_nanos)) same) in
    date_parts c.args.out.now.items c.push_day.new.out.items c.push.new.self.items c.push_time.new.out.items c.push-2.new.self.items c.args.date _ _ day nanos c.in_ok-push_day.ensures c.in_ok-push.ensures.items c.in_ok-push_time.ensures c.in_ok-push-2.ensures.items
