use Rattle.std.proofs.Common.{◌++◌, ap, ◌∙◌, w64, FitsSigned, rules}
use Rattle.std.proofs.lemmas.Int.{to_z-of_z}
use Rattle.json.specs.Print.{quoted}
use Rattle.seg_common.specs.DateText.{date_text}
use Rattle.seg_text.proofs.PrintedFronts.{not_more}
use Rattle.seg_text.proofs.stored_leaf.push_stored_date.Goals as goal

pub returns-in_default : goal.returns-in_default
returns-in_default c = not_more c.args.out.now.items

pub returns : goal.returns
returns c =
    let fits : FitsSigned w64 c.cast_signed.result = search rules in
    let same = c.from_timestamp_nanos.ensures ∙ to_z-of_z w64 c.cast_signed.result fits ∙ c.cast_signed.ensures in
    record { value = c.in-Some.number; is = c.in-Some.ensures; printed = c.in_ok-push_date.ensures ∙ ap (λ z. c.args.out.now.items ++ quoted (date_text z)) same }
