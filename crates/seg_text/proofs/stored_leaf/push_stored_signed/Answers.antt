use Rattle.std.proofs.Common.{◌++◌, ap, ◌∙◌, w64, FitsSigned, rules}
use Rattle.std.specs.Fmt.{signed_decimal}
use Rattle.std.proofs.lemmas.Int.{to_z-of_z}
use Rattle.seg_text.proofs.PrintedFronts.{not_more}
use Rattle.seg_text.proofs.stored_leaf.push_stored_signed.Goals as goal

pub returns-in_default : goal.returns-in_default
returns-in_default c = not_more c.args.out.now.items

pub returns : goal.returns
returns c =
    let fits : FitsSigned w64 c.cast_signed.result = search rules in
    let same = to_z-of_z w64 c.cast_signed.result fits ∙ c.cast_signed.ensures in
    record { value = c.in-Some.number; is = c.in-Some.ensures; printed = c.in_ok-push_signed.ensures ∙ ap (λ z. c.args.out.now.items ++ signed_decimal z) same }
