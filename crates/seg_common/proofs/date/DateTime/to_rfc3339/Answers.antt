use Rattle.std.proofs.Common.{◌++◌, ap, sym, subst, ◌∙◌}
use Rattle.std.specs.Str.{IsUtf8}
use Rattle.seg_common.specs.DateText.{date_text}
use Rattle.seg_common.proofs.PlainDates.{utf8_date}
use Rattle.seg_common.proofs.date.DateTime.to_rfc3339.Goals as goal

pub unwrap-requires : goal.unwrap-requires
unwrap-requires c =
    let moment = c.args.self in
    let whole = c.in_ok-push_rfc3339.ensures ∙ ap (λ bytes. bytes ++ date_text moment) c.new-out.ensures.items in
    c.from_utf8.ensures.succeeds (subst IsUtf8 (sym whole) (utf8_date moment))
