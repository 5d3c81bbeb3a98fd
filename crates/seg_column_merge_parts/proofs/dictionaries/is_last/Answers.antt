use Rattle.std.proofs.Common.{◌≡◌, rules, sym}
use Rattle.std.specs.Str.{bytes_eq}
use Rattle.seg_column_merge_parts.proofs.HeadCalls.{last_tested}
use Rattle.seg_column_merge_parts.proofs.dictionaries.is_last.Goals as goal

pub returns-in-Some : goal.returns-in-Some
returns-in-Some c =
    let tested : c.eq.result ≡ bytes_eq c.in-Some.last.now.now c.args.term.now = search rules in
    last_tested c.args.terms.now c.in-Some.last.now c.args.term.now c.eq.result (sym c.in-Some.ensures.value) tested
