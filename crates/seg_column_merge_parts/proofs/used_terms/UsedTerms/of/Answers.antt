use Rattle.std.proofs.Common.{ap, length, sym, subst}
use Rattle.std.specs.Prelude.{Option}
use Rattle.seg_column_merge_parts.specs.UsedTerms.{AreTermsOf}
use Rattle.seg_column_merge_parts.specs.declared.tables.FileColumn.{FileColumn}
use Rattle.seg_column_file.proofs.Exports.{if_ok_so}
use Rattle.seg_column_merge_parts.proofs.MergedRows.{no_terms_ascend, row_terms_are}
use Rattle.seg_column_merge_parts.proofs.used_terms.UsedTerms.of.Goals as goal

pub returns-in-Some : goal.returns-in-Some
returns-in-Some c =
    let kept = c.args.kept.now in
    if_ok_so c.of_column.result c.of_column.ensures
    (λ m are. subst (λ (o : Option FileColumn). AreTermsOf kept o m) (sym c.in-Some.is)
    (row_terms_are kept c.in-Some.place c.open.result c.of_file.result.now m c.open.ensures c.of_file.ensures are))

pub invariant_of-result : goal.invariant_of-result
invariant_of-result c = (ap length c.new.ensures.items, no_terms_ascend)
