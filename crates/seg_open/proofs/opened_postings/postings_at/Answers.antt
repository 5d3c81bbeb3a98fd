use Rattle.std.proofs.Common.{◌≡◌, Some, rules}
use Rattle.seg_common.specs.declared.name.SegmentComponent.TheVariants.{Postings}
use Rattle.seg_open.specs.OpenedTermFiles.{LacksPostings}
use Rattle.seg_open.proofs.UnopenedFiles.{some_lacks, told_else}
use Rattle.seg_open.proofs.opened_postings.postings_at.Goals as goal

pub returns-in-Err-clause-err : goal.returns-in-Err-clause-err
returns-in-Err-clause-err c =
    let same : c.args.field.now ≡ Some c.in-Some.terms = search rules in
    let at : c.from_field_id-field.result ≡ c.args.place = search rules in
    told_else Postings _ _ (λ lacks. some_lacks (LacksPostings c.args.parts.now) c.args.field.now c.in-Some.terms c.from_field_id-field.result c.args.place same at lacks) c.in-Err.e c.in-Err.ensures.err
