use Rattle.std.proofs.Common.{refl, inr}
use Rattle.seg_postings.proofs.CompletedPostings.{none_by}
use Rattle.seg_postings.proofs.field_postings.FieldPostings.new.Goals as goal

pub returns-then-not-branch-clause-err : goal.returns-then-not-branch-clause-err
returns-then-not-branch-clause-err c =
    inr (refl, none_by c.args.field.rules c.args.field.dictionary c.args.postings c.as_slice.result.now _ c.in_ok-are_postings.ensures.ok c.if-not-branch.true c.as_slice.ensures)
