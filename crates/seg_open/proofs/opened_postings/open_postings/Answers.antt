use Rattle.std.proofs.Common.{IfErr, List, Option, refl, subst}
use Rattle.std.proofs.lemmas.Result.{IfOk-weaker}
use Rattle.seg_common.specs.declared.name.SegmentComponent.TheVariants.{Postings}
use Rattle.seg_postings.specs.OpenedFields.{FirstPart}
use Rattle.seg_open.specs.OpenedTermFiles.{AddsPostings, AllGoOn, IsTold, LacksPostings, OneStops, PostingsUnopened}
use Rattle.seg_open.proofs.UnopenedFiles.{with_table}
use Rattle.seg_open.proofs.opened_postings.open_postings.Goals as goal

pub returns-in_default-clause-err : goal.returns-in_default-clause-err
returns-in_default-clause-err c = (refl, λ parts has. absurd (c.in_default.ensures parts has))

pub returns-clause-ok : goal.returns-clause-ok
returns-clause-ok c =
    IfOk-weaker c.add_postings.result _ _ (λ opened all. record {
      parts = c.in-Some.parts;
      file = c.in-Some.ensures;
      all = subst (λ (before : List (Option FirstPart)). AllGoOn (AddsPostings c.in-Some.parts) before opened.items) c.as_slice.ensures.value all;
    }) c.add_postings.ensures.ok

pub returns-clause-err : goal.returns-clause-err
returns-clause-err c =
    subst (λ (before : List (Option FirstPart)). IfErr c.add_postings.result (IsTold Postings (PostingsUnopened c.args.schema.now c.args.postings before))) c.as_slice.ensures.value
    (with_table c.args.schema.now c.args.postings c.in-Some.parts c.in-Some.ensures Postings (λ ps. OneStops (LacksPostings ps) c.as_slice.result.now) c.add_postings.result c.add_postings.ensures.err)
