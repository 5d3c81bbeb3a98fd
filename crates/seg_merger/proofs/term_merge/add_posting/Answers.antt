use Rattle.std.proofs.Common.{List, sym, subst, ◌∙◌}
use Rattle.std.specs.Prelude.{IsSomeAnd}
use Rattle.std.proofs.lemmas.Result.{on_ok_weaker}
use Rattle.seg_common.specs.WriterGrowth.{HasGrown}
use Rattle.seg_model.specs.DocumentTerms.{Posting}
use Rattle.seg_postings.specs.OpenPostings.{positions_of}
use Rattle.seg_postings.specs.WritablePostings.{Rise}
use Rattle.seg_segment.specs.WrittenTerms.{MayTake, with_more}
use Rattle.seg_merger.proofs.CurrentPosting.{is_told, told_is}
use Rattle.seg_merger.proofs.term_merge.add_posting.Goals as goal

pub add_document-requires-clause-recorded : goal.add_document-requires-clause-recorded
add_document-requires-clause-recorded c =
    let left = c.args.postings.now.left in
    let rise : Rise 0 (positions_of left) = subst (Rise 0) c.in-Ok.ensures.ok c.in-Ok.ensures.rise in
    is_told c.args.id left c.args.kind c.requires.kind c.term_freq.result c.term_freq.ensures c.deref.result.now (c.deref.ensures.value ∙ c.in-Ok.ensures.ok) rise

pub add_document-requires-clause-takes : goal.add_document-requires-clause-takes
add_document-requires-clause-takes c =
    let left = c.args.postings.now.left in
    let rise : Rise 0 (positions_of left) = subst (Rise 0) c.in-Ok.ensures.ok c.in-Ok.ensures.rise in
    let told = told_is c.args.id left c.args.kind c.requires.kind c.term_freq.result c.term_freq.ensures c.deref.result.now (c.deref.ensures.value ∙ c.in-Ok.ensures.ok) rise in
    subst (λ (ps : List Posting). IsSomeAnd c.args.writer.now (MayTake c.args.key.now ps)) (sym told) c.requires.takes

pub returns : goal.returns
returns c =
    let left = c.args.postings.now.left in
    let rise : Rise 0 (positions_of left) = subst (Rise 0) c.in-Ok.ensures.ok c.in-Ok.ensures.rise in
    let told = told_is c.args.id left c.args.kind c.requires.kind c.term_freq.result c.term_freq.ensures c.deref.result.now (c.deref.ensures.value ∙ c.in-Ok.ensures.ok) rise in
    on_ok_weaker c.add_document.result
    (subst (λ (ps : List Posting). HasGrown c.args.writer.now c.add_document.new.self (with_more c.args.key.now ps)) told)
    c.add_document.ensures
