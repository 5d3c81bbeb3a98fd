use Rattle.std.proofs.Common.{[], ◌∷◌, sym, subst, ◌∙◌}
use Rattle.std.specs.Prelude.{IsSomeAnd}
use Rattle.std.proofs.lemmas.Result.{on_ok_weaker}
use Rattle.seg_common.specs.WriterGrowth.{HasGrown}
use Rattle.seg_model.specs.DocumentTerms.{Posting}
use Rattle.seg_segment.specs.WrittenTerms.{MayTake, with_more}
use Rattle.seg_segment.proofs.Exports.{are_of_kind, posting_is}
use Rattle.seg_build.specs.WrittenTerms.{kept_hits}
use Rattle.seg_build.proofs.WrittenHits.{run_recorded}
use Rattle.seg_build.proofs.written_terms.write_run.Goals as goal

pub add_document-requires-clause-recorded : goal.add_document-requires-clause-recorded
add_document-requires-clause-recorded c =
    let are = c.deref.ensures.value ∙ c.in_ok-set_places.ensures in
    are_of_kind c.args.kind (kept_hits c.args.kind c.args.run.now) c.kept_count.result c.deref.result.now (run_recorded c.args.kind c.args.run.now c.kept_count.result c.deref.result.now c.requires.kept c.kept_count.ensures are)

pub add_document-requires-clause-takes : goal.add_document-requires-clause-takes
add_document-requires-clause-takes c =
    let are = c.deref.ensures.value ∙ c.in_ok-set_places.ensures in
    let is = run_recorded c.args.kind c.args.run.now c.kept_count.result c.deref.result.now c.requires.kept c.kept_count.ensures are in
    subst (λ (p : Posting). IsSomeAnd c.args.writer.now (MayTake c.args.bytes.now (p ∷ []))) (sym (posting_is c.args.kind (kept_hits c.args.kind c.args.run.now) c.kept_count.result c.deref.result.now is c.args.document)) c.requires.takes

pub returns : goal.returns
returns c =
    let are = c.deref.ensures.value ∙ c.in_ok-set_places.ensures in
    let is = run_recorded c.args.kind c.args.run.now c.kept_count.result c.deref.result.now c.requires.kept c.kept_count.ensures are in
    on_ok_weaker c.add_document.result
    (subst (λ (p : Posting). HasGrown c.args.writer.now c.add_document.new.self (with_more c.args.bytes.now (p ∷ []))) (posting_is c.args.kind (kept_hits c.args.kind c.args.run.now) c.kept_count.result c.deref.result.now is c.args.document))
    c.add_document.ensures
