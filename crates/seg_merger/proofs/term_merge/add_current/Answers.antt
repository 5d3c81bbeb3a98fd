use Rattle.std.proofs.Common.{Some, None, sym, subst}
use Rattle.std.specs.Prelude.{IsSomeAnd}
use Rattle.std.proofs.lemmas.Result.{on_ok_weaker}
use Rattle.seg_common.specs.WriterGrowth.{HasGrown}
use Rattle.seg_segment.specs.WrittenTerms.{MayTake, with_more}
use Rattle.seg_merger.proofs.SourcePostings.{doc_within, current_moved}
use Rattle.seg_segment.proofs.Exports.{none_taken}
use Rattle.seg_merger.proofs.term_merge.add_current.Goals as goal

pub new_id-requires : goal.new_id-requires
new_id-requires c = doc_within c.args.source.now.ids c.args.postings.now.left c.args.kind c.requires.kind c.doc.result c.doc.ensures c.requires.within

pub add_posting-requires : goal.add_posting-requires
add_posting-requires c =
    let is = current_moved c.args.source.now.ids c.args.postings.now.left c.args.kind c.requires.kind c.doc.result c.doc.ensures (Some c.in-Some.id) c.in-Some.ensures in
    record { kind = c.requires.kind; takes = subst (λ ps. IsSomeAnd c.args.writer.now (MayTake c.args.key.now ps)) is c.requires.takes }

pub returns-in-None : goal.returns-in-None
returns-in-None c =
    let is = current_moved c.args.source.now.ids c.args.postings.now.left c.args.kind c.requires.kind c.doc.result c.doc.ensures None c.in-None.ensures in
    none_taken c.args.key.now _ c.args.writer.now c.requires.takes is

pub returns-in-Some : goal.returns-in-Some
returns-in-Some c =
    let is = current_moved c.args.source.now.ids c.args.postings.now.left c.args.kind c.requires.kind c.doc.result c.doc.ensures (Some c.in-Some.id) c.in-Some.ensures in
    on_ok_weaker c.add_posting.result (subst (λ ps. HasGrown c.args.writer.now c.add_posting.new.writer (with_more c.args.key.now ps)) (sym is)) c.add_posting.ensures
