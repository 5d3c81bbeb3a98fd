use Rattle.std.proofs.Common.{sym, subst}
use Rattle.std.proofs.lemmas.Result.{on_ok_weaker}
use Rattle.std.specs.Option.{option_map}
use Rattle.seg_build.specs.FinishedFiles.{Finalizes, FinishesKept}
use Rattle.seg_build.specs.SegmentWriters.{kept_of}
use Rattle.seg_build.proofs.FinalizedFiles.{are_finished, finishing_on_disk}
use Rattle.seg_build.proofs.segment_writer.SegmentWriter.finalize.Goals as goal

pub returns-in-Some-clause-does : goal.returns-in-Some-clause-does
returns-in-Some-clause-does g c =
    let a = g.W.Directory.state c.args.directory.now in
    let b = g.W.Directory.state c.finish.new.directory in
    let segment = c.self.inside.segment in
    subst (λ v. Finalizes v.1 c.finish.result a b) c.self.view_is
    (subst (λ o. FinishesKept segment.schema segment.meta.id (option_map kept_of o) c.finish.result a b) (sym c.in-Some.is) c.finish.ensures.does)

pub returns-in-Some-clause-stands : goal.returns-in-Some-clause-stands
returns-in-Some-clause-stands g c told =
    let writer = c.args.self.1 in
    on_ok_weaker c.finish.result (λ all documents stamps w. (all (g.Z.Analyzers.tokens_of c.args.self.0) writer.block_size documents stamps w).0)
    (are_finished writer.schema writer.id c.finish.result _ _ told writer.kept (returns-in-Some-clause-does g c))

pub returns-in-Some-clause-totals : goal.returns-in-Some-clause-totals
returns-in-Some-clause-totals g c told =
    let writer = c.args.self.1 in
    on_ok_weaker c.finish.result (λ all documents stamps w. (all (g.Z.Analyzers.tokens_of c.args.self.0) writer.block_size documents stamps w).1)
    (are_finished writer.schema writer.id c.finish.result _ _ told writer.kept (returns-in-Some-clause-does g c))

pub returns-in-Some-clause-blocks : goal.returns-in-Some-clause-blocks
returns-in-Some-clause-blocks g c told =
    let writer = c.args.self.1 in
    on_ok_weaker c.finish.result (λ all documents stamps w. (all (g.Z.Analyzers.tokens_of c.args.self.0) writer.block_size documents stamps w).2)
    (are_finished writer.schema writer.id c.finish.result _ _ told writer.kept (returns-in-Some-clause-does g c))

pub returns-in-Some-clause-disk : goal.returns-in-Some-clause-disk
returns-in-Some-clause-disk g c told =
    let writer = c.args.self.1 in
    finishing_on_disk writer.schema writer.id writer.kept c.finish.result _ _ told (returns-in-Some-clause-does g c)
