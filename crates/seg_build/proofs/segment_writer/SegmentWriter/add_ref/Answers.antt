use Rattle.seg_build.proofs.segment_writer.SegmentWriter.add_ref.Goals as goal

pub returns-in-Some-clause-err : goal.returns-in-Some-clause-err
returns-in-Some-clause-err g c = c.in-Some.ensures.refused (g.Z.Analyzers.tokens_of c.args.self.now.0) (g.D.Document.pairs_of c.args.document.now) c.args.opstamp
