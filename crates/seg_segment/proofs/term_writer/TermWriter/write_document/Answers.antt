use Rattle.std.proofs.Common.{sym, subst}
use Rattle.std.specs.Prelude.{IfSome, IsSomeAnd}
use Rattle.seg_postings.specs.FieldSerializers.{MayOccur}
use Rattle.seg_segment.proofs.term_writer.TermWriter.write_document.Goals as goal

pub write_doc_at-requires : goal.write_doc_at-requires
write_doc_at-requires c = subst (λ o. IfSome o (λ w. IsSomeAnd w.current (MayOccur c.args.document c.args.count c.args.positions.now))) (sym c.self.view_is) c.requires
