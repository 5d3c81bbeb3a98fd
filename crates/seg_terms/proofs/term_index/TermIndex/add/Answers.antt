use Rattle.seg_terms.proofs.NumberedOccurrences.{added_known}
use Rattle.seg_terms.proofs.term_index.TermIndex.add.Goals as goal

pub returns-clause-ok : goal.returns-clause-ok
returns-clause-ok c = added_known c.self.inside.known c.add.new.self c.args.self.now c.self.view_is c.args.bytes.now
    (record { document = c.args.document; position = c.args.position }) c.self.invariant c.add.result c.add.ensures.ok
