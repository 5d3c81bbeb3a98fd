use Rattle.std.proofs.Common.{sym, subst}
use Rattle.seg_column_writer.specs.ColumnRecords.{HasReached, Recording}
use Rattle.seg_column_writer.specs.SoundColumns.{IsTermOf}
use Rattle.seg_column_writer.proofs.SoundColumns.{reached, seen_added, still_sound}
use Rattle.seg_column_writer.proofs.recorded_column.RecordedColumn.push_term.Goals as goal

pub invariant_of-self : goal.invariant_of-self
invariant_of-self c =
    let i = c.self.inside in
    still_sound i.kind i.declared i.sorts i.signed i.unsigned i.known c.add_term.new.self c.self.invariant c.args.row
    c.args.bytes.now
    (reached i.kind i.known.terms c.args.row i.known.values.items
    (subst (λ (r : Recording). HasReached c.args.row r) (sym c.self.view_is) c.requires.row))
    (subst (λ (r : Recording). IsTermOf r.kind c.args.bytes.now) (sym c.self.view_is) c.requires.term)
    c.add_term.result c.add_term.ensures.ok c.add_term.ensures.err

pub returns-clause-ok : goal.returns-clause-ok
returns-clause-ok c =
    let i = c.self.inside in
    seen_added i.kind i.declared i.sorts i.signed i.unsigned i.known c.add_term.new.self c.self.invariant c.args.row
    c.args.bytes.now
    (reached i.kind i.known.terms c.args.row i.known.values.items
    (subst (λ (r : Recording). HasReached c.args.row r) (sym c.self.view_is) c.requires.row))
    (subst (λ (r : Recording). IsTermOf r.kind c.args.bytes.now) (sym c.self.view_is) c.requires.term)
    c.add_term.result c.args.self.now c.self.view_is c.add_term.ensures.ok
