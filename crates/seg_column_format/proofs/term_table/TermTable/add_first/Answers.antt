use Rattle.std.proofs.Common.{length, sym, ap, ◌∙◌}
use Rattle.seg_column_format.proofs.TermNumbers.{term_number-new}
use Rattle.seg_column_format.proofs.term_table.TermTable.add_first.Goals as goal

pub returns-clause-number : goal.returns-clause-number
returns-clause-number c =
    c.len-number.ensures.len ∙ ap length c.self.view_is
    ∙ sym (term_number-new c.args.self.now c.args.term.now c.requires)
