use Rattle.std.proofs.Common.{sym, subst}
use Rattle.std.specs.Prelude.{All, IsUtf8}
use Rattle.seg_columns.specs.TermColumns.{TermColumn}
use Rattle.seg_columns.proofs.str_column.StrColumn.of_checked.Goals as goal

pub invariant_of-result : goal.invariant_of-result
invariant_of-result c = subst (λ (column : TermColumn). All IsUtf8 column.terms)
    (sym c.of_checked.ensures) c.requires.utf8
