use Rattle.std.proofs.Common.{List, ℕ, slice_get, sym, ap, ◌∙◌}
use Rattle.seg_columns.proofs.TermParts.{utf8_at}
use Rattle.seg_columns.proofs.str_column.StrColumn.text.Goals as goal

pub unreachable-requires : goal.unreachable-requires
unreachable-requires c =
    let terms = c.self.inside.column.terms in
    let at = sym (ap (λ (l : List (List ℕ)). slice_get l c.args.ord) c.dictionary.ensures) ∙ c.in_ok-term.ensures in
    absurd (c.in-Err.ensures.cases.0 (utf8_at terms c.args.ord c.in_ok-term.term.now c.self.invariant at))
