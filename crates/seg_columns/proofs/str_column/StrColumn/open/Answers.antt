use Rattle.std.proofs.Common.{◌≡◌, sym, ap, subst, ◌∙◌}
use Rattle.std.specs.Prelude.{All, IsUtf8}
use Rattle.seg_columns.specs.Dictionaries.{terms_of}
use Rattle.seg_columns.specs.TermColumns.{TermColumn, dictionary_in}
use Rattle.seg_columns.proofs.str_column.StrColumn.open.Goals as goal

pub returns-then-not-are_utf8 : goal.returns-then-not-are_utf8
returns-then-not-are_utf8 c = λ is.
    let same : c.dictionary.result.now ≡ terms_of (dictionary_in c.args.num_docs c.args.bytes.now) =
    c.dictionary.ensures ∙ ap (λ (column : TermColumn). column.terms) c.in-Ok.ensures.1 in
    c.if-not-are_utf8.ensures (subst (All IsUtf8) (sym same) is.utf8)

pub invariant_of-result : goal.invariant_of-result
invariant_of-result c = subst (All IsUtf8) c.dictionary.ensures c.if-not-are_utf8.ensures

pub returns : goal.returns
returns c =
    let same : c.dictionary.result.now ≡ terms_of (dictionary_in c.args.num_docs c.args.bytes.now) =
    c.dictionary.ensures ∙ ap (λ (column : TermColumn). column.terms) c.in-Ok.ensures.1 in
    (record { terms = c.in-Ok.ensures.0; utf8 = subst (All IsUtf8) same c.if-not-are_utf8.ensures }, c.in-Ok.ensures.1)
