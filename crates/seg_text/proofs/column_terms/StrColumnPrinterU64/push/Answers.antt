use Rattle.seg_model.specs.Columns.{text_value}
use Rattle.seg_text.proofs.PrintedRows.{term_lacking}
use Rattle.seg_text.proofs.column_terms.StrColumnPrinterU64.push.Goals as goal

pub returns-in-None : goal.returns-in-None
returns-in-None c =
    term_lacking c.push_quoted-in-None.result text_value c.args.self.now.terms c.args.value c.args.out.now.items
    c.push_quoted-in-None.new.out.items c.in-None.ensures c.push_quoted-in-None.ensures
