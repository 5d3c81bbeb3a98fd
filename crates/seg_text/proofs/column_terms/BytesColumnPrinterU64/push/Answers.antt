use Rattle.std.proofs.Common.{List, ℕ, ap, sym, ◌∙◌}
use Rattle.std.specs.Prelude.{slice_get}
use Rattle.seg_model.specs.Columns.{bytes_value}
use Rattle.seg_text.proofs.PrintedRows.{term_lacking}
use Rattle.seg_text.proofs.column_terms.BytesColumnPrinterU64.push.Goals as goal

pub returns-in-None : goal.returns-in-None
returns-in-None c =
    term_lacking c.push_base64-in-None.result bytes_value c.args.self.now.terms c.args.value c.args.out.now.items
    c.push_base64-in-None.new.out.items (ap (λ (terms : List (List ℕ)). slice_get terms c.args.value) (sym c.dictionary.ensures) ∙ c.in-None.ensures) c.push_base64-in-None.ensures
