use Rattle.std.proofs.Common.{◌++◌, List, ℕ, ap, sym, ◌∙◌, append-nil}
use Rattle.std.specs.List.{flat_map}
use Rattle.seg_column_file.specs.ColumnFiles.{NamedColumn}
use Rattle.seg_text.proofs.FileOrder.{file_lines, line}
use Rattle.seg_text.proofs.columns.push_columns.Goals as goal

pub returns : goal.returns
returns c =
    sym (append-nil c.loop-path.out.items)
    ∙ ap (λ (cs : List NamedColumn). c.loop-path.out.items ++ flat_map line cs) (sym c.in-None.ensures.steps.0)
    ∙ c.loop-path.invariant.all
    ∙ ap (λ (l : List ℕ). c.args.out.now.items ++ l)
    (sym (file_lines c.args.columns.now c.are_of_a_file.ensures))
