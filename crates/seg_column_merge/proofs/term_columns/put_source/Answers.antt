use Rattle.std.proofs.Common.{set, refl, sym, subst}
use Rattle.std.specs.Prelude.{Option}
use Rattle.seg_column_merge_parts.specs.TermSources.{AddsSource}
use Rattle.seg_column_merge_parts.specs.declared.tables.FileColumn.{FileColumn}
use Rattle.seg_column_merge.proofs.TermSourceSteps.{source_added}
use Rattle.seg_column_merge.proofs.term_columns.put_source.Goals as goal

pub returns : goal.returns
returns c =
    let old = c.args.sources.now.items in
    let column = c.in-Some.column in
    let ordinals = c.args.ordinals in
    subst (λ (o : Option FileColumn). AddsSource o ordinals.items old (set old column.file c.source_of.result))
    (sym c.in-Some.is)
    (source_added column ordinals.items ordinals old c.source_of.result refl c.uses_each.ensures c.source_of.ensures)
