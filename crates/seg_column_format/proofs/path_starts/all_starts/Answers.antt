use Rattle.std.proofs.Common.{◌+◌, ◌++◌, ◌∙◌, List, ℕ, Some, drop, sym, ap, arith}
use Rattle.std.proofs.lemmas.Option.{slice_get-get_or}
use Rattle.seg_column_format.proofs.FieldStarts.{all_told, one_more, starts_of}
use Rattle.seg_column_format.proofs.path_starts.all_starts.Goals as goal

pub loop-entry-preserved : goal.loop-entry-preserved
loop-entry-preserved c =
    ap (λ (l : List (List ℕ)). l ++ starts_of (drop (c.loop-entry.entry-index + 1) c.args.schema.now)) c.in_ok-add_field.ensures
    ∙ (one_more c.loop-entry.starts.items c.args.schema.now c.loop-entry.entry-index c.entry-item.result
    (slice_get-get_or c.args.schema.now c.loop-entry.entry-index c.entry-item.result c.loop-entry-test.true
    ∙ ap Some (sym c.entry-item.is))
    ∙ c.loop-entry.invariant)

pub returns : goal.returns
returns c = all_told c.args.schema.now c.loop-entry.starts.items c.loop-entry.entry-index
    (omega (arith, c.loop-entry-test.false)) c.loop-entry.invariant
