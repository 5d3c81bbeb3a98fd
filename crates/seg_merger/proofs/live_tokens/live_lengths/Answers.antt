use Rattle.std.proofs.Common.{sym, ap, ◌∙◌, map, min, ◌-◌}
use Rattle.std.specs.Prelude.{sum}
use Rattle.seg_directory.specs.CompositeFiles.{field_of}
use Rattle.seg_model.specs.Norms.{length_of_id}
use Rattle.seg_model.specs.Operations.{kept}
use Rattle.seg_merger.proofs.JoinedTotals.{ids_many, ids_none, ids_there}
use Rattle.seg_merger.proofs.KeptLists.{kept_of_none}
use Rattle.seg_merger.proofs.live_tokens.live_lengths.Goals as goal

pub sum_of_lengths-requires : goal.sum_of_lengths-requires
sum_of_lengths-requires c =
    let at = sym (ap (λ ps. field_of ps c.args.field) c.fieldnorms_readers.ensures) ∙ sym c.get_field.ensures ∙ c.in-Some.is in
    ids_many c.args.part.now c.args.field c.requires c.contents_have_full_shape.ensures c.in-Some.norms at

pub returns-in-Some : goal.returns-in-Some
returns-in-Some c =
    let at = sym (ap (λ ps. field_of ps c.args.field) c.fieldnorms_readers.ensures) ∙ sym c.get_field.ensures ∙ c.in-Some.is in
    c.sum_of_lengths.ensures ∙ ap (λ ids. min 18446744073709551615 (sum (map length_of_id (kept c.args.part.now.alive ids)))) (sym (ids_there c.args.part.now c.args.field c.requires c.in-Some.norms at))

pub returns-in-None : goal.returns-in-None
returns-in-None c =
    let at = sym (ap (λ ps. field_of ps c.args.field) c.fieldnorms_readers.ensures) ∙ sym c.get_field.ensures ∙ c.in-None.is in
    sym (ap (λ ids. min 18446744073709551615 (sum (map length_of_id ids))) (kept_of_none c.args.part.now.alive _ (ids_none c.args.part.now c.args.field c.requires at)))
