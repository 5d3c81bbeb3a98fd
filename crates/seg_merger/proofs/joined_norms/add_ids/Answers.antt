use Rattle.std.proofs.Common.{sym, ap, ◌∙◌}
use Rattle.seg_directory.specs.CompositeFiles.{field_of}
use Rattle.seg_merger.proofs.JoinedNorms.{no_ids}
use Rattle.seg_merger.proofs.joined_norms.add_ids.Goals as goal

pub returns-in_default : goal.returns-in_default
returns-in_default c =
    let part = c.args.part.now in
    no_ids c.args.field part c.args.ids.now.items (sym (ap (λ ps. field_of ps c.args.field) c.fieldnorms_readers.ensures) ∙ sym c.get_field.ensures ∙ c.in_default.is)
