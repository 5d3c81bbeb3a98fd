use Rattle.std.proofs.Common.{ap, ◌∙◌}
use Rattle.std.specs.Prelude.{Some}
use Rattle.seg_directory.proofs.CompositeWriterParts.{written}
use Rattle.seg_directory.proofs.written_parts.WrittenParts.close.Goals as goal

pub returns : goal.returns
returns c =
    let w = written c.self.inside.body.items c.self.inside.table.items c.self.inside.count c.self.invariant in
    rw (c.in_ok-put_u32.ensures.ok, c.in_ok-extend_from_slice.ensures.items, c.deref.ensures.value) (w ∙ ap Some c.self.view_is)
