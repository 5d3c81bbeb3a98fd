use Rattle.std.proofs.Common.{◌+◌, ◌*◌, length, ap, ◌∙◌}
use Rattle.seg_store.specs.Checkpoints.{stored_size}
use Rattle.seg_store.proofs.DocumentPlaces.{file_size}
use Rattle.seg_store.proofs.store_reader.StoreReader.space_usage.Goals as goal

pub returns : goal.returns
returns c = c.len.ensures ∙ file_size c.self.inside.bytes c.self.invariant ∙ ap (λ bs. stored_size bs + 12 * length bs + 9) c.self.view_is
