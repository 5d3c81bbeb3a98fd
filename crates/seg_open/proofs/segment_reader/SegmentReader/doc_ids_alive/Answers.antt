use Rattle.std.proofs.Common.{◌∙◌, Bool, List, Option, ap, sym}
use Rattle.seg_bits.specs.BitSets.{numbers_from}
use Rattle.seg_open.specs.OpenSegment.{OpenSegment, alive_of}
use Rattle.seg_open.proofs.DocumentMarks.{all_numbers}
use Rattle.seg_open.proofs.segment_reader.SegmentReader.doc_ids_alive.Goals as goal

pub returns-in-None : goal.returns-in-None
returns-in-None c =
    c.all.ensures ∙ sym (all_numbers c.self.inside.max_doc)
    ∙ ap (λ (o : Option (List Bool)). numbers_from 0 (alive_of c.self.inside.max_doc o)) (sym c.in-None.is)
    ∙ ap (λ (s : OpenSegment). numbers_from 0 s.alive) c.self.view_is
