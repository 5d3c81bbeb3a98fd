-- The opening of a segment changes no image.
use Rattle.std.proofs.Common.{ℕ, List, Option, Some, None, Result, IsTrue}
use Rattle.seg_directory.proofs.Exports.{AllCalls, OnlyReads, keeps_disk}
use Rattle.seg_directory.specs.DiskChanges.{KeepsDisk}
use Rattle.seg_directory.specs.DirectoryStates.{DirectoryState}
use Rattle.seg_values.specs.declared.error.TantivyError.{TantivyError}
use Rattle.seg_meta.specs.IndexOfFiles.{Deletes}
use Rattle.seg_meta.specs.Metas.{SegmentParts}
use Rattle.seg_open.specs.OpenSegment.{OpenSegment}
use Rattle.seg_open.specs.OpeningSteps.{Asked, Found, Opens, alive_steps, segment_steps}

alive_only : (id documents : ℕ) (deletes : Option Deletes) (bytes : List ℕ) → AllCalls OnlyReads (alive_steps id documents deletes bytes)
alive_only id documents None bytes = tt
alive_only id documents (Some d) bytes = (tt, tt)

pub segment_only : (s : SegmentParts) (found : Found) → AllCalls OnlyReads (segment_steps s found)
segment_only s found = (tt, (tt, (tt, (tt, (tt, (tt, alive_only s.meta.id s.meta.documents s.meta.deletes found.alive_file))))))

pub opening_on_disk : (a : Asked) (r : Result OpenSegment TantivyError) {x y : DirectoryState} → IsTrue x.disk.told → Opens a r x y → KeepsDisk x.disk y.disk
opening_on_disk a r told opens = keeps_disk (segment_steps a.segment opens.found) r (segment_only a.segment opens.found) told opens.works
