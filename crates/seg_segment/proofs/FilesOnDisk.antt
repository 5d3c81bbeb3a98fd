-- What the making of a segment's files leaves of the others on the disk.
use Rattle.std.proofs.Common.{◌≡◌, ℕ, Result, IsTrue, refl, sym, subst}
use Rattle.seg_common.specs.declared.name.SegmentComponent.TheVariants.{Terms, Postings, Positions, Store, FastFields, FieldNorms}
use Rattle.seg_directory.proofs.Exports.{keeps_names, started}
use Rattle.seg_directory.specs.DiskRuns.{KeepsOnDisk}
use Rattle.seg_directory.specs.DirectoryStates.{DirectoryState}
use Rattle.seg_directory.specs.DirectorySteps.{Works}
use Rattle.seg_values.specs.declared.error.TantivyError.{TantivyError}
use Rattle.seg_segment.specs.SegmentFiles.{IsOtherName, write_steps}
use Rattle.seg_segment.specs.SegmentSerializers.{Closes, Serializing, makes, starves}
use Rattle.seg_segment.specs.declared.segment_files.SegmentFiles.{SegmentFiles}

-- the six files are made
pub others_on_disk : {T : Type 0} (id : ℕ) (files : SegmentFiles) (r : Result T TantivyError) {a b : DirectoryState} → IsTrue a.disk.told
    → Works (write_steps id files) r a b → KeepsOnDisk (IsOtherName id) a.disk b.disk
others_on_disk id files r told works =
    keeps_names (IsOtherName id) (write_steps id files) r (
      (λ name is. is FieldNorms),
      ((λ name is. is FastFields), ((λ name is. is Terms), ((λ name is. is Postings), ((λ name is. is Positions), ((λ name is. is Store), tt))))),
    ) told works

-- nothing is done
pub none_on_disk : (id : ℕ) {a b : DirectoryState} → b ≡ a → KeepsOnDisk (IsOtherName id) a.disk b.disk
none_on_disk id {a = a} same =
    subst (λ (s : DirectoryState). KeepsOnDisk (IsOtherName id) a.disk s.disk) (sym same) (record { during = started a.disk; after = λ name state is. refl })

-- a serializer is closed
pub closing_on_disk : {T : Type 0} (s : Serializing) (r : Result T TantivyError) {a b : DirectoryState} → IsTrue a.disk.told → Closes s r a b
    → KeepsOnDisk (IsOtherName s.segment.meta.id) a.disk b.disk
closing_on_disk s r told (starves is same) = none_on_disk s.segment.meta.id same
closing_on_disk s r told (makes files laid works) = others_on_disk s.segment.meta.id files r told works
