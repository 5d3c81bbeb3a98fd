-- Names of files that are apart, and files that stay absent.
use Rattle.std.proofs.Common.{◌≢◌, ◌∙◌, List, [], ◌∷◌}
use Rattle.std.specs.List.{AllByRecursion}
use Rattle.seg_common.specs.declared.name.FileName.{FileName}
use Rattle.seg_directory.specs.Files.{NamedFiles}
use Rattle.seg_segment.specs.SegmentFiles.{AreAbsent, KeepsAllBut}

-- each of these names differs from each of those
abbrev pub AreApart : List FileName → List FileName → Type 0
AreApart names others = AllByRecursion (λ name. AllByRecursion (λ other. name ≢ other) others) names

-- what is absent stays so where names that are apart are made
pub still_absent : (names made : List FileName) (old new : NamedFiles) → AreApart names made → KeepsAllBut made old new
    → AreAbsent names old → AreAbsent names new
still_absent [] made old new apart kept none = tt
still_absent (name ∷ names) made old new apart kept none =
    (kept name apart.0 ∙ none.0, still_absent names made old new apart.1 kept none.1)
