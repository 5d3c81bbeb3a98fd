-- The files of other names.
use Rattle.std.proofs.Common.{◌≡◌, ℕ, List, Some, cond, refl, ◌∙◌}
use Rattle.std.specs.FinMap.{get, insert, get-insert}
use Rattle.std.specs.Ordering.{is_eq}
use Rattle.std.specs.declared.cmp.Ordering.TheVariants.{Less, Equal, Greater}
use Rattle.seg_common.specs.declared.name.FileName.{FileName}
use Rattle.seg_common.specs.FileNameKeys.{name_cmp, name_cmp_total, name_cmp_exact}
use Rattle.seg_directory.specs.Files.{NamedFiles}
use Rattle.seg_directory.specs.FileChanges.{KeepsOthers}

-- an insertion keeps the files of all other names
pub keeps_others : (files : NamedFiles) (name : FileName) (bytes : List ℕ) → KeepsOthers name files (insert files name bytes)
keeps_others files name bytes other apart =
    get-insert name_cmp_total files name bytes other
    ∙ elim (name_cmp other name) as (λ r. name_cmp other name ≡ r → cond (is_eq r) (Some bytes) (get files other) ≡ get files other) [
      | Less ↦ λ e. refl
      | Equal ↦ λ e. absurd (apart (name_cmp_exact other name e))
      | Greater ↦ λ e. refl
    ] refl
