-- What a run of `build` took of the batches, as the answers of the work directory tell it.
use Rattle.std.specs.Prelude.{List, [], ◌∷◌, Bool, false, if◌then◌else◌}
use Rattle.std.specs.List.{list_any}
use Rattle.seg_common.specs.declared.name.FileName.TheVariants.{Meta}
use Rattle.seg_directory.specs.declared.answer.Answer.{Answer}
use Rattle.seg_directory.specs.declared.answer.Answer.TheVariants as answer
use Rattle.seg_index_build.specs.TakenBatches.{same_name}

-- whether an answer gives the bytes of the meta
abbrev pub reads_meta : Answer → Bool
reads_meta (answer.Read name bytes) = same_name name Meta
reads_meta _ = false

-- the answers that came before the meta was last read; all, where it never was
abbrev pub before_meta : List Answer → List Answer
before_meta [] = []
before_meta (a ∷ answers) =
    if list_any reads_meta answers then a ∷ before_meta answers
    else (if reads_meta a then [] else a ∷ before_meta answers)
