-- What the filling of a work index adds to the answers of its directory: that its files were written, and nothing read.
use Rattle.std.proofs.Common.{◌≡◌, ◌∙◌, ℕ, Bool, true, false, cond, List, [], ◌∷◌, ◌++◌, length, Option, Some, None, refl, ap, arith}
use Rattle.std.specs.Prelude.{◌&&◌, ◌||◌, is_some, nat_eq, not}
use Rattle.std.specs.List.{count_by, list_all, list_any}
use Rattle.std.proofs.lemmas.Bool.{eq-eqb}
use Rattle.seg_common.specs.declared.name.FileName.TheVariants.{Alive}
use Rattle.seg_values.specs.declared.error.TantivyError.{TantivyError}
use Rattle.seg_directory.specs.DirectorySteps.{Step, all_told}
use Rattle.seg_meta.specs.IndexOfFiles as index
use Rattle.seg_meta.specs.IndexOfFiles.{Deletes}
use Rattle.seg_model.specs.Fields.{Schema}
use Rattle.seg_model.specs.Input.{Settings}
use Rattle.seg_segment.specs.declared.segment_files.SegmentFiles.{SegmentFiles}
use Rattle.seg_batches.specs.AliveFiles.{alive_step}
use Rattle.seg_batches.specs.WrittenSegments.{WrittenSegment, deletes_of}
use Rattle.seg_batches.specs.BatchWriteSteps.{batches_steps}
use Rattle.seg_index_build.specs.TakenBatches.{was_written}
use Rattle.seg_index_build.specs.WorkIndexSteps.{finish_steps}
use Rattle.seg_index_build.specs.IndexWriteSteps.{begin_steps}
use Rattle.seg_index_build.proofs.LastReads.{ReadNothing}

-- ---- the index is begun

pub begin_reads : (settings : Settings) (schema : Schema) → ReadNothing (all_told (begin_steps settings schema))
begin_reads settings schema = (tt, (tt, tt))

pub begin_writes : (settings : Settings) (schema : Schema) (id stamp : ℕ)
    → was_written (Alive id stamp) (all_told (begin_steps settings schema)) ≡ false
begin_writes settings schema id stamp = refl

-- ---- the six files of each segment

pub batches_read : (ids : List ℕ) (causes : List (Option TantivyError)) (files : List SegmentFiles) (more : List Step)
    → ReadNothing (all_told more) → ReadNothing (all_told (batches_steps ids causes files ++ more))
batches_read [] causes files more h = h
batches_read (id ∷ ids) [] files more h = h
batches_read (id ∷ ids) (cause ∷ causes) [] more h = h
batches_read (id ∷ ids) (cause ∷ causes) (f ∷ files) more h =
    (tt, (tt, (tt, (tt, (tt, (tt, batches_read ids causes files more h))))))

pub batches_write : (id stamp : ℕ) (ids : List ℕ) (causes : List (Option TantivyError)) (files : List SegmentFiles)
    (more : List Step) → was_written (Alive id stamp) (all_told (batches_steps ids causes files ++ more))
    ≡ was_written (Alive id stamp) (all_told more)
batches_write id stamp [] causes files more = refl
batches_write id stamp (other ∷ ids) [] files more = refl
batches_write id stamp (other ∷ ids) (cause ∷ causes) [] more = refl
batches_write id stamp (other ∷ ids) (cause ∷ causes) (f ∷ files) more = batches_write id stamp ids causes files more

-- ---- the alive files, and the meta

module _ (stamp : ℕ) where
  step_reads : (id : ℕ) (deletes : Option Deletes) (bytes : List ℕ) (more : List Step) → ReadNothing (all_told more)
      → ReadNothing (all_told (alive_step id deletes bytes ++ more))
  step_reads id None bytes more h = h
  step_reads id (Some d) bytes more h = (tt, h)

  -- whether the alive file of an id is written
  abbrev pub is_written : ℕ → WrittenSegment → Bool
  is_written id s = is_some (deletes_of stamp s.alive) && nat_eq id s.id

  abbrev removed : ℕ → Deletes
  removed number = record { number = number; stamp = stamp }

  step_writes : (id other number : ℕ) (t : Bool) (bytes : List ℕ) (more : List Step)
      → was_written (Alive id stamp) (all_told (alive_step other (cond t None (Some (removed number))) bytes ++ more))
      ≡ ((is_some (cond t None (Some (removed number))) && nat_eq id other) || was_written (Alive id stamp) (all_told more))
  step_writes id other number true bytes more = refl
  step_writes id other number false bytes more =
      ap (λ b. (b && nat_eq id other) || was_written (Alive id stamp) (all_told more)) (eq-eqb stamp stamp refl)

  module _ (meta : index.Meta) where
    pub finish_reads : (alive : List (List ℕ)) (segments : List WrittenSegment) → length alive ≡ length segments
        → ReadNothing (all_told (finish_steps meta stamp alive segments))
    finish_reads [] [] many = (tt, tt)
    finish_reads [] (s ∷ segments) many = absurd (omega (arith, many))
    finish_reads (bytes ∷ alive) [] many = absurd (omega (arith, many))
    finish_reads (bytes ∷ alive) (s ∷ segments) many =
        step_reads s.id (deletes_of stamp s.alive) bytes (finish_steps meta stamp alive segments)
        (finish_reads alive segments (omega (arith, many)))

    pub finish_writes : (id : ℕ) (alive : List (List ℕ)) (segments : List WrittenSegment) → length alive ≡ length segments
        → was_written (Alive id stamp) (all_told (finish_steps meta stamp alive segments)) ≡ list_any (is_written id) segments
    finish_writes id [] [] many = refl
    finish_writes id [] (s ∷ segments) many = absurd (omega (arith, many))
    finish_writes id (bytes ∷ alive) [] many = absurd (omega (arith, many))
    finish_writes id (bytes ∷ alive) (s ∷ segments) many =
        step_writes id s.id (count_by not s.alive) (list_all (λ b. b) s.alive) bytes
        (finish_steps meta stamp alive segments)
        ∙ ap (λ b. is_written id s || b) (finish_writes id alive segments (omega (arith, many)))
