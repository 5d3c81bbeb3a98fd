-- A segment of which nothing is deleted has no alive file.
use Rattle.std.proofs.Common.{◌≡◌, ◌≢◌, ◌∙◌, ℕ, Bool, true, false, cond, List, [], ◌∷◌, ◌++◌, None, Some, sym, ap, inl, inr}
use Rattle.std.specs.Prelude.{◌⊎◌, not}
use Rattle.std.specs.FinMap.{get, len, empty_of_len, get-empty}
use Rattle.std.specs.List.{AllByRecursion, count_by, list_all}
use Rattle.std.proofs.lemmas.Bool.{false≢true}
use Rattle.seg_common.specs.FileNameKeys.{name_cmp}
use Rattle.seg_common.specs.declared.name.FileName.TheVariants.{Alive, Meta}
use Rattle.seg_common.proofs.Lists.{all_both, all_weaker}
use Rattle.seg_directory.specs.Files.{NamedFiles}
use Rattle.seg_meta.specs.IndexOfFiles.{Deletes}
use Rattle.seg_segment.specs.SegmentFiles.{KeepsAllBut}
use Rattle.seg_batches.specs.WrittenSegments.{WrittenSegment, alive_file, alive_files, all_listed, deletes_of, six_files}
use Rattle.seg_index_build.specs.OtherFiles.{LacksAlive}
use Rattle.seg_index_build.proofs.DistinctLists.{Apart, all_two}
use Rattle.seg_index_build.proofs.FillSteps.{alive-not-meta, none_of_six}

-- nothing of a segment is deleted, or it has another id
abbrev IsOther : ℕ → WrittenSegment → Type 0
IsOther id t = (list_all (λ b. b) t.alive ≡ true) ⊎ (t.id ≢ id)

module _ (stamp : ℕ) where
  abbrev removed : ℕ → Deletes
  removed number = record { number = number; stamp = stamp }

  one_other : (id at other number : ℕ) (t : Bool) → (t ≡ true) ⊎ (other ≢ id)
      → AllByRecursion (λ name. Alive id at ≢ name) (alive_file other (cond t None (Some (removed number))))
  one_other id at other number true h = tt
  one_other id at other number false (inl is) = absurd (false≢true is)
  one_other id at other number false (inr ne) = ((λ is. ne (cc is)), tt)

  no_alive : (id at : ℕ) (segments : List WrittenSegment) → AllByRecursion (IsOther id) segments
      → AllByRecursion (λ name. Alive id at ≢ name) (alive_files (all_listed stamp segments))
  no_alive id at [] h = tt
  no_alive id at (t ∷ segments) h =
      all_both (λ name. Alive id at ≢ name) (alive_file t.id (deletes_of stamp t.alive))
      (alive_files (all_listed stamp segments))
      (one_other id at t.id (count_by not t.alive) (list_all (λ b. b) t.alive) h.0) (no_alive id at segments h.1)

  all_other : (segments : List WrittenSegment) → Apart (λ (s : WrittenSegment). s.id) segments
      → AllByRecursion (λ s. list_all (λ b. b) s.alive ≡ true → AllByRecursion (IsOther s.id) segments) segments
  all_other [] apart = tt
  all_other (x ∷ segments) apart = (
    (λ none. (inl none, all_weaker (λ (t : WrittenSegment). t.id ≢ x.id) (IsOther x.id) (λ t ne. inr ne) segments apart.0)),
    all_two (λ (s : WrittenSegment). s.id ≢ x.id)
        (λ (s : WrittenSegment). list_all (λ b. b) s.alive ≡ true → AllByRecursion (IsOther s.id) segments)
        (λ (s : WrittenSegment). list_all (λ b. b) s.alive ≡ true → AllByRecursion (IsOther s.id) (x ∷ segments))
        (λ s ne rest none. (inr (λ is. ne (sym is)), rest none)) segments apart.0 (all_other segments apart.1),
  )

  -- in a directory that had no file
  pub none_alive : (ids : List ℕ) (segments : List WrittenSegment) (old new : NamedFiles)
      → Apart (λ (s : WrittenSegment). s.id) segments → len old ≡ 0
      → KeepsAllBut (Meta ∷ (six_files ids ++ alive_files (all_listed stamp segments))) old new
      → AllByRecursion (LacksAlive new) segments
  none_alive ids segments old new apart none kept =
      all_weaker (λ (s : WrittenSegment). list_all (λ b. b) s.alive ≡ true → AllByRecursion (IsOther s.id) segments)
      (LacksAlive new) absent segments (all_other segments apart)
    where
      absent : (s : WrittenSegment)
          → (list_all (λ b. b) s.alive ≡ true → AllByRecursion (IsOther s.id) segments) → LacksAlive new s
      absent s others all at =
          kept (Alive s.id at) (
            alive-not-meta s.id at,
            all_both (λ name. Alive s.id at ≢ name) (six_files ids) (alive_files (all_listed stamp segments))
                (none_of_six s.id at ids) (no_alive s.id at segments (others all)),
          )
          ∙ ap (λ (fs : NamedFiles). get fs (Alive s.id at)) (empty_of_len old none) ∙ get-empty name_cmp (Alive s.id at)
