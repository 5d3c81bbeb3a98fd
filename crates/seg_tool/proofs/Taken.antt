-- What was taken of the batches is told by the answers before the meta was last read: the text is read back from there on.
use Rattle.std.proofs.Common.{◌≡◌, ◌∙◌, ℕ, true, false, cond, List, [], ◌∷◌, ◌++◌, append_assoc, Option, Some, None, Ok, IsTrue, refl, sym, ap, subst, codes}
use Rattle.std.specs.Prelude.{◌||◌}
use Rattle.std.specs.List.{list_any}
use Rattle.std.proofs.lemmas.Bool.{or_from}
use Rattle.std.proofs.lemmas.List.Folds.{list_any-append}
use Rattle.std.proofs.Math.Bool.{or-true}
use Rattle.seg_index_build.specs.MergedIndices.{listed_segments}
use Rattle.seg_common.specs.declared.name.FileName.TheVariants.{Meta}
use Rattle.seg_directory.proofs.Exports.{all_went}
use Rattle.seg_directory.specs.Files.{NamedFiles}
use Rattle.seg_directory.specs.DirectoryStates.{DirectoryState}
use Rattle.seg_directory.specs.DirectorySteps.{all_told}
use Rattle.seg_directory.specs.declared.answer.Answer.{Answer}
use Rattle.seg_directory.specs.declared.answer.Answer.TheVariants as answer
use Rattle.seg_meta.specs.IndexOfFiles.{Deletes}
use Rattle.seg_model.specs.Fields.{Analyzer}
use Rattle.seg_model.specs.Input.{Input}
use Rattle.seg_model.specs.ValidInputs.{Known}
use Rattle.seg_open.specs.OpeningSteps.{Asked, Found, alive_steps, all_steps, segment_steps}
use Rattle.seg_index_build.specs.TakenBatches.{HoldsTaken, gained}
use Rattle.seg_index_build.specs.TwoDirectories.{Directories}
use Rattle.seg_index_build.proofs.Exports.{builds_seen, gained_as, told_both}
use Rattle.seg_tool.specs.PrintedIndex.{PrintsIndex, all_of, fails, loaded, not_loaded, reads}
use Rattle.seg_tool.specs.Printing.{opening}
use Rattle.seg_tool.specs.Taken.{before_meta, reads_meta}
use Rattle.seg_tool.specs.declared.words.Detail.{Detail}
use Rattle.seg_tool.proofs.BuildLaws.{Printed, output_stays}

-- ---- answers among which the meta is read

module _ (bytes : List ℕ) (rest : List Answer) where
  abbrev from_meta : List Answer
  from_meta = answer.Read Meta bytes ∷ rest

  has_meta : (front : List Answer) → list_any reads_meta (front ++ from_meta) ≡ true
  has_meta [] = refl
  has_meta (x ∷ front) = ap (λ b. reads_meta x || b) (has_meta front) ∙ or-true (reads_meta x)

  -- what came before its last reading
  front_is : list_any reads_meta rest ≡ false → (front : List Answer) → before_meta (front ++ from_meta) ≡ front
  front_is none [] = ap (λ b. cond b (answer.Read Meta bytes ∷ before_meta rest) []) none
  front_is none (x ∷ front) =
      ap
      (λ b. cond b (x ∷ before_meta (front ++ from_meta)) (cond (reads_meta x) [] (x ∷ before_meta (front ++ from_meta))))
      (has_meta front)
      ∙ ap (λ l. x ∷ l) (front_is none front)

-- ---- the opening of segments doesn't read it

module _ (id documents : ℕ) (bytes : List ℕ) where
  no_alive : (deletes : Option Deletes) → list_any reads_meta (all_told (alive_steps id documents deletes bytes)) ≡ false
  no_alive None = refl
  no_alive (Some d) = refl

no_one : (a : Asked) (f : Found) → list_any reads_meta (all_told (segment_steps a.segment f)) ≡ false
no_one a f = no_alive a.segment.meta.id a.segment.meta.documents f.alive_file a.segment.meta.deletes

no_meta : (asked : List Asked) (found : List Found) → list_any reads_meta (all_told (all_steps asked found)) ≡ false
no_meta [] found = refl
no_meta (a ∷ asked) [] = refl
no_meta (a ∷ asked) (f ∷ found) =
    ap (list_any reads_meta) (told_both (segment_steps a.segment f) (all_steps asked found))
    ∙ list_any-append reads_meta (all_told (segment_steps a.segment f)) (all_told (all_steps asked found))
    ∙ or_from (list_any reads_meta (all_told (segment_steps a.segment f)))
    (list_any reads_meta (all_told (all_steps asked found))) (no_one a f) (no_meta asked found)

-- ---- an index is printed

-- the meta is read, and not again
record ReadsBack (a b : DirectoryState) : Type 0 where
  pub bytes : List ℕ
  pub rest : List Answer
  pub seen : b.seen ≡ a.seen ++ answer.Read Meta bytes ∷ rest
  pub once : list_any reads_meta rest ≡ false

module _ (front label : List ℕ) (detail : Detail) (a b : DirectoryState) (text : List ℕ) where
  reads_back : PrintsIndex front label detail (Ok text) a b → ReadsBack a b
  reads_back (not_loaded e is load) = absurd (cc is)
  reads_back (loaded metas m load (fails e is h)) = absurd (cc is)
  reads_back (loaded metas m load (reads opened is h)) =
      let opening : List Answer = all_told (all_steps (all_of (listed_segments metas)) h.found) in
      record {
        bytes = load.bytes;
        rest = opening;
        seen =
            (all_went h.works).seen ∙ ap (λ l. l ++ opening) (all_went load.from_bytes.works).seen
            ∙ append_assoc a.seen (answer.Read Meta load.bytes ∷ []) opening;
        once = no_meta (all_of (listed_segments metas)) h.found;
      }

-- ---- both indexes are written and printed

module _ (known : Known) (analyzer : Analyzer) (input : Input) (detail : Detail) (text : List ℕ) (a b : Directories)
    (p : Printed known analyzer input detail text a b) where
  back : ReadsBack p.between.work b.work
  back = reads_back (opening detail) (codes "work") detail p.between.work b.work p.work p.in_work

  abbrev of_building : List Answer
  of_building = gained a.work.seen p.between.work.seen

  all_gained : gained a.work.seen b.work.seen ≡ of_building ++ answer.Read Meta back.bytes ∷ back.rest
  all_gained =
      gained_as a.work.seen b.work.seen (of_building ++ answer.Read Meta back.bytes ∷ back.rest)
      (back.seen
      ∙ ap (λ l. l ++ answer.Read Meta back.bytes ∷ back.rest)
      (builds_seen p.metas known analyzer input a p.between p.built.calls)
      ∙ append_assoc a.work.seen of_building (answer.Read Meta back.bytes ∷ back.rest))

  answers_are : before_meta (gained a.work.seen b.work.seen) ≡ of_building
  answers_are = ap before_meta all_gained ∙ front_is back.bytes back.rest back.once of_building

  -- where an output directory tells its files, it holds what was taken
  pub printed_taken : IsTrue a.output.tells
      → HoldsTaken analyzer input (before_meta (gained a.work.seen b.work.seen)) b.output.files
  printed_taken told =
      subst (λ (answers : List Answer). HoldsTaken analyzer input answers b.output.files) (sym answers_are)
      (subst (λ (files : NamedFiles). HoldsTaken analyzer input of_building files)
      (sym (output_stays known analyzer input detail text a b p))
      (p.built.ends.reads told))
