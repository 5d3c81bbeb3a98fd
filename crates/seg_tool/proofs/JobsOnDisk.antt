-- What the jobs leave of an output that had nothing, at any moment and once they are done.
use Rattle.std.proofs.Common.{◌≡◌, ℕ, List, [], Result, Ok, Err, IsTrue, sym, ap, subst, inl, inr, codes}
use Rattle.seg_values.specs.declared.error.TantivyError.{TantivyError}
use Rattle.seg_directory.specs.FileDisks.{FileDisk}
use Rattle.seg_directory.specs.Files.{NamedFiles}
use Rattle.seg_directory.specs.DirectoryStates.{DirectoryState, HasOnly, IsEmptyDisk, LeavesOnly}
use Rattle.seg_meta.specs.MetaSteps.{LoadsMetas}
use Rattle.seg_meta.specs.declared.index_meta.IndexMeta.{IndexMeta}
use Rattle.seg_model.specs.Fields.{Analyzer}
use Rattle.seg_model.specs.Input.{Input}
use Rattle.seg_model.specs.ValidInputs.{Known}
use Rattle.seg_segment.proofs.Exports.{Unchanged}
use Rattle.seg_index_build.specs.BuildOutcomes.{BuildComesTo}
use Rattle.seg_index_build.specs.FilesAfterCrash.{AreMergeOf, MayBeBuilt, MayBeMerged}
use Rattle.seg_index_build.specs.IndexFiles.{IsOutputIndexOf}
use Rattle.seg_index_build.specs.TwoDirectories.{Directories, goes_on, stops}
use Rattle.seg_generate.specs.GeneratedInput.{generated}
use Rattle.seg_tool.specs.InputIndexes.{BuildsText}
use Rattle.seg_tool.specs.Job.{HasNoIndex}
use Rattle.seg_tool.specs.Words.GenerateJob.{GeneratesText, not_generated, of_generated}
use Rattle.seg_tool.specs.Words.MergeJob.{IsMergeOfListed, MayBeMergeOf, MergesText, merge_of}
use Rattle.seg_tool.specs.declared.words.Detail.{Detail}
use Rattle.seg_tool.specs.declared.words.Detail.TheVariants.{Brief, Summary}
use Rattle.seg_tool.proofs.BuildLaws.{printed}
use Rattle.seg_tool.proofs.IndexLaws.{load_index, load_stays, tells_on}
use Rattle.seg_tool.proofs.JobSteps.{Merges, merges_listed}
use Rattle.seg_tool.proofs.OutputOnDisk.{leaves_still, leaves_weaker, still_empty, told_on}
use Rattle.seg_tool.proofs.ReadingOnDisk.{prints_keep}

-- ---- build

module _ (known : Known) (analyzer : Analyzer) (input : Input) (detail : Detail) (a : Directories) (told : IsTrue a.work.tells)
    (clean : IsEmptyDisk a.output.disk) where
  abbrev Left : DirectoryState → Type 0
  Left s = LeavesOnly (MayBeBuilt analyzer input) a.output.disk s.disk

  built_left : (metas : IndexMeta) (m : Directories) (s : DirectoryState) → BuildComesTo known analyzer input (Ok metas) a m → s ≡ m.output → Left s
  built_left metas m s built same = subst Left (sym same) (built.ends.any_moment told clean)

  -- what is printed of it changes nothing
  pub builds_leave : (r : Result (List ℕ) TantivyError) (b : Directories) → BuildsText known analyzer input detail r a b → Left b.output
  builds_leave r b (stops e is h) = h.ends.any_moment told clean
  builds_leave r b (goes_on metas m h (stops e is k)) = built_left metas m b.output h k.1
  builds_leave r b (goes_on metas m h (goes_on work n k l)) =
      let first = built_left metas m n.output h k.1 in
      let still = told_on (MayBeBuilt analyzer input) a.output.disk n.output.disk clean.told first in
      leaves_still (MayBeBuilt analyzer input) a.output.disk n.output.disk b.output.disk still first
      (prints_keep work (codes "output") detail r n.output b.output still l.0)

  pub builds_rest : (text : List ℕ) (b : Directories) → BuildsText known analyzer input detail (Ok text) a b
      → HasOnly (IsOutputIndexOf analyzer input) b.output.disk.now
  builds_rest text b builds =
      let p = printed known analyzer input detail text a b builds in
      let still = told_on (MayBeBuilt analyzer input) a.output.disk p.between.output.disk clean.told (p.built.ends.any_moment told clean) in
      let keeps = prints_keep p.work (codes "output") detail (Ok text) p.between.output b.output still p.in_output in
      subst (λ (d : FileDisk). HasOnly (IsOutputIndexOf analyzer input) d) (sym (keeps.after still)) (p.built.ends.at_rest told clean)

-- ---- generate

module _ (known : Known) (analyzer : Analyzer) (seed : ℕ) (a : Directories) (told : IsTrue a.work.tells)
    (clean : IsEmptyDisk a.output.disk) where
  pub generates_leave : (r : Result (List ℕ) TantivyError) (b : Directories) → GeneratesText known analyzer seed r a b
      → LeavesOnly (MayBeBuilt analyzer (generated seed)) a.output.disk b.output.disk
  generates_leave r b (not_generated is same) =
      still_empty (MayBeBuilt analyzer (generated seed)) (λ files none. inl none) a.output.disk b.output.disk
      (ap (λ (d : Directories). d.output.disk) same) clean
  generates_leave r b (of_generated builds) = builds_leave known analyzer (generated seed) Summary a told clean r b builds

  pub generates_rest : (text : List ℕ) (b : Directories) → GeneratesText known analyzer seed (Ok text) a b
      → HasOnly (IsOutputIndexOf analyzer (generated seed)) b.output.disk.now
  generates_rest text b (not_generated is same) = absurd (cc is)
  generates_rest text b (of_generated builds) = builds_rest known analyzer (generated seed) Summary a told clean text b builds

-- ---- merge

module _ (a : Directories) (told : IsTrue a.work.tells) (clean : IsEmptyDisk a.output.disk) where
  abbrev MergeLeft : DirectoryState → Type 0
  MergeLeft s = LeavesOnly (MayBeMergeOf a.work.files) a.output.disk s.disk

  none_may : (files : NamedFiles) → HasNoIndex files → MayBeMergeOf a.work.files files
  none_may files none = inl none

  not_merged : (b : Directories) → b.output ≡ a.output → MergeLeft b.output
  not_merged b same =
      still_empty (MayBeMergeOf a.work.files) none_may a.output.disk b.output.disk (ap (λ (s : DirectoryState). s.disk) same) clean

  -- a work index was read, and the segments that it lists are merged
  module _ (metas : IndexMeta) (m : Directories) (load : LoadsMetas (Ok metas) a.work m.work) (same : m.output ≡ a.output) where
    loaded : Unchanged a.work m.work
    loaded = load_stays a.work m.work (Ok metas) load

    told_loaded : IsTrue m.work.tells
    told_loaded = tells_on a.work m.work loaded told

    clean_loaded : IsEmptyDisk m.output.disk
    clean_loaded = subst (λ (s : DirectoryState). IsEmptyDisk s.disk) (sym same) clean

    -- what is so of their merge is so of that of the index in the work files
    of_listed : (P : NamedFiles → NamedFiles → Type 0) (files : NamedFiles) → P m.work.files files → P a.work.files files
    of_listed P files is = subst (λ (work : NamedFiles). P work files) loaded.files is

    merged_left : (q : Result IndexMeta TantivyError) (n : Directories) → Merges (merge_of metas) q m n → MergeLeft n.output
    merged_left q n merges =
        leaves_weaker (MayBeMerged (merge_of metas) m.work.files) (MayBeMergeOf a.work.files) a.output.disk n.output.disk
        (λ files may. inr (record {
          metas = metas;
          is_index = load_index a.work m.work metas told load;
          is_so = of_listed (MayBeMerged (merge_of metas)) files may;
        }))
        (subst (λ (s : DirectoryState). LeavesOnly (MayBeMerged (merge_of metas) m.work.files) s.disk n.output.disk) same
        (merges.any_moment told_loaded clean_loaded))

    merged_rest : (merged : IndexMeta) (n : Directories) → Merges (merge_of metas) (Ok merged) m n
        → HasOnly (IsMergeOfListed a.work.files) n.output.disk.now
    merged_rest merged n merges files image = record {
      metas = metas;
      is_index = load_index a.work m.work metas told load;
      is_so = of_listed (AreMergeOf (merge_of metas)) files (merges.at_rest told_loaded clean_loaded files image);
    }

  -- what is printed of it changes nothing
  pub merges_leave : (r : Result (List ℕ) TantivyError) (b : Directories) → MergesText r a b → MergeLeft b.output
  merges_leave r b (stops e is (stops d at l)) = not_merged b l.1
  merges_leave r b (stops e is (goes_on metas m l k)) =
      merged_left metas m l.0 l.1 (Err e) b (merges_listed metas (Err e) m b k)
  merges_leave r b (goes_on merged n (stops d at l) p) = absurd (cc at)
  merges_leave r b (goes_on merged n (goes_on metas m l k) p) =
      let first = merged_left metas m l.0 l.1 (Ok merged) n (merges_listed metas (Ok merged) m n k) in
      let still = told_on (MayBeMergeOf a.work.files) a.output.disk n.output.disk clean.told first in
      leaves_still (MayBeMergeOf a.work.files) a.output.disk n.output.disk b.output.disk still first
      (prints_keep [] (codes "output") Brief r n.output b.output still p.0)

  pub merges_rest : (text : List ℕ) (b : Directories) → MergesText (Ok text) a b → HasOnly (IsMergeOfListed a.work.files) b.output.disk.now
  merges_rest text b (stops e is w) = absurd (cc is)
  merges_rest text b (goes_on merged n (stops d at l) p) = absurd (cc at)
  merges_rest text b (goes_on merged n (goes_on metas m l k) p) =
      let first = merged_left metas m l.0 l.1 (Ok merged) n (merges_listed metas (Ok merged) m n k) in
      let still = told_on (MayBeMergeOf a.work.files) a.output.disk n.output.disk clean.told first in
      let keeps = prints_keep [] (codes "output") Brief (Ok text) n.output b.output still p.0 in
      subst (λ (d : FileDisk). HasOnly (IsMergeOfListed a.work.files) d) (sym (keeps.after still))
      (merged_rest metas m l.0 l.1 merged n (merges_listed metas (Ok merged) m n k))
