-- Where the writing of both indexes ends, with each directory by itself.
use Rattle.std.proofs.Common.{◌≡◌, List, Result, Ok, Err, sym, subst}
use Rattle.seg_segment.proofs.Exports.{failing, same_error}
use Rattle.seg_values.specs.declared.error.TantivyError.{TantivyError}
use Rattle.seg_directory.proofs.Exports.{answers}
use Rattle.seg_directory.specs.DirectoryStates.{DirectoryState}
use Rattle.seg_directory.specs.DirectorySteps.{Works}
use Rattle.seg_model.specs.Fields.{Analyzer}
use Rattle.seg_model.specs.Input.{Input}
use Rattle.seg_open.specs.OpenSegment.{OpenSegment}
use Rattle.seg_index_build.specs.DirectoryCalls.{BeginsIndexes, FillsWork, WritesIndexes, lists_none, merge_of}
use Rattle.seg_index_build.specs.IndexFiles.{work_ids}
use Rattle.seg_index_build.specs.TwoDirectories.{Directories, both, stops, goes_on}
use Rattle.seg_index_build.specs.IndexWriteSteps.{begin_steps}
use Rattle.seg_index_build.proofs.FilledIndex.{filled_as}
use Rattle.seg_index_build.proofs.MergeTurns.{MergeExits, Merged, merge_exits, merged}

module _ (analyzer : Analyzer) (input : Input) where
  abbrev pub Lists : Result (Unit {0}) TantivyError → DirectoryState → DirectoryState → Type 0
  Lists end a b = Works lists_none end a b

  abbrev pub Begins : Result (Unit {0}) TantivyError → DirectoryState → DirectoryState → Type 0
  Begins end a b = Works (begin_steps input.settings input.schema) end a b

  abbrev pub Fills : Result (Unit {0}) TantivyError → DirectoryState → DirectoryState → Type 0
  Fills end a b = FillsWork analyzer input end a b

  -- ---- what went well before

  -- neither directory has a file, and the work index is begun
  pub record Begun (a : Directories) (w o : DirectoryState) : Type 0 where
    pub listed_at : DirectoryState
    pub lists : Lists (Ok tt) a.work listed_at
    pub begins : Begins (Ok tt) listed_at w
    pub lists_output : Lists (Ok tt) a.output o

  -- and it is filled
  pub record Filled (a : Directories) (w o : DirectoryState) : Type 0 where
    pub begun_at : DirectoryState
    pub begun : Begun a begun_at o
    pub fills : Fills (Ok tt) begun_at w

  -- ---- all went well

  pub record Wrote (a b : Directories) : Type 0 where
    pub between : Directories
    pub filled : Filled a between.work between.output
    pub opened : List OpenSegment
    pub merged : Merged (merge_of analyzer input) opened between b

  begun_of : (t : Unit {0}) (a b : Directories) → BeginsIndexes input.settings input.schema (Ok t) a b
      → Begun a b.work b.output
  begun_of t a b (stops e is h) = absurd (cc is)
  begun_of t a b (goes_on u m h (stops e is k)) = absurd (cc is)
  begun_of t a b (goes_on u m h (goes_on v n k l)) = record {
    listed_at = n.work;
    lists = subst (λ (s : DirectoryState). Lists (Ok tt) a.work s) (sym k.1) (answers h.0);
    begins = answers l.0;
    lists_output =
        subst (λ (s : DirectoryState). Lists (Ok tt) a.output s) (sym l.1)
        (subst (λ (s : DirectoryState). Lists (Ok tt) s n.output) h.1 (answers k.0));
  }

  filled_of : (u : Unit {0}) (a m b : Directories) → Begun a m.work m.output → Fills (Ok u) m.work b.work
      → b.output ≡ m.output → Filled a b.work b.output
  filled_of u a m b begun fills same = record {
    begun_at = m.work;
    begun = subst (λ (s : DirectoryState). Begun a m.work s) (sym same) begun;
    fills =
        filled_as input.settings input.schema analyzer (work_ids input.ids) input.cuts input.operations u tt m.work
        b.work fills;
  }

  -- the same, by what the calls said
  pub filled_so_far : {S : Type 0} (u : Unit {0}) (x : S) (a : Directories) (w o v : DirectoryState)
      → BeginsIndexes input.settings input.schema (Ok u) a (both w o) → FillsWork analyzer input (Ok x) w v → Filled a v o
  filled_so_far u x a w o v begins fills = record {
    begun_at = w;
    begun = begun_of u a (both w o) begins;
    fills =
        filled_as input.settings input.schema analyzer (work_ids input.ids) input.cuts input.operations x tt w v fills;
  }

  pub wrote : {T : Type 0} (x : T) (a b : Directories) → WritesIndexes analyzer input (Ok x) a b → Wrote a b
  wrote x a b (stops e is h) = absurd (cc is)
  wrote x a b (goes_on u m h (stops e is k)) = absurd (cc is)
  wrote x a b (goes_on u m h (goes_on v n k merges)) =
      let w = merged (merge_of analyzer input) x n b merges in
      record { between = n; filled = filled_of v a m n (begun_of u a m h) k.0 k.1; opened = w.0; merged = w.1 }

  -- ---- where it ends

  pub data Exits (e : TantivyError) (a b : Directories) : Type 0 where
    in_listing : Lists (Err e) a.work b.work → Exits e a b
    in_output_listing : Lists (Err e) a.output b.output → Exits e a b
    in_beginning : (w : DirectoryState) → Lists (Ok tt) a.work w → Begins (Err e) w b.work → Exits e a b
    in_filling : (w o : DirectoryState) → Begun a w o → Fills (Err e) w b.work → Exits e a b
    in_merging : (between : Directories) → Filled a between.work between.output
        → MergeExits (merge_of analyzer input) e between b → Exits e a b

  exit_as : (T : Type 0) (e d : TantivyError) (a b : Directories) → failing T e ≡ failing T d → Exits d a b
      → Exits e a b
  exit_as T e d a b is exit = subst (λ (x : TantivyError). Exits x a b) (sym (same_error T e d is)) exit

  begin_exits : (e : TantivyError) (a b : Directories)
      → BeginsIndexes {T = Unit {0}} input.settings input.schema (Err e) a b → Exits e a b
  begin_exits e a b (stops d is h) = exit_as (Unit {0}) e d a b is (in_listing h.0)
  begin_exits e a b (goes_on u m h (stops d is k)) =
      exit_as (Unit {0}) e d a b is
      (in_output_listing (subst (λ (s : DirectoryState). Lists (Err d) s b.output) h.1 k.0))
  begin_exits e a b (goes_on u m h (goes_on v n k l)) =
      in_beginning n.work (subst (λ (s : DirectoryState). Lists (Ok tt) a.work s) (sym k.1) (answers h.0)) l.0

  pub exits : (T : Type 0) (e : TantivyError) (a b : Directories) → WritesIndexes {T = T} analyzer input (Err e) a b
      → Exits e a b
  exits T e a b (stops d is h) = exit_as T e d a b is (begin_exits d a b h)
  exits T e a b (goes_on u m h (stops d is k)) =
      exit_as T e d a b is (in_filling m.work m.output (begun_of u a m h) k.0)
  exits T e a b (goes_on u m h (goes_on v n k merges)) =
      in_merging n (filled_of v a m n (begun_of u a m h) k.0 k.1)
      (merge_exits (merge_of analyzer input) T e n b merges)
