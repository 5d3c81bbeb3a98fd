-- What the writing and printing of both indexes comes to.
use Rattle.std.proofs.Common.{◌≡◌, ◌≢◌, ◌≤◌, ◌∙◌, ℕ, List, Some, Ok, Err, IsTrue, refl, sym, ap, subst, inl, inr, codes, arith}
use Rattle.std.specs.Prelude.{◌⊎◌, IfSome}
use Rattle.std.proofs.lemmas.Option.{MatchOption-from_none}
use Rattle.seg_common.specs.FaultCounts.{Rose}
use Rattle.seg_values.specs.declared.error.TantivyError.{TantivyError}
use Rattle.seg_values.specs.declared.error.TantivyError.TheVariants.{SchemaError, InvalidArgument, IndexAlreadyExists, OpenReadError, OpenWriteError, IoError, DataCorruption, SystemError, FieldNotFound, OutOfMemory}
use Rattle.seg_directory.specs.Files.{NamedFiles}
use Rattle.seg_directory.specs.DirectoryStates.{DirectoryState}
use Rattle.seg_meta.specs.declared.index_meta.IndexMeta.{IndexMeta}
use Rattle.seg_model.specs.Fields.{Analyzer}
use Rattle.seg_model.specs.Input.{Input}
use Rattle.seg_model.specs.Refusals.{IfRefusal, batches_error, build_refusal}
use Rattle.seg_model.specs.ValidInputs.{Known, input_refusal}
use Rattle.seg_segment.specs.Laws.{HoldsOneContents}
use Rattle.seg_segment.specs.ReadErrors.{IsNoDamage, IsReadError}
use Rattle.seg_index_build.specs.BuildOutcomes.{AreEmpty, BuildComesTo, IsWhyUntold}
use Rattle.seg_index_build.specs.IndexFiles.{IsMergedIndexOf, IsOutputIndexOf, IsWorkIndexOf}
use Rattle.seg_index_build.specs.OtherFiles.{Stays}
use Rattle.seg_index_build.specs.TwoDirectories.{Directories, goes_on, stops}
use Rattle.seg_index_build.proofs.Exports.{IsBuildError, RoseIn, read_unrefused}
use Rattle.seg_tool.specs.IndexTexts.{build_text}
use Rattle.seg_tool.specs.InputIndexes.{BuildsText}
use Rattle.seg_tool.specs.PrintedIndex.{PrintsIndex}
use Rattle.seg_tool.specs.Printing.{opening}
use Rattle.seg_tool.specs.declared.words.Detail.{Detail}
use Rattle.seg_tool.proofs.IndexLaws.{prints_rose, prints_so, prints_stay, prints_told, prints_undamaged}
use Rattle.seg_tool.proofs.ReadText.{both_read, output_whole, work_whole}
use Rattle.seg_tool.proofs.StatusLaws.{refusal_any}
use Rattle.seg_tool.proofs.Steady.{BothSteady, Steady, builds_steady}

tells_as : (a b : DirectoryState) → Steady a b → IsTrue a.tells → IsTrue b.tells
tells_as a b h told = subst (λ t. IsTrue t) (sym h.tells) told

rose_between : (a b c d : ℕ) → a ≤ b → Rose b c → c ≤ d → Rose a d
rose_between a b c d first rose last = omega (arith, first, rose, last)

-- the meta of the output
built_meta : (known : Known) (analyzer : Analyzer) (input : Input) (metas : IndexMeta) (a b : Directories)
    → BuildComesTo known analyzer input (Ok metas) a b → IsTrue a.output.tells → (documents : ℕ) × IsMergedIndexOf input documents b.output.files
built_meta known analyzer input metas a b h told = (h.ends.counted.0, (h.ends.in_output told).index_of ∙ ap Some h.ends.counted.1)

-- ---- errors of reading

pub read_exists : (e : TantivyError) → IsReadError e → e ≢ IndexAlreadyExists
read_exists e h is = subst IsReadError is h

error_as : (e : TantivyError) (a b : Directories) → IsReadError e → (e ≡ OpenReadError → RoseIn a b) → IsBuildError e a b
error_as OpenReadError a b h rose = rose refl
error_as (DataCorruption name) a b h rose = tt
error_as OutOfMemory a b h rose = tt
error_as (SchemaError cause) a b h rose = absurd h
error_as (InvalidArgument cause) a b h rose = absurd h
error_as IndexAlreadyExists a b h rose = absurd h
error_as OpenWriteError a b h rose = absurd h
error_as IoError a b h rose = absurd h
error_as SystemError a b h rose = absurd h
error_as FieldNotFound a b h rose = absurd h

module _ (known : Known) (analyzer : Analyzer) (input : Input) (detail : Detail) where
  -- ---- both were printed

  pub record Printed (text : List ℕ) (a b : Directories) : Type 0 where
    pub metas : IndexMeta
    pub between : Directories
    pub built : BuildComesTo known analyzer input (Ok metas) a between
    pub work : List ℕ
    pub in_work : PrintsIndex (opening detail) (codes "work") detail (Ok work) between.work b.work
    pub in_output : PrintsIndex work (codes "output") detail (Ok text) between.output b.output

  pub printed : (text : List ℕ) (a b : Directories) → BuildsText known analyzer input detail (Ok text) a b → Printed text a b
  printed text a b (stops e is h) = absurd (cc is)
  printed text a b (goes_on metas m h (stops e is k)) = absurd (cc is)
  printed text a b (goes_on metas m h (goes_on work n k l)) = record {
    metas = metas;
    between = m;
    built = h;
    work = work;
    in_work = subst (λ (s : DirectoryState). PrintsIndex (opening detail) (codes "work") detail (Ok work) m.work s) (sym l.1) k.0;
    in_output = subst (λ (s : DirectoryState). PrintsIndex work (codes "output") detail (Ok text) s b.output) k.1 l.0;
  }

  module _ (a m : Directories) (metas : IndexMeta) (built : BuildComesTo known analyzer input (Ok metas) a m) where
    steady : BothSteady a m
    steady = builds_steady known analyzer input (Ok metas) a m built.calls

    told_work : IsTrue a.work.tells → IsTrue m.work.tells
    told_work told = tells_as a.work m.work steady.work told

    told_output : IsTrue a.output.tells → IsTrue m.output.tells
    told_output told = tells_as a.output m.output steady.output told

  module _ (law : HoldsOneContents) (text : List ℕ) (a b : Directories) (p : Printed text a b) where
    pub printed_text : IsTrue a.work.tells → IsTrue a.output.tells → text ≡ build_text detail analyzer input
    printed_text told told_out =
        both_read law detail analyzer input p.between.work.files p.between.output.files p.work text
        (prints_told (opening detail) (codes "work") detail p.between.work b.work p.work (told_work a p.between p.metas p.built told) p.in_work)
        (prints_told p.work (codes "output") detail p.between.output b.output text (told_output a p.between p.metas p.built told_out) p.in_output)
        ((p.built.ends.in_work told).index) ((p.built.ends.in_work told).output_index told_out)

  module _ (text : List ℕ) (a b : Directories) (p : Printed text a b) where
    pub work_stays : b.work.files ≡ p.between.work.files
    work_stays = (prints_stay (opening detail) (codes "work") detail p.between.work b.work (Ok p.work) p.in_work).files

    pub output_stays : b.output.files ≡ p.between.output.files
    output_stays = (prints_stay p.work (codes "output") detail p.between.output b.output (Ok text) p.in_output).files

    pub printed_work : IsTrue a.work.tells → IsWorkIndexOf analyzer input b.work.files
    printed_work told = subst (λ (files : NamedFiles). IsWorkIndexOf analyzer input files) (sym work_stays) ((p.built.ends.in_work told).index)

    pub printed_output : IsTrue a.work.tells → IsTrue a.output.tells → IsOutputIndexOf analyzer input b.output.files
    printed_output told told_out = subst (λ (files : NamedFiles). IsOutputIndexOf analyzer input files) (sym output_stays) ((p.built.ends.in_work told).output_index told_out)

    pub printed_meta : IsTrue a.output.tells → (documents : ℕ) × IsMergedIndexOf input documents b.output.files
    printed_meta told =
        subst (λ (files : NamedFiles). (documents : ℕ) × IsMergedIndexOf input documents files) (sym output_stays) (built_meta known analyzer input p.metas a p.between p.built told)

  -- ---- or it ends with an error

  pub data NotPrinted (e : TantivyError) (a b : Directories) : Type 0 where
    in_building : BuildComesTo known analyzer input (Err e) a b → NotPrinted e a b
    in_work : (metas : IndexMeta) (m : Directories) → BuildComesTo known analyzer input (Ok metas) a m
        → PrintsIndex (opening detail) (codes "work") detail (Err e) m.work b.work → b.output ≡ m.output → NotPrinted e a b
    in_output : (metas : IndexMeta) (m : Directories) (work : List ℕ) → BuildComesTo known analyzer input (Ok metas) a m
        → PrintsIndex (opening detail) (codes "work") detail (Ok work) m.work b.work
        → PrintsIndex work (codes "output") detail (Err e) m.output b.output → NotPrinted e a b

  pub not_printed : (e : TantivyError) (a b : Directories) → BuildsText known analyzer input detail (Err e) a b → NotPrinted e a b
  not_printed e a b (stops d is h) = in_building (subst (λ (x : TantivyError). BuildComesTo known analyzer input (Err x) a b) (sym (cc is)) h)
  not_printed e a b (goes_on metas m h (stops d is k)) =
      in_work metas m h (subst (λ (x : TantivyError). PrintsIndex (opening detail) (codes "work") detail (Err x) m.work b.work) (sym (cc is)) k.0) k.1
  not_printed e a b (goes_on metas m h (goes_on work n k l)) =
      in_output metas m work h
      (subst (λ (s : DirectoryState). PrintsIndex (opening detail) (codes "work") detail (Ok work) m.work s) (sym l.1) k.0)
      (subst (λ (s : DirectoryState). PrintsIndex work (codes "output") detail (Err e) s b.output) k.1 l.0)

  module _ (e : TantivyError) (a b : Directories) where
    -- an error of reading back
    ends_so : NotPrinted e a b → BuildComesTo known analyzer input (Err e) a b ⊎ IsReadError e
    ends_so (in_building h) = inl h
    ends_so (in_work metas m built k same) = inr (prints_so (opening detail) (codes "work") detail m.work b.work e k)
    ends_so (in_output metas m work built k l) = inr (prints_so work (codes "output") detail m.output b.output e l)

    pub not_first : NotPrinted e a b → IfSome (input_refusal known analyzer input) (λ first. ((e ≡ first) ⊎ (e ≡ OutOfMemory)) × (b ≡ a))
    not_first (in_building h) = h.ends.first
    not_first (in_work metas m built k same) = MatchOption-from_none (input_refusal known analyzer input) _ built.ends.admitted
    not_first (in_output metas m work built k l) = MatchOption-from_none (input_refusal known analyzer input) _ built.ends.admitted

    -- where both directories tell their files, reading back finds no damage
    reads_so : IsTrue a.work.tells → IsTrue a.output.tells → NotPrinted e a b → BuildComesTo known analyzer input (Err e) a b ⊎ (IsReadError e × IsNoDamage e)
    reads_so told told_out (in_building h) = inl h
    reads_so told told_out (in_work metas m built k same) =
        let is = (built.ends.in_work told).index in
        let tells = told_work a m metas built told in
        inr (
          prints_so (opening detail) (codes "work") detail m.work b.work e k,
          prints_undamaged (opening detail) (codes "work") detail m.work b.work _ tells is.index_of e (work_whole analyzer input m.work.files is) k,
        )
    reads_so told told_out (in_output metas m work built k l) =
        let is = (built.ends.in_work told).output_index told_out in
        let tells = told_output a m metas built told_out in
        inr (
          prints_so work (codes "output") detail m.output b.output e l,
          prints_undamaged work (codes "output") detail m.output b.output _ tells is.index_of e (output_whole analyzer input m.output.files is) l,
        )

    pub not_refused : IsTrue a.work.tells → NotPrinted e a b → IfRefusal (λ x. build_refusal known analyzer input ≡ Some x) e
    not_refused told h = elim (ends_so h) [
      | inl built ↦ built.ends.refused told
      | inr so ↦ read_unrefused (λ x. build_refusal known analyzer input ≡ Some x) e so
    ]

    -- why it is refused where they need not tell
    pub not_untold : NotPrinted e a b → IfRefusal (IsWhyUntold known analyzer input) e
    not_untold h = elim (ends_so h) [
      | inl built ↦ built.ends.untold
      | inr so ↦ read_unrefused (IsWhyUntold known analyzer input) e so
    ]

    -- where a batch is refused, the output is as it was
    pub not_merged : NotPrinted e a b
        → IfRefusal (λ _. IfSome (batches_error input.schema analyzer 0 input.cuts input.operations) (λ _. Stays a.output b.output)) e
    not_merged h = elim (ends_so h) [
      | inl built ↦ refusal_any (IfSome (batches_error input.schema analyzer 0 input.cuts input.operations) (λ _. Stays a.output b.output)) e built.ends.batch_refused
      | inr so ↦ read_unrefused (λ _. IfSome (batches_error input.schema analyzer 0 input.cuts input.operations) (λ _. Stays a.output b.output)) e so
    ]

    pub not_fresh : AreEmpty a → NotPrinted e a b → e ≢ IndexAlreadyExists
    not_fresh empty h = elim (ends_so h) [
      | inl built ↦ built.ends.fresh empty
      | inr so ↦ read_exists e so
    ]

    pub not_damaged : IsTrue a.work.tells → IsTrue a.output.tells → NotPrinted e a b → IsNoDamage e
    not_damaged told told_out h = elim (reads_so told told_out h) [
      | inl built ↦ built.ends.whole told
      | inr so ↦ so.1
    ]

    -- with which errors it ends
    pub not_error : NotPrinted e a b → IsBuildError e a b
    not_error (in_building h) = h.ends.errors
    not_error (in_work metas m built k same) =
        error_as e a b (prints_so (opening detail) (codes "work") detail m.work b.work e k)
        (λ is. inl (rose_between a.work.faults m.work.faults b.work.faults b.work.faults (steady a m metas built).work.later
        (prints_rose (opening detail) (codes "work") detail m.work b.work (subst (λ (x : TantivyError). PrintsIndex (opening detail) (codes "work") detail (Err x) m.work b.work) is k)) (omega arith)))
    not_error (in_output metas m work built k l) =
        error_as e a b (prints_so work (codes "output") detail m.output b.output e l)
        (λ is. inr (rose_between a.output.faults m.output.faults b.output.faults b.output.faults (steady a m metas built).output.later
        (prints_rose work (codes "output") detail m.output b.output (subst (λ (x : TantivyError). PrintsIndex work (codes "output") detail (Err x) m.output b.output) is l)) (omega arith)))
