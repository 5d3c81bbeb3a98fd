-- Why a file is not opened.
use Rattle.std.proofs.Common.{◌≡◌, ℕ, List, Option, Some, Result, Ok, Err, IfErr, sym, ◌∙◌, subst}
use Rattle.std.specs.Prelude.{IsSomeAnd}
use Rattle.std.proofs.lemmas.Option.{same_Some}
use Rattle.seg_common.specs.declared.name.SegmentComponent.{SegmentComponent}
use Rattle.seg_model.specs.Fields.{Schema}
use Rattle.seg_directory.specs.CompositeFiles.{Part, field_of}
use Rattle.seg_postings.specs.CompletedPostings.{NoneComplete}
use Rattle.seg_postings.specs.OpenedFields.{FirstPart}
use Rattle.seg_open.specs.OpenedTermFiles.{IsTold, LacksPostings}
use Rattle.seg_open.specs.IndexedParts.{HaveIndexedParts}
use Rattle.seg_open.specs.declared.open_error.OpenError.{OpenError}
use Rattle.seg_open.specs.declared.open_error.OpenError.TheVariants.{Damaged, OutOfMemory}

pub told_else : (component : SegmentComponent) (A B : Type 0) → (A → B) → (e : OpenError) → IsTold component A e → IsTold component B e
told_else component A B f (Damaged c) h = (h.0, f h.1)
told_else component A B f OutOfMemory h = tt

-- what is told of the parts of a file is told of its bytes
pub with_table : {R : Type 0} (schema : Schema) (bytes : List ℕ) (parts : List Part) (has : HaveIndexedParts schema bytes parts) (component : SegmentComponent) (Reason : List Part → Type 0) (r : Result R OpenError)
    → IfErr r (IsTold component (Reason parts)) → IfErr r (IsTold component ((ps : List Part) → HaveIndexedParts schema bytes ps → Reason ps))
with_table schema bytes parts has component Reason (Ok x) h = tt
with_table schema bytes parts has component Reason (Err (Damaged c)) h = (h.0, λ ps file. subst Reason (same_Some parts ps (sym has.file ∙ file.file)) h.1)
with_table schema bytes parts has component Reason (Err OutOfMemory) h = tt

-- parts that are no postings of a copy of a dictionary are none of it
pub lacks_postings : (parts : List Part) (field : ℕ) (first copy : FirstPart) (bytes : List ℕ) → copy ≡ first → Some bytes ≡ field_of parts field → NoneComplete copy.rules copy.dictionary bytes → LacksPostings parts field first
lacks_postings parts field first copy bytes same is none part at =
    subst (λ (f : FirstPart). NoneComplete f.rules f.dictionary part) same
    (subst (λ (b : List ℕ). NoneComplete copy.rules copy.dictionary b) (same_Some bytes part (is ∙ at)) none)

-- what is lacked at a place where there is a value
pub some_lacks : {X : Type 0} (Lacks : ℕ → X → Type 0) (o : Option X) (x : X) (field place : ℕ) → o ≡ Some x → field ≡ place → Lacks field x → IsSomeAnd o (Lacks place)
some_lacks Lacks o x field place same at lacks = subst (λ p. IsSomeAnd p (Lacks place)) (sym same) (subst (λ k. Lacks k x) at lacks)
