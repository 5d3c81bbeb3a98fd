-- The statuses of errors.
use Rattle.std.proofs.Common.{◌≡◌, ◌≢◌, ◌∙◌, ℕ, List, Option, None, Some, Result, Ok, Err, refl, sym, subst}
use Rattle.std.specs.Prelude.{IfSome}
use Rattle.seg_values.specs.declared.error.TantivyError.{TantivyError}
use Rattle.seg_values.specs.declared.error.TantivyError.TheVariants.{SchemaError, InvalidArgument, IndexAlreadyExists, OpenReadError, OpenWriteError, IoError, DataCorruption, SystemError, FieldNotFound, OutOfMemory}
use Rattle.seg_model.specs.Fields.{Analyzer}
use Rattle.seg_model.specs.Input.{Input}
use Rattle.seg_model.specs.Refusals.{IfRefusal, IsRefusal}
use Rattle.seg_model.specs.ValidInputs.{Known, input_refusal}
use Rattle.seg_segment.specs.ReadErrors.{IsNoDamage, IsReadError}
use Rattle.seg_check.proofs.Exports.{first_is_refusal}
use Rattle.seg_index_build.specs.TwoDirectories.{Directories}
use Rattle.seg_tool.specs.Job.{IfReadOut, IsCaused, Job, JobDoes, StopsAs}
use Rattle.seg_tool.specs.Runs.{with_status}
use Rattle.seg_tool.specs.Statuses.{IfWritten, status_of}
use Rattle.seg_tool.specs.declared.status.Status.{Status}
use Rattle.seg_tool.specs.declared.status.Status.TheVariants.{Done, Words, Script, Refused, Exists, Directory, Damaged, Stream, Memory}

-- ---- kinds of statuses

-- one of an error
abbrev pub IsOfError : Status → Type 0
IsOfError Done = ⊥
IsOfError Words = ⊥
IsOfError Script = ⊥
IsOfError Stream = ⊥
IsOfError _ = Unit {0}

pub of_error : (e : TantivyError) → IsOfError (status_of e)
of_error (SchemaError cause) = tt
of_error (InvalidArgument cause) = tt
of_error IndexAlreadyExists = tt
of_error OpenReadError = tt
of_error OpenWriteError = tt
of_error IoError = tt
of_error (DataCorruption name) = tt
of_error SystemError = tt
of_error FieldNotFound = tt
of_error OutOfMemory = tt

pub when_written : (s : Status) (P : Type 0) → P → IfWritten s (λ _. P)
when_written (Exists e) P p = p
when_written (Directory e) P p = p
when_written (Damaged e) P p = p
when_written Done P p = tt
when_written Words P p = tt
when_written Script P p = tt
when_written (Refused e) P p = tt
when_written Stream P p = tt
when_written Memory P p = tt

-- ---- of errors

-- only files that are there are told as such
pub exists_only : (e x : TantivyError) → status_of e ≡ Exists x → (e ≡ IndexAlreadyExists → ⊥) → ⊥
exists_only IndexAlreadyExists x is not = not refl
exists_only (SchemaError cause) x is not = cc is
exists_only (InvalidArgument cause) x is not = cc is
exists_only OpenReadError x is not = cc is
exists_only OpenWriteError x is not = cc is
exists_only IoError x is not = cc is
exists_only (DataCorruption name) x is not = cc is
exists_only SystemError x is not = cc is
exists_only FieldNotFound x is not = cc is
exists_only OutOfMemory x is not = cc is

-- no damage is told where there is none
pub undamaged_as : (e x : TantivyError) → status_of e ≡ Damaged x → IsNoDamage e → ⊥
undamaged_as (DataCorruption other) x is h = h
undamaged_as (SchemaError cause) x is h = cc is
undamaged_as (InvalidArgument cause) x is h = cc is
undamaged_as IndexAlreadyExists x is h = cc is
undamaged_as OpenReadError x is h = cc is
undamaged_as OpenWriteError x is h = cc is
undamaged_as IoError x is h = cc is
undamaged_as SystemError x is h = cc is
undamaged_as FieldNotFound x is h = cc is
undamaged_as OutOfMemory x is h = cc is

-- each first error is a refusal's
status_is : (e : TantivyError) → IsRefusal e → status_of e ≡ Refused e
status_is (SchemaError cause) h = refl
status_is (InvalidArgument cause) h = refl
status_is IndexAlreadyExists h = absurd h
status_is OpenReadError h = absurd h
status_is OpenWriteError h = absurd h
status_is IoError h = absurd h
status_is (DataCorruption name) h = absurd h
status_is SystemError h = absurd h
status_is FieldNotFound h = absurd h
status_is OutOfMemory h = absurd h

pub first_statuses : (known : Known) (analyzer : Analyzer) (input : Input) → IfSome (input_refusal known analyzer input) (λ x. status_of x ≡ Refused x)
first_statuses known analyzer input = by (input_refusal known analyzer input) refl
  where
    by : (o : Option TantivyError) → input_refusal known analyzer input ≡ o → IfSome o (λ x. status_of x ≡ Refused x)
    by None is = tt
    by (Some x) is = status_is x (first_is_refusal known analyzer input x is)

-- Memory is the status of out of memory alone, among errors without these two
pub memory_only : (P : TantivyError → Type 0) → (P SystemError → ⊥) → (P FieldNotFound → ⊥) → (e : TantivyError) → P e
    → status_of e ≡ Memory → e ≡ OutOfMemory
memory_only P system field OutOfMemory p is = refl
memory_only P system field SystemError p is = absurd (system p)
memory_only P system field FieldNotFound p is = absurd (field p)
memory_only P system field (SchemaError cause) p is = absurd (cc is)
memory_only P system field (InvalidArgument cause) p is = absurd (cc is)
memory_only P system field IndexAlreadyExists p is = absurd (cc is)
memory_only P system field OpenReadError p is = absurd (cc is)
memory_only P system field OpenWriteError p is = absurd (cc is)
memory_only P system field IoError p is = absurd (cc is)
memory_only P system field (DataCorruption name) p is = absurd (cc is)

-- and where files are read that are not damaged, by a directory that doesn't fail
pub memory_left : (e : TantivyError) → IsReadError e → IsNoDamage e → e ≢ OpenReadError → status_of e ≡ Memory
memory_left OutOfMemory h k not = refl
memory_left OpenReadError h k not = absurd (not refl)
memory_left (DataCorruption name) h k not = absurd k
memory_left (SchemaError cause) h k not = absurd h
memory_left (InvalidArgument cause) h k not = absurd h
memory_left IndexAlreadyExists h k not = absurd h
memory_left OpenWriteError h k not = absurd h
memory_left IoError h k not = absurd h
memory_left SystemError h k not = absurd h
memory_left FieldNotFound h k not = absurd h

pub refusal_then : (P Q : TantivyError → Type 0) (e : TantivyError) → ((x : TantivyError) → P x → Q x) → IfRefusal P e → IfRefusal Q e
refusal_then P Q (SchemaError cause) f h = f (SchemaError cause) h
refusal_then P Q (InvalidArgument cause) f h = f (InvalidArgument cause) h
refusal_then P Q IndexAlreadyExists f h = tt
refusal_then P Q OpenReadError f h = tt
refusal_then P Q OpenWriteError f h = tt
refusal_then P Q IoError f h = tt
refusal_then P Q (DataCorruption name) f h = tt
refusal_then P Q SystemError f h = tt
refusal_then P Q FieldNotFound f h = tt
refusal_then P Q OutOfMemory f h = tt

pub refusal_any : (P : Type 0) (e : TantivyError) → P → IfRefusal (λ _. P) e
refusal_any P (SchemaError cause) h = h
refusal_any P (InvalidArgument cause) h = h
refusal_any P IndexAlreadyExists h = tt
refusal_any P OpenReadError h = tt
refusal_any P OpenWriteError h = tt
refusal_any P IoError h = tt
refusal_any P (DataCorruption name) h = tt
refusal_any P SystemError h = tt
refusal_any P FieldNotFound h = tt
refusal_any P OutOfMemory h = tt

-- the cause of a refusal is one of the word's
pub caused_as : (job : Job) (a b : Directories) (e : TantivyError) → IfRefusal (job.Refuses a b) e → IsCaused job (status_of e) a b
caused_as job a b (SchemaError cause) h = h
caused_as job a b (InvalidArgument cause) h = h
caused_as job a b IndexAlreadyExists h = tt
caused_as job a b OpenReadError h = tt
caused_as job a b OpenWriteError h = tt
caused_as job a b IoError h = tt
caused_as job a b (DataCorruption name) h = tt
caused_as job a b SystemError h = tt
caused_as job a b FieldNotFound h = tt
caused_as job a b OutOfMemory h = tt

pub read_out : (s : Status) (P : Type 0) → P → IfReadOut s P
read_out Done P p = p
read_out (Refused e) P p = p
read_out (Exists e) P p = p
read_out (Directory e) P p = p
read_out (Damaged e) P p = p
read_out Words P p = tt
read_out Script P p = tt
read_out Stream P p = tt
read_out Memory P p = tt

-- what a job does, by the status of its error
module _ (does : Result (List ℕ) TantivyError → Directories → Directories → Type 0) (a b : Directories) where
  stops_as : (s : Status) → IsOfError s → StopsAs does s a b → JobDoes does s a b
  stops_as (Refused e) of h = h
  stops_as (Exists e) of h = h
  stops_as (Directory e) of h = h
  stops_as (Damaged e) of h = h
  stops_as Memory of h = h
  stops_as Done of h = absurd of
  stops_as Words of h = absurd of
  stops_as Script of h = absurd of
  stops_as Stream of h = absurd of

  pub job_as : (s : Status) (e : TantivyError) → s ≡ status_of e → (status_of e ≡ Memory → e ≡ OutOfMemory)
      → does (Err e) a b → JobDoes does s a b
  job_as s e is starved h =
      stops_as s (subst IsOfError (sym is) (of_error e))
      (record { error = e; is_its = is; starved = λ at. starved (sym is ∙ at); stops = h })

-- ---- results with statuses

failing : (T : Type 0) → Status → Result T Status
failing T s = Err s

-- an answer is one of a job
pub answer_of : {T : Type 0} (x : T) (r : Result T TantivyError) → Ok x ≡ with_status r → r ≡ Ok x
answer_of x (Ok y) is = sym (cc is)
answer_of x (Err e) is = absurd (cc is)

-- and a status that of an error
pub data IsErrorOf {T : Type 0} (s : Status) (r : Result T TantivyError) : Type 0 where
  is_error : (e : TantivyError) → r ≡ Err e → s ≡ status_of e → IsErrorOf s r

pub error_of : {T : Type 0} (s : Status) (r : Result T TantivyError) → Err s ≡ with_status r → IsErrorOf s r
error_of s (Ok x) is = absurd (cc is)
error_of s (Err e) is = is_error e refl (cc is)
