-- The alive file of a segment, read.
use Rattle.std.proofs.Common.{◌≡◌, ◌∙◌, ℕ, Bool, true, false, List, [], ◌∷◌, length, Option, Some, None, Ok, Err, refl, sym, ap, arith}
use Rattle.std.specs.Prelude.{◌&&◌, ◌==◌, if◌then◌else◌, is_some, not, replicate}
use Rattle.std.specs.List.{count_by}
use Rattle.std.proofs.lemmas.Bool.Decides.{nat_tests}
use Rattle.std.proofs.lemmas.Bool.{and_parts, eqb-true}
use Rattle.std.proofs.lemmas.List.{length-replicate}
use Rattle.std.proofs.lemmas.Option.{none-some, same_Some}
use Rattle.seg_common.specs.declared.name.FileName.TheVariants.{Alive}
use Rattle.seg_values.specs.declared.error.TantivyError.{TantivyError}
use Rattle.seg_values.specs.declared.error.TantivyError.TheVariants.{DataCorruption}
use Rattle.seg_bits.specs.BitSets.{set_of}
use Rattle.seg_directory.proofs.Exports.{broke, stops, then_does, went}
use Rattle.seg_directory.specs.Calls.{read}
use Rattle.seg_directory.specs.DirectoryStates.{DirectoryState}
use Rattle.seg_directory.specs.DirectorySteps.{WorksFor, calls}
use Rattle.seg_meta.specs.IndexOfFiles.{Deletes}
use Rattle.seg_open.specs.OpeningSteps.{ReadsAlive, agreeing, alive_in, alive_damage}

-- ---- the set that bytes are

module _ (documents : ℕ) (d : Deletes) where
  abbrev given : Bool → List Bool → Option (List Bool)
  given t alive = if t then Some alive else None

  -- bytes of a set that agrees are it
  pub agrees : (bytes : List ℕ) (alive : List Bool) → set_of bytes ≡ Some alive → length alive ≡ documents
      → count_by not alive ≡ d.number → Some alive ≡ alive_in documents d bytes
  agrees bytes alive is size number =
      let same : (length alive == documents) ≡ true = grind (arith, nat_tests, size) in
      let also : (count_by not alive == d.number) ≡ true = grind (arith, nat_tests, number) in
      sym (ap (agreeing documents d) is ∙ ap (λ t. given (t && (count_by not alive == d.number)) alive) same ∙ ap (λ t. given t alive) also)

  given_so : (set alive : List Bool) (t : Bool) → ((length set == documents) && (count_by not set == d.number)) ≡ t
      → given t set ≡ Some alive → (Some set ≡ Some alive) × (length alive ≡ documents)
  given_so set alive true tests is =
      let size = eqb-true (length set) documents (and_parts (length set == documents) (count_by not set == d.number) tests).0 in
      (is, ap length (sym (same_Some set alive is)) ∙ size)
  given_so set alive false tests is = absurd (none-some alive is)

  agreeing_so : (o : Option (List Bool)) (alive : List Bool) → agreeing documents d o ≡ Some alive
      → (o ≡ Some alive) × (length alive ≡ documents)
  agreeing_so None alive is = absurd (none-some alive is)
  agreeing_so (Some set) alive is = given_so set alive _ refl is

  -- bytes that agree are such a set
  pub is_set : (bytes : List ℕ) (alive : List Bool) → alive_in documents d bytes ≡ Some alive
      → (set_of bytes ≡ Some alive) × (length alive ≡ documents)
  is_set bytes alive is = agreeing_so (set_of bytes) alive is

-- ---- the file

module _ (id documents : ℕ) (d : Deletes) where
  abbrev damage_by : Option (List Bool) → Option TantivyError
  damage_by o = if is_some o then None else Some (DataCorruption (Alive id d.stamp))

  pub undamaged : (bytes : List ℕ) (alive : List Bool) → Some alive ≡ alive_in documents d bytes
      → alive_damage id documents d bytes ≡ None
  undamaged bytes alive is = ap damage_by (sym is)

  module _ {a b : DirectoryState} where
    pub alive_unread : (e : TantivyError)
        → WorksFor {T = List ℕ} (λ bytes. calls (read (Alive id d.stamp) bytes) ∷ []) (Err e) a b
        → ReadsAlive id documents (Some d) (Err e) a b
    alive_unread e failed = record { bytes = failed.does.0; works = stops _ failed.does.1; is = tt }

    module _ (bytes : List ℕ)
        (first : WorksFor (λ bytes. calls (read (Alive id d.stamp) bytes) ∷ []) (Ok bytes) a b) where
      pub alive_told : (alive : List Bool) → Some alive ≡ alive_in documents d bytes
          → ReadsAlive id documents (Some d) (Ok alive) a b
      alive_told alive is =
          record { bytes = bytes; works = then_does first.does (went (undamaged bytes alive is, refl)); is = sym is }

      pub alive_damaged : None ≡ alive_in documents d bytes
          → ReadsAlive id documents (Some d) (Err (DataCorruption (Alive id d.stamp))) a b
      alive_damaged none =
          record { bytes = bytes; works = then_does first.does (broke (ap damage_by (sym none), refl)); is = tt }

-- as many marks are read as there are documents
pub as_many_read : (id documents : ℕ) (deletes : Option Deletes) (alive : List Bool) {a b : DirectoryState}
    → ReadsAlive id documents deletes (Ok alive) a b → length alive ≡ documents
as_many_read id documents None alive reads =
    ap length (sym (same_Some (replicate documents true) alive reads.is)) ∙ length-replicate documents true
as_many_read id documents (Some d) alive reads = (is_set documents d reads.bytes alive reads.is).1
