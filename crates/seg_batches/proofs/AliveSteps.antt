-- The alive file of a segment, made or not wanted.
use Rattle.std.proofs.Common.{◌≡◌, ◌∙◌, ℕ, Bool, List, [], ◌∷◌, ◌++◌, length, Option, Some, None, Result, Ok, Err, refl, sym, ap, subst}
use Rattle.std.specs.Prelude.{OnOk}
use Rattle.seg_common.specs.declared.name.FileName.TheVariants.{Alive}
use Rattle.seg_values.specs.declared.error.TantivyError.{TantivyError}
use Rattle.seg_values.specs.declared.error.TantivyError.TheVariants.{OutOfMemory}
use Rattle.seg_directory.specs.Calls.{made}
use Rattle.seg_directory.specs.DirectoryStates.{DirectoryState}
use Rattle.seg_directory.specs.DirectorySteps.{Works, calls}
use Rattle.seg_bits.specs.BitSets.{set_of}
use Rattle.seg_meta.specs.IndexOfFiles.{Deletes}
use Rattle.seg_batches.specs.AliveFiles.{TellMarks, WritesAlive, alive_step}
use Rattle.seg_batches.specs.WrittenSegments.{WrittenSegment, deletes_of}

module _ (stamp : ℕ) (s : WrittenSegment) where
  -- without deletes there is no file
  pub not_wanted : (a : DirectoryState) → deletes_of stamp s.alive ≡ None
      → WritesAlive {T = Unit {0}} stamp (s ∷ []) (Ok tt) a a
  not_wanted a none = record {
    files = [] ∷ [];
    tell = (subst (TellMarks [] s.documents s.alive) (sym none) tt, tt);
    whole = refl;
    works = subst (λ (d : Option Deletes). Works {T = Unit {0}} (alive_step s.id d [] ++ []) (Ok tt) a a) (sym none) (record { on = (refl, tt) });
  }

  -- before its bytes are made there may be no memory
  pub starved : (a : DirectoryState) → WritesAlive {T = Unit {0}} stamp (s ∷ []) (Err OutOfMemory) a a
  starved a = record { files = []; tell = tt; whole = tt; works = record { on = (refl, refl) } }

  -- with deletes there is a file, whose bytes tell
  pub wanted : (named number : ℕ) (file bytes : List ℕ) (set : List Bool) (r : Result (Unit {0}) TantivyError) (a b : DirectoryState)
      → named ≡ s.id → deletes_of stamp s.alive ≡ Some (record { number = number; stamp = stamp })
      → file ≡ bytes → set_of bytes ≡ Some set → set ≡ s.alive → length set ≡ s.documents → Works (calls (made (Alive named stamp) file) ∷ []) r a b → WritesAlive stamp (s ∷ []) r a b
  wanted named number file bytes set r a b same some is holds of counted works = record {
    files = file ∷ [];
    tell = (subst (TellMarks file s.documents s.alive) (sym some) (ap set_of is ∙ holds ∙ ap (λ (l : List Bool). Some l) of, sym (ap length of) ∙ counted), tt);
    whole = on_ok r;
    works = subst (λ (d : Option Deletes). Works (alive_step s.id d file ++ []) r a b) (sym some) (subst (λ i. Works (calls (made (Alive i stamp) file) ∷ []) r a b) same works);
  }
    where
      on_ok : (x : Result (Unit {0}) TantivyError) → OnOk x (length (file ∷ []) ≡ length (s ∷ []))
      on_ok (Ok y) = refl
      on_ok (Err e) = tt
