-- What follows from steps with a directory that all went well.
use Rattle.std.proofs.Common.{◌≡◌, ◌++◌, List, [], ◌∷◌, Ok, IsTrue, Option, None, ◌≤◌, inl, inr, ap, sym, ◌∙◌, subst, append_assoc, arith}
use Rattle.std.proofs.lemmas.List.{append-nil}
use Rattle.seg_values.specs.declared.error.TantivyError.{TantivyError}
use Rattle.seg_values.specs.declared.error.TantivyError.TheVariants.{OutOfMemory}
use Rattle.seg_directory.specs.DirectoryStates.{DirectoryState}
use Rattle.seg_directory.specs.Calls.{Call, Goes, told}
use Rattle.seg_directory.specs.StepSequences.{GoesOn}
use Rattle.seg_directory.specs.DirectorySteps.{Step, calls, passes, StepGoes, StepBreaks, Works, all_told, all_files_after, AllSuit, AllWent}

none_went : (a b : DirectoryState) → b ≡ a → AllWent [] a b
none_went a b same = record {
  seen = ap (λ s. s.seen) same ∙ sym (append-nil a.seen);
  files = λ told. ap (λ s. s.files) same;
  suits = λ told. tt;
  tells = ap (λ s. s.tells) same;
  later = subst (λ (s : DirectoryState). a.faults ≤ s.faults) (sym same) (omega arith);
}

one_call_more : (call : Call) (steps : List Step) (a b c : DirectoryState) → Goes call a b → AllWent steps b c → AllWent (calls call ∷ steps) a c
one_call_more call steps a b c first next = record {
  seen = next.seen ∙ ap (λ xs. xs ++ all_told steps) first.seen ∙ append_assoc a.seen (told call) (all_told steps);
  files = λ it_tells. next.files (subst (λ t. IsTrue t) (sym first.tells) it_tells) ∙ ap (all_files_after steps) (first.files it_tells);
  suits = λ it_tells. (first.suits it_tells, subst (AllSuit steps) (first.files it_tells) (next.suits (subst (λ t. IsTrue t) (sym first.tells) it_tells)));
  tells = next.tells ∙ first.tells;
  later = omega (arith, first.later, next.later);
}

one_test_more : (refusal : Option TantivyError) (steps : List Step) (a c : DirectoryState) → refusal ≡ None → AllWent steps a c → AllWent (passes refusal ∷ steps) a c
one_test_more refusal steps a c passed next = record {
  seen = next.seen;
  files = next.files;
  suits = λ it_tells. (passed, next.suits it_tells);
  tells = next.tells;
  later = next.later;
}

went_on : {T : Type 0} (steps : List Step) (x : T) (a b : DirectoryState) → GoesOn StepGoes StepBreaks OutOfMemory steps (Ok x) a b → AllWent steps a b
went_on [] x a b h = none_went a b h.0
went_on (calls call ∷ steps) x a b h = elim h [
  | inl w ↦ one_call_more call steps a w.0 b w.1 (went_on steps x w.0 b w.2)
  | inr no_error ↦ absurd no_error
]
went_on (passes refusal ∷ steps) x a b h = elim h [
  | inl w ↦ one_test_more refusal steps a b w.1.0 (subst (λ s. AllWent steps s b) w.1.1 (went_on steps x w.0 b w.2))
  | inr no_error ↦ absurd no_error
]

-- what steps that all went well say about the directory
pub all_went : {T : Type 0} {steps : List Step} {x : T} {a b : DirectoryState} → Works steps (Ok x) a b → AllWent steps a b
all_went works = went_on _ _ _ _ works.on
