-- Steps with a directory in two parts.
use Rattle.std.proofs.Common.{◌≡◌, ◌++◌, List, [], ◌∷◌, Result, Ok, Err, refl, inl, inr}
use Rattle.seg_values.specs.declared.error.TantivyError.{TantivyError}
use Rattle.seg_values.specs.declared.error.TantivyError.TheVariants.{OutOfMemory}
use Rattle.seg_directory.specs.Calls.{files_after}
use Rattle.seg_directory.specs.StepSequences.{GoesOn}
use Rattle.seg_directory.specs.Files.{NamedFiles}
use Rattle.seg_directory.specs.DirectoryStates.{DirectoryState}
use Rattle.seg_directory.specs.DirectorySteps.{Step, calls, passes, StepGoes, StepBreaks, Works, AllSuit, all_files_after}

-- the first steps end all, or the others go on where they led
pub data Parts {T : Type 0} (xs ys : List Step) (r : Result T TantivyError) (a c : DirectoryState) : Type 0 where
  in_first : (e : TantivyError) → r ≡ Err e → Works {T = T} xs (Err e) a c → Parts xs ys r a c
  in_next : (b : DirectoryState) → Works {T = Unit {0}} xs (Ok tt) a b → Works ys r b c → Parts xs ys r a c

one_more : {T : Type 0} (x : Step) (xs ys : List Step) (r : Result T TantivyError) (a b c : DirectoryState) → StepGoes x a b → Parts xs ys r b c → Parts (x ∷ xs) ys r a c
one_more x xs ys r a b c goes (in_first e is works) = in_first e is (record { on = inl (b, goes, works.on) })
one_more x xs ys r a b c goes (in_next m works next) = in_next m (record { on = inl (b, goes, works.on) }) next

pub parts_on : {T : Type 0} (xs ys : List Step) (r : Result T TantivyError) (a c : DirectoryState) → GoesOn StepGoes StepBreaks OutOfMemory (xs ++ ys) r a c → Parts xs ys r a c
parts_on [] ys r a c on = in_next a (record { on = (refl, tt) }) (record { on = on })
parts_on (x ∷ xs) ys r a c (inl w) = one_more x xs ys r a w.0 c w.1 (parts_on xs ys r w.0 c w.2)
parts_on (x ∷ xs) ys (Ok y) a c (inr no_error) = absurd no_error
parts_on (x ∷ xs) ys (Err e) a c (inr breaks) = in_first e refl (record { on = inr breaks })

-- what steps do, in two parts
pub in_parts : {T : Type 0} (xs ys : List Step) (r : Result T TantivyError) {a c : DirectoryState} → Works (xs ++ ys) r a c → Parts xs ys r a c
in_parts xs ys r works = parts_on xs ys r _ _ works.on

-- files that suit the first steps, and what these make of them the others
pub suits_then : (xs ys : List Step) (files : NamedFiles) → AllSuit xs files → AllSuit ys (all_files_after xs files) → AllSuit (xs ++ ys) files
suits_then [] ys files first next = next
suits_then (calls call ∷ xs) ys files first next = (first.0, suits_then xs ys (files_after call files) first.1 next)
suits_then (passes refusal ∷ xs) ys files first next = (first.0, suits_then xs ys files first.1 next)
