-- Deletes that are passed: those with stamps below a number.
use Rattle.std.proofs.Common.{◌≡◌, ℕ, suc, ◌+◌, ◌≤◌, Bool, true, false, cond, List, [], ◌∷◌, ◌++◌, take, drop, refl, sym, ap, subst, ◌∙◌, arith}
use Rattle.std.specs.List.{All, AllByRecursion, prefix_len}
use Rattle.std.proofs.Math.Seq.{take-add}
use Rattle.std.proofs.lemmas.List.Elements.{All-from_recursion}
use Rattle.std.proofs.lemmas.Bool.{ltb-true}
use Rattle.seg_model.specs.Operations.{Operation, add, delete, delete_all}
use Rattle.seg_model.specs.RemovalLaws.{ArePassed}
use Rattle.seg_model.specs.Stamps.{addition_stamps}
use Rattle.seg_batches.specs.Queues.{Queue, is_below, skipped}
use Rattle.seg_batches.specs.declared.operation.DeleteOperation.{DeleteOperation}
use Rattle.seg_batches.specs.Laws.{as_operations}
use Rattle.seg_batches.specs.DeleteCursors.{PassesEarlier, passed_below}
use Rattle.seg_batches.specs.declared.term_target.TermTarget.{TermTarget}

-- ---- skipping

both : (n : ℕ) (xs ys : List (DeleteOperation TermTarget)) → passed_below n xs → passed_below n ys
    → passed_below n (xs ++ ys)
both n [] ys p q = q
both n (x ∷ xs) ys p q = (p.0, both n xs ys p.1 q)

-- those in a row, from the first on, that are below
row : (n : ℕ) (xs : List (DeleteOperation TermTarget)) → passed_below n (take (prefix_len (is_below n) xs) xs)
row n [] = tt
row n (x ∷ xs) = by (is_below n x) refl (row n xs)
  where
    by : (b : Bool) → is_below n x ≡ b → passed_below n (take (prefix_len (is_below n) xs) xs)
        → passed_below n (take (prefix_len (is_below n) (x ∷ xs)) (x ∷ xs))
    by true is rest =
        let more : 1 + prefix_len (is_below n) xs ≡ suc (prefix_len (is_below n) xs) = omega arith in
        subst (λ k. passed_below n (take k (x ∷ xs))) (sym (ap (λ b. cond b (1 + prefix_len (is_below n) xs) 0) is ∙ more)) (ltb-true x.opstamp n is, rest)
    by false is rest =
        subst (λ k. passed_below n (take k (x ∷ xs))) (sym (ap (λ b. cond b (1 + prefix_len (is_below n) xs) 0) is)) tt

-- those that a cursor skips are passed
pub skipped_are_passed : (n : ℕ) (operations : List (DeleteOperation TermTarget)) (old new : ℕ)
    → new ≡ skipped n operations old → passed_below n (take old operations) → passed_below n (take new operations)
skipped_are_passed n operations old new is h =
    subst (passed_below n) (sym (ap (λ i. take i operations) is ∙ take-add old (prefix_len (is_below n) (drop old operations)) operations))
    (both n (take old operations) (take (prefix_len (is_below n) (drop old operations)) (drop old operations)) h (row n (drop old operations)))

-- those that are passed below a number are so below a greater one
below_greater : (low high : ℕ) (operations : List (DeleteOperation TermTarget)) → low ≤ high → passed_below low operations
    → passed_below high operations
below_greater low high [] le h = tt
below_greater low high (o ∷ operations) le h = (omega (arith, le, h.0), below_greater low high operations le h.1)

pub passed_further : (low high : ℕ) (old new : Queue TermTarget) (cursor : ℕ) → low ≤ high
    → PassesEarlier low old new cursor → passed_below high (take cursor new.operations)
passed_further low high old new cursor le earlier =
    subst (λ os. passed_below high (take cursor os)) (sym earlier.operations) (below_greater low high (take cursor old.operations) le earlier.passed)

-- ---- stamps

-- the stamps of a batch are not below the place of its first operation
abbrev AreFrom : ℕ → List ℕ → Type 0
AreFrom n stamps = AllByRecursion (λ s. n ≤ s) stamps

later : (n m : ℕ) (stamps : List ℕ) → n ≤ m → AreFrom m stamps → AreFrom n stamps
later n m [] le h = tt
later n m (s ∷ stamps) le h = (omega (arith, le, h.0), later n m stamps le h.1)

stamps_from : (first : ℕ) (operations : List Operation) → AreFrom first (addition_stamps first operations)
stamps_from first [] = tt
stamps_from first (add document ∷ operations) =
    (omega arith, later first (first + 1) (addition_stamps (first + 1) operations) (omega arith) (stamps_from (first + 1) operations))
stamps_from first (delete term ∷ operations) =
    later first (first + 1) (addition_stamps (first + 1) operations) (omega arith) (stamps_from (first + 1) operations)
stamps_from first (delete_all terms ∷ operations) =
    later first (first + 1) (addition_stamps (first + 1) operations) (omega arith) (stamps_from (first + 1) operations)

not_above : (n s : ℕ) (operations : List (DeleteOperation TermTarget)) → n ≤ s → passed_below n operations
    → AllByRecursion (λ (d : ℕ × Operation). d.0 ≤ s) (as_operations operations)
not_above n s [] le h = tt
not_above n s (o ∷ operations) le h = (omega (arith, le, h.0), not_above n s operations le h.1)

are_passed : (n : ℕ) (stamps : List ℕ) (operations : List (DeleteOperation TermTarget)) → AreFrom n stamps
    → passed_below n operations
    → AllByRecursion (λ s. All (λ (d : ℕ × Operation). d.0 ≤ s) (as_operations operations)) stamps
are_passed n [] operations from h = tt
are_passed n (s ∷ stamps) operations from h =
    (All-from_recursion (λ (d : ℕ × Operation). d.0 ≤ s) (as_operations operations) (not_above n s operations from.0 h), are_passed n stamps operations from.1 h)

-- what is below the place of a batch's first operation is passed by its documents
pub batch_passes : (first : ℕ) (batch : List Operation) (operations : List (DeleteOperation TermTarget))
    → passed_below first operations → ArePassed (addition_stamps first batch) (as_operations operations)
batch_passes first batch operations h =
    All-from_recursion (λ s. All (λ (d : ℕ × Operation). d.0 ≤ s) (as_operations operations)) (addition_stamps first batch)
    (are_passed first (addition_stamps first batch) operations (stamps_from first batch) h)
