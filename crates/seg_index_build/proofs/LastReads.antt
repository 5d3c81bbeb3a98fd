-- The last that was read of a file, among answers of which the first read nothing.
use Rattle.std.proofs.Common.{◌≡◌, ◌∙◌, ℕ, Bool, true, false, cond, List, [], ◌∷◌, ◌++◌, append_assoc, Option, Some, None, refl, sym, ap}
use Rattle.std.specs.Prelude.{◌||◌, is_some}
use Rattle.std.specs.List.{AllByRecursion}
use Rattle.std.specs.Option.{option_or}
use Rattle.std.proofs.lemmas.Bool.{false≢true}
use Rattle.std.proofs.lemmas.List.Folds.{list_any-append}
use Rattle.std.proofs.Math.Bool.{or-false}
use Rattle.seg_common.specs.declared.name.FileName.{FileName}
use Rattle.seg_tokens.proofs.Exports.{option_or-None}
use Rattle.seg_directory.specs.Calls.{told}
use Rattle.seg_directory.specs.DirectorySteps.{Step, calls, passes, all_told}
use Rattle.seg_directory.specs.declared.answer.Answer.{Answer}
use Rattle.seg_directory.specs.declared.answer.Answer.TheVariants as answer
use Rattle.seg_index_build.specs.TakenBatches.{bytes_read, last_read, read_after_write, same_name, tells_written, was_written}

-- ---- the answers of steps

pub told_both : (xs ys : List Step) → all_told (xs ++ ys) ≡ all_told xs ++ all_told ys
told_both [] ys = refl
told_both (calls call ∷ xs) ys =
    ap (λ l. told call ++ l) (told_both xs ys) ∙ sym (append_assoc (told call) (all_told xs) (all_told ys))
told_both (passes refusal ∷ xs) ys = told_both xs ys

-- ---- answers one after another

or_or : {X : Type 0} (a b c : Option X) → option_or a (option_or b c) ≡ option_or (option_or a b) c
or_or None b c = refl
or_or (Some x) b c = refl

pub is_some_or : {X : Type 0} (a b : Option X) → is_some (option_or a b) ≡ (is_some b || is_some a)
is_some_or None b = sym (or-false (is_some b))
is_some_or (Some x) None = refl
is_some_or (Some x) (Some y) = refl

module _ (name : FileName) where
  pub last_both : (xs ys : List Answer) → last_read name (xs ++ ys) ≡ option_or (last_read name ys) (last_read name xs)
  last_both [] ys = sym (option_or-None (last_read name ys))
  last_both (x ∷ xs) ys =
      ap (λ o. option_or o (bytes_read name x)) (last_both xs ys)
      ∙ sym (or_or (last_read name ys) (last_read name xs) (bytes_read name x))

  -- what was read last is so still, after other answers
  pub last_still : (xs ys : List Answer) (bytes : List ℕ) → last_read name ys ≡ Some bytes
      → last_read name (xs ++ ys) ≡ Some bytes
  last_still xs ys bytes is = last_both xs ys ∙ ap (λ o. option_or o (last_read name xs)) is

  pub last_none : (xs ys : List Answer) → last_read name xs ≡ None → last_read name ys ≡ None
      → last_read name (xs ++ ys) ≡ None
  last_none xs ys first next = last_both xs ys ∙ ap (λ o. option_or o (last_read name xs)) next ∙ first

  pub last_front : (xs ys : List Answer) → last_read name ys ≡ None → last_read name (xs ++ ys) ≡ last_read name xs
  last_front xs ys none = last_both xs ys ∙ ap (λ o. option_or o (last_read name xs)) none

  pub last_back : (xs ys : List Answer) → last_read name xs ≡ None → last_read name (xs ++ ys) ≡ last_read name ys
  last_back xs ys none =
      last_both xs ys ∙ ap (λ o. option_or (last_read name ys) o) none ∙ option_or-None (last_read name ys)

  pub written_both : (xs ys : List Answer) → was_written name (xs ++ ys) ≡ (was_written name xs || was_written name ys)
  written_both xs ys = list_any-append (tells_written name) xs ys

  pub written_front : (xs ys : List Answer) → was_written name ys ≡ false
      → was_written name (xs ++ ys) ≡ was_written name xs
  written_front xs ys none =
      written_both xs ys ∙ ap (λ b. was_written name xs || b) none ∙ or-false (was_written name xs)

  -- ---- one more reading

  -- of another file
  pub skip : (other : FileName) (bytes : List ℕ) (rest : List Answer) → same_name name other ≡ false
      → last_read name (answer.Read other bytes ∷ rest) ≡ last_read name rest
  skip other bytes rest apart =
      ap (λ b. option_or (last_read name rest) (cond b (Some bytes) None)) apart ∙ option_or-None (last_read name rest)

  -- and of this one
  pub here : (other : FileName) (bytes : List ℕ) (rest : List Answer) → same_name name other ≡ true
      → last_read name rest ≡ None → last_read name (answer.Read other bytes ∷ rest) ≡ Some bytes
  here other bytes rest same none =
      ap (λ o. option_or o (cond (same_name name other) (Some bytes) None)) none
      ∙ ap (λ b. cond b (Some bytes) None) same

-- ---- answers that read nothing

abbrev pub ReadsNothing : Answer → Type 0
ReadsNothing (answer.Read name bytes) = ⊥
ReadsNothing _ = Unit {0}

abbrev pub ReadNothing : List Answer → Type 0
ReadNothing answers = AllByRecursion ReadsNothing answers

no_bytes : (name : FileName) (a : Answer) → ReadsNothing a → bytes_read name a ≡ None
no_bytes name (answer.Listed n) h = refl
no_bytes name (answer.Read other bytes) h = absurd h
no_bytes name (answer.Missing other) h = refl
no_bytes name (answer.There other) h = refl
no_bytes name (answer.Wrote other) h = refl
no_bytes name (answer.Failed kind) h = refl

pub nothing_read : (name : FileName) (xs : List Answer) → ReadNothing xs → last_read name xs ≡ None
nothing_read name [] h = refl
nothing_read name (x ∷ xs) h =
    ap (λ o. option_or o (bytes_read name x)) (nothing_read name xs h.1) ∙ no_bytes name x h.0

-- what was read after such answers, with which the file was written
pub after_writes : (name : FileName) (xs ys : List Answer) → ReadNothing xs → was_written name ys ≡ false
    → was_written name xs ≡ true → read_after_write name (xs ++ ys) ≡ last_read name ys
after_writes name [] ys nothing unwritten written = absurd (false≢true written)
after_writes name (x ∷ xs) ys nothing unwritten written =
    ap
    (λ b. cond b (read_after_write name (xs ++ ys)) (cond (tells_written name x) (last_read name (xs ++ ys)) None))
    (written_front name xs ys unwritten)
    ∙ by (was_written name xs) refl (λ is. after_writes name xs ys nothing.1 unwritten is)
  where
    it : was_written name xs ≡ false → tells_written name x ≡ true
    it is = sym (or-false (tells_written name x)) ∙ ap (λ b. tells_written name x || b) (sym is) ∙ written

    by : (b : Bool) → was_written name xs ≡ b
        → (was_written name xs ≡ true → read_after_write name (xs ++ ys) ≡ last_read name ys)
        → cond b (read_after_write name (xs ++ ys)) (cond (tells_written name x) (last_read name (xs ++ ys)) None)
        ≡ last_read name ys
    by true is rest = rest is
    by false is rest =
        ap (λ b. cond b (last_read name (xs ++ ys)) None) (it is)
        ∙ last_back name xs ys (nothing_read name xs nothing.1)
