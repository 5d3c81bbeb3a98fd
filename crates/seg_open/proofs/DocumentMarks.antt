-- Marks of documents: how many are alive, whether all are, and whether one is not.
use Rattle.std.proofs.Common.{◌≡◌, ℕ, zero, suc, ◌+◌, ◌-◌, ◌<◌, ◌≤◌, Bool, true, false, List, [], ◌∷◌, length, get_or, replicate, Option, Some, None, refl, sym, ap, ◌∙◌, subst, arith}
use Rattle.std.specs.Prelude.{IfSome, cond, is_some, nat_lt, not}
use Rattle.std.specs.List.{Contains, count_by, list_all, range_with_len}
use Rattle.std.proofs.lemmas.Bool.Decides.{nat_tests}
use Rattle.std.proofs.lemmas.Bool.{false≢true}
use Rattle.std.proofs.lemmas.List.{get_or-replicate, get_or_past, length-replicate}
use Rattle.std.proofs.lemmas.Option.{none-some}
use Rattle.std.proofs.lemmas.List.Filters.{length-filter_both}
use Rattle.std.proofs.lemmas.List.Sums.{length-filter, sum_by-cons}
use Rattle.std.proofs.lemmas.List.FromFn.{length-range_with_len}
use Rattle.seg_common.specs.Marks.{both_marked, kept}
use Rattle.seg_model.proofs.Exports.{kept-all}
use Rattle.seg_bits.specs.BitSets.{member_count, numbers_from}
use Rattle.seg_open.specs.AliveDocuments.{documents_left}
use Rattle.seg_open.specs.OpenSegment.{LacksSome, alive_of}
use Rattle.seg_open.specs.OpeningSteps.{IsCut}

-- those that are alive, and those that are not, are all
pub counts_both : (set : List Bool) → member_count set + count_by not set ≡ length set
counts_both set =
    omega (arith, length-filter_both (λ b. b) not (λ b. refl) set, length-filter (λ b. b) set, length-filter not set)

-- ---- all

pub all_alive : (n : ℕ) → list_all (λ b. b) (replicate n true) ≡ true
all_alive zero = refl
all_alive (suc n) = all_alive n

pub count-more : (b : Bool) (set : List Bool) → member_count (b ∷ set) ≡ cond b 1 0 + member_count set
count-more b set = sum_by-cons (λ (x : Bool). cond x 1 0) b set

-- as many are alive as there are
pub all_counted : (n : ℕ) → member_count (replicate n true) ≡ n
all_counted zero = refl
all_counted (suc n) = omega (arith, count-more true (replicate n true), all_counted n)

-- a set of as many as are alive in it
pub full_set : (set : List Bool) → member_count set ≡ length set → set ≡ replicate (length set) true
full_set [] full = refl
full_set (true ∷ set) full = ap (λ l. true ∷ l) (full_set set (omega (arith, full, count-more true set)))
full_set (false ∷ set) full = absurd (omega (arith, full, count-more false set, counts_both set))

-- ---- not all

module _ (b : Bool) (set : List Bool) where
  count-cons : count_by not (b ∷ set) ≡ cond (not b) 1 0 + count_by not set
  count-cons = sum_by-cons (λ x. cond (not x) 1 0) b set

pub some_lacks : (set : List Bool) → Contains set false → (list_all (λ b. b) set ≡ false) × (1 ≤ count_by not set)
some_lacks [] c = absurd (omega (arith, c.1))
some_lacks (false ∷ set) c = (refl, omega (arith, count-cons false set))
some_lacks (true ∷ set) (zero, lt, is) = absurd (false≢true (sym is))
some_lacks (true ∷ set) (suc k, lt, is) =
    let rest = some_lacks set (k, omega (arith, lt), is) in
    (rest.0, omega (arith, rest.1, count-cons true set))

-- a set of more than are alive in it
pub lacking : (set : List Bool) → (member_count set ≡ length set → ⊥) → Contains set false
lacking [] fewer = absurd (fewer refl)
lacking (false ∷ set) fewer = (0, omega arith, refl)
lacking (true ∷ set) fewer =
    let rest = lacking set (λ same. fewer (omega (arith, same, count-more true set))) in
    (suc rest.0, omega (arith, rest.1), rest.2)

-- ---- two sets

-- what is marked in all and in others, is what these mark
pub both_full : (n : ℕ) (xs : List Bool) → length xs ≡ n → both_marked (replicate n true) xs ≡ xs
both_full zero [] e = refl
both_full zero (x ∷ xs) e = absurd (omega (arith, e))
both_full (suc n) [] e = absurd (omega (arith, e))
both_full (suc n) (x ∷ xs) e = ap (λ l. x ∷ l) (both_full n xs (omega (arith, e)))

pub both_long : (n : ℕ) (xs ys : List Bool) → length xs ≡ n → length ys ≡ n → length (both_marked xs ys) ≡ n
both_long n [] [] e f = e
both_long n [] (y ∷ ys) e f = absurd (omega (arith, e, f))
both_long n (x ∷ xs) [] e f = absurd (omega (arith, e, f))
both_long zero (x ∷ xs) (y ∷ ys) e f = absurd (omega (arith, e))
both_long (suc n) (x ∷ xs) (y ∷ ys) e f =
    let rest = both_long n xs ys (omega (arith, e)) (omega (arith, f)) in omega (arith, rest)

module _ (documents : ℕ) where
  -- a set has as many marks as there are documents, and so have all
  pub alive_long : (set : Option (List Bool)) → IfSome set (λ s. length s ≡ documents) → length (alive_of documents set) ≡ documents
  alive_long None long = length-replicate documents true
  alive_long (Some set) long = long

  -- one that lacks some does
  pub lacking_long : (set : Option (List Bool)) → LacksSome documents set → length (alive_of documents set) ≡ documents
  lacking_long None lacks = length-replicate documents true
  lacking_long (Some set) lacks = lacks.0

  -- without a custom set all stay
  pub uncut : (alive : Option (List Bool)) → IfSome alive (λ s. length s ≡ documents) → IsCut documents alive None alive
  uncut alive long = record { marks = refl; size = long }

  -- where all are alive the custom set is left
  pub cut_all : (custom : List Bool) → length custom ≡ documents → IsCut documents None (Some custom) (Some custom)
  cut_all custom long = record { marks = sym (both_full documents custom long); size = long }

  -- else what both have
  pub cut_both : (alive custom both : List Bool) → length alive ≡ documents → length custom ≡ documents → both ≡ both_marked alive custom
      → IsCut documents (Some alive) (Some custom) (Some both)
  cut_both alive custom both long also is =
      record { marks = is; size = ap length is ∙ both_long documents alive custom long also }

  -- a set from which no document is missing stands for all
  pub full_of : (set : List Bool) → length set ≡ documents → member_count set ≡ length set
      → alive_of documents None ≡ alive_of documents (Some set)
  full_of set long full = sym (full_set set full ∙ ap (λ n. replicate n true) long)

  -- the same for what the code calls them
  pub cut_none : (alive custom : Option (List Bool)) (set : List Bool) → alive ≡ None → custom ≡ Some set
      → IfSome custom (λ s. length s ≡ documents) → IsCut documents alive custom (Some set)
  cut_none alive custom set none some long =
      subst (λ (o : Option (List Bool)). IsCut documents o custom (Some set)) (sym none)
      (subst (λ (o : Option (List Bool)). IsCut documents None o (Some set)) (sym some)
      (cut_all set (subst (λ (o : Option (List Bool)). IfSome o (λ s. length s ≡ documents)) some long)))

  pub cut_some : (alive custom : Option (List Bool)) (left right both : List Bool) → alive ≡ Some left → custom ≡ Some right
      → both ≡ both_marked left right → IfSome alive (λ s. length s ≡ documents) → IfSome custom (λ s. length s ≡ documents)
      → IsCut documents alive custom (Some both)
  cut_some alive custom left right both some also is long as_long =
      subst (λ (o : Option (List Bool)). IsCut documents o custom (Some both)) (sym some)
      (subst (λ (o : Option (List Bool)). IsCut documents (Some left) o (Some both)) (sym also)
      (cut_both left right both
      (subst (λ (o : Option (List Bool)). IfSome o (λ s. length s ≡ documents)) some long)
      (subst (λ (o : Option (List Bool)). IfSome o (λ s. length s ≡ documents)) also as_long) is))

  pub full_is : (o : Option (List Bool)) (set : List Bool) → o ≡ Some set → member_count set ≡ length set
      → IfSome o (λ s. length s ≡ documents) → (replicate documents true ≡ alive_of documents o) × Unit {0}
  full_is o set is full long =
      let size = subst (λ (p : Option (List Bool)). IfSome p (λ s. length s ≡ documents)) is long in
      (full_of set size full ∙ ap (alive_of documents) (sym is), tt)

  pub lacking_is : (o : Option (List Bool)) (set : List Bool) → o ≡ Some set → (member_count set ≡ length set → ⊥)
      → IfSome o (λ s. length s ≡ documents) → (set ≡ alive_of documents o) × LacksSome documents (Some set)
  lacking_is o set is fewer long =
      let size = subst (λ (p : Option (List Bool)). IfSome p (λ s. length s ≡ documents)) is long in
      (ap (alive_of documents) (sym is), (size, lacking set fewer))

-- ---- the marks of a reader

module _ (documents : ℕ) where
  pub long_set : (o : Option (List Bool)) → length (alive_of documents o) ≡ documents → IfSome o (λ s. length s ≡ documents)
  long_set None long = tt
  long_set (Some set) long = long

  pub marked_some : (o : Option (List Bool)) → LacksSome documents o → is_some o ≡ not (list_all (λ b. b) (alive_of documents o))
  marked_some None lacks = ap not (sym (all_alive documents))
  marked_some (Some set) lacks = ap not (sym (some_lacks set lacks.1).0)

  pub none_missing : (o : Option (List Bool)) → o ≡ None → list_all (λ b. b) (alive_of documents o) ≡ true
  none_missing o none = ap (λ p. list_all (λ b. b) (alive_of documents p)) none ∙ all_alive documents

  pub none_deleted : (o : Option (List Bool)) → o ≡ None → 0 ≡ count_by not (alive_of documents o)
  none_deleted o none =
      let counts = counts_both (replicate documents true) in
      let zero_all : 0 ≡ count_by not (replicate documents true) = omega (arith, counts, all_counted documents, length-replicate documents true) in
      zero_all ∙ ap (λ p. count_by not (alive_of documents p)) (sym none)

  pub few_deleted : (o : Option (List Bool)) → LacksSome documents o → count_by not (alive_of documents o) ≤ documents
  few_deleted o lacks = omega (arith, counts_both (alive_of documents o), lacking_long documents o lacks)

  pub left_alive : (o : Option (List Bool)) → LacksSome documents o → documents - count_by not (alive_of documents o) ≡ member_count (alive_of documents o)
  left_alive o lacks = omega (arith, counts_both (alive_of documents o), lacking_long documents o lacks)

-- ---- the numbers of those that are alive

-- where all are alive these are all numbers
pub all_numbers : (n : ℕ) → numbers_from 0 (replicate n true) ≡ range_with_len 0 n
all_numbers n =
    ap (λ m. kept (replicate n true) (range_with_len 0 m)) (length-replicate n true) ∙ kept-all n (range_with_len 0 n) (length-range_with_len 0 n)

-- the first of a range, and the others
pub first_of_range : (next end : ℕ) → next < end → range_with_len next (end - next) ≡ next ∷ range_with_len (next + 1) (end - (next + 1))
first_of_range next end lt = ap (range_with_len next) (let more : end - next ≡ suc (end - (next + 1)) = omega (arith, lt) in more)

pub no_range : (next end : ℕ) → (next < end → ⊥) → range_with_len next (end - next) ≡ []
no_range next end past = ap (range_with_len next) (let none : end - next ≡ 0 = omega (arith, past) in none)

alive_so : (n doc : ℕ) (b : Bool) → nat_lt doc n ≡ b → get_or (replicate n true) doc false ≡ b
alive_so n doc true is = get_or-replicate n doc true false (grind (arith, nat_tests, is))
alive_so n doc false is =
    get_or_past (replicate n true) doc false (let past : n ≤ doc = grind (arith, nat_tests, is) in omega (arith, past, length-replicate n true))

-- whether a document is alive, where all are
pub alive_below : (n doc : ℕ) → get_or (replicate n true) doc false ≡ nat_lt doc n
alive_below n doc = alive_so n doc (nat_lt doc n) refl

-- the next of those that are left, where there is no set
pub next_left : (o : Option (List ℕ)) (next end : ℕ) → o ≡ None → next < end → documents_left o next end ≡ next ∷ documents_left o (next + 1) end
next_left None next end none lt = first_of_range next end lt
next_left (Some left) next end some lt = absurd (none-some left (sym some))
