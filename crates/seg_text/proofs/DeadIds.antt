-- The ids of deleted documents.
use Rattle.std.proofs.Common.{◌≡◌, ℕ, zero, suc, ◌+◌, ◌<◌, ◌≤◌, Bool, true, false, List, [], ◌∷◌, ◌++◌, length, take, drop, cond, get_or, codes, decimal, refl, sym, ap, ◌∙◌, arith, drop-drop, append_assoc}
use Rattle.std.specs.List.{flat_map}
use Rattle.std.proofs.lemmas.List.{append-nil}
use Rattle.std.proofs.lemmas.List.Sums.{sum_by-cons}
use Rattle.std.proofs.lemmas.List.Concat.{flat_map-append}
use Rattle.std.proofs.lemmas.Bool.{false≢true}
use Rattle.seg_bits.specs.BitSets.{member_count}
use Rattle.seg_text.specs.HeaderText.{dead_from, dead_line, dead_text, id_word}

-- ---- one document

pub dead_at : (alive : List Bool) (i k : ℕ) → i < length alive → get_or alive i false ≡ false → dead_from k (take 1 (drop i alive)) ≡ k ∷ []
dead_at [] i k lt dead = absurd (omega (arith, lt))
dead_at (true ∷ alive) zero k lt dead = absurd (false≢true (sym dead))
dead_at (false ∷ alive) zero k lt dead = refl
dead_at (b ∷ alive) (suc i) k lt dead = dead_at alive i k (omega (arith, lt)) dead

pub alive_at : (alive : List Bool) (i k : ℕ) → get_or alive i false ≡ true → dead_from k (take 1 (drop i alive)) ≡ []
alive_at [] zero k is = refl
alive_at [] (suc i) k is = refl
alive_at (true ∷ alive) zero k is = refl
alive_at (false ∷ alive) zero k is = absurd (false≢true is)
alive_at (b ∷ alive) (suc i) k is = alive_at alive i k is

-- ---- one after another

dead_first : (alive : List Bool) (k : ℕ) → dead_from k alive ≡ dead_from k (take 1 alive) ++ dead_from (k + 1) (drop 1 alive)
dead_first [] k = refl
dead_first (true ∷ alive) k = refl
dead_first (false ∷ alive) k = refl

words_next : (alive : List Bool) (i : ℕ) → flat_map id_word (dead_from i (drop i alive)) ≡ flat_map id_word (dead_from i (take 1 (drop i alive))) ++ flat_map id_word (dead_from (i + 1) (drop (i + 1) alive))
words_next alive i =
    ap (flat_map id_word) (dead_first (drop i alive) i)
    ∙ flat_map-append id_word (dead_from i (take 1 (drop i alive))) (dead_from (i + 1) (drop 1 (drop i alive)))
    ∙ ap (λ ds. flat_map id_word (dead_from i (take 1 (drop i alive))) ++ flat_map id_word (dead_from (i + 1) ds)) (drop-drop 1 i alive)

-- what is left after a document, where what came before it is there
pub left_dead : (alive : List Bool) (i : ℕ) (out new start : List ℕ)
    → new ≡ out ++ flat_map id_word (dead_from i (take 1 (drop i alive)))
    → out ++ flat_map id_word (dead_from i (drop i alive)) ≡ start ++ flat_map id_word (dead_from 0 alive)
    → new ++ flat_map id_word (dead_from (i + 1) (drop (i + 1) alive)) ≡ start ++ flat_map id_word (dead_from 0 alive)
left_dead alive i out new start grown left =
    ap (λ xs. xs ++ flat_map id_word (dead_from (i + 1) (drop (i + 1) alive))) grown
    ∙ append_assoc out (flat_map id_word (dead_from i (take 1 (drop i alive)))) (flat_map id_word (dead_from (i + 1) (drop (i + 1) alive)))
    ∙ ap (λ xs. out ++ xs) (sym (words_next alive i))
    ∙ left

-- ---- all of them

count_alive : (alive : List Bool) → member_count (true ∷ alive) ≡ 1 + member_count alive
count_alive alive = sum_by-cons (λ (c : Bool). cond c 1 0) true alive

count_dead : (alive : List Bool) → member_count (false ∷ alive) ≡ 0 + member_count alive
count_dead alive = sum_by-cons (λ (c : Bool). cond c 1 0) false alive

few_alive : (alive : List Bool) → member_count alive ≤ length alive
few_alive [] = omega arith
few_alive (true ∷ alive) = omega (arith, count_alive alive, few_alive alive)
few_alive (false ∷ alive) = omega (arith, count_dead alive, few_alive alive)

pub all_alive : (alive : List Bool) (k : ℕ) → member_count alive ≡ length alive → dead_from k alive ≡ []
all_alive [] k all = refl
all_alive (true ∷ alive) k all = all_alive alive (k + 1) (omega (arith, count_alive alive, all))
all_alive (false ∷ alive) k all = absurd (omega (arith, count_dead alive, all, few_alive alive))

none_dead : (alive : List Bool) (k : ℕ) → dead_from k alive ≡ [] → member_count alive ≡ length alive
none_dead [] k none = refl
none_dead (true ∷ alive) k none = omega (arith, count_alive alive, none_dead alive (k + 1) none)
none_dead (false ∷ alive) k none = absurd (let no : k ∷ dead_from (k + 1) alive ≡ [] = none in cc no)

line_of : (ids : List ℕ) → (ids ≡ [] → ⊥) → dead_line ids ≡ codes "dead" ++ (flat_map id_word ids ++ 10 ∷ [])
line_of [] some = absurd (some refl)
line_of (id ∷ ids) some = refl

pub some_dead : (alive : List Bool) → (member_count alive ≡ length alive → ⊥) → dead_text alive ≡ codes "dead" ++ (flat_map id_word (dead_from 0 alive) ++ 10 ∷ [])
some_dead alive some = line_of (dead_from 0 alive) (λ none. some (none_dead alive 0 none))

-- ---- what is appended

-- the id of a document after a space, where it is deleted
pub word_at : (alive : List Bool) (i id : ℕ) (out a b : List ℕ) → i < length alive → get_or alive i false ≡ false → id ≡ i
    → a ≡ out ++ 32 ∷ [] → b ≡ a ++ decimal id → b ≡ out ++ flat_map id_word (dead_from i (take 1 (drop i alive)))
word_at alive i id out a b lt dead same first second =
    second
    ∙ ap (λ xs. xs ++ decimal id) first
    ∙ append_assoc out (32 ∷ []) (decimal id)
    ∙ ap (λ n. out ++ 32 ∷ decimal n) same
    ∙ ap (λ xs. out ++ xs) (sym (append-nil (id_word i)))
    ∙ ap (λ ds. out ++ flat_map id_word ds) (sym (dead_at alive i i lt dead))

pub nothing_at : (alive : List Bool) (i : ℕ) (out : List ℕ) → get_or alive i false ≡ true → out ≡ out ++ flat_map id_word (dead_from i (take 1 (drop i alive)))
nothing_at alive i out is = sym (append-nil out) ∙ ap (λ ds. out ++ flat_map id_word ds) (sym (alive_at alive i i is))

-- nothing, where all are alive
pub no_line : (alive : List Bool) (out : List ℕ) → member_count alive ≡ length alive → out ≡ out ++ dead_text alive
no_line alive out all = sym (append-nil out) ∙ ap (λ ds. out ++ dead_line ds) (sym (all_alive alive 0 all))

-- else the line
pub whole_line : (alive : List Bool) (out a b c : List ℕ) → (member_count alive ≡ length alive → ⊥)
    → a ≡ out ++ codes "dead" → b ≡ a ++ flat_map id_word (dead_from 0 alive) → c ≡ b ++ 10 ∷ [] → c ≡ out ++ dead_text alive
whole_line alive out a b c some first second third =
    third
    ∙ ap (λ xs. xs ++ 10 ∷ []) (second ∙ ap (λ xs. xs ++ flat_map id_word (dead_from 0 alive)) first)
    ∙ ap (λ xs. xs ++ 10 ∷ []) (append_assoc out (codes "dead") (flat_map id_word (dead_from 0 alive)))
    ∙ append_assoc out (codes "dead" ++ flat_map id_word (dead_from 0 alive)) (10 ∷ [])
    ∙ ap (λ xs. out ++ xs) (append_assoc (codes "dead") (flat_map id_word (dead_from 0 alive)) (10 ∷ []))
    ∙ ap (λ xs. out ++ xs) (sym (some_dead alive some))
