-- The paths that tell encoded texts.
use Rattle.std.proofs.Common.{◌≡◌, ◌≢◌, ℕ, ◌<◌, Bool, true, false, not, cond, ◌&&◌, ◌||◌, ◌==◌, List, [], ◌∷◌, map, length, refl, sym, ap, ◌∙◌, subst, arith, IsTrue}
use Rattle.std.specs.Prelude.{◌↔◌}
use Rattle.std.specs.List.{All, AllByRecursion, list_any, list_all, slice_split, onto_first}
use Rattle.std.proofs.lemmas.Bool.{false≢true}
use Rattle.std.proofs.lemmas.Bool.Decides.{nat_tests}
use Rattle.std.proofs.lemmas.List.Elements.{All-from_recursion, recursion_from_All}
use Rattle.seg_common.specs.Replacements.{replacement}
use Rattle.seg_values.specs.Facets.{steps, Tells}

-- ---- bytes put in the place of others

abbrev Lacks : ℕ → List ℕ → Type 0
Lacks byte bs = AllByRecursion (λ b. b ≢ byte) bs

restored_byte : (a b byte : ℕ) → byte ≢ b → replacement b a (replacement a b byte) ≡ byte
restored_byte a b byte ne = grind (arith, nat_tests)

restored : (a b : ℕ) (bs : List ℕ) → Lacks b bs → map (replacement b a) (map (replacement a b) bs) ≡ bs
restored a b [] h = refl
restored a b (x ∷ bs) h = λ i. restored_byte a b x h.0 i ∷ restored a b bs h.1 i

gone_byte : (a b byte : ℕ) → a ≢ b → replacement a b byte ≢ a
gone_byte a b byte ne e = grind (arith, nat_tests)

gone : (a b : ℕ) (bs : List ℕ) → a ≢ b → Lacks a (map (replacement a b) bs)
gone a b [] ne = tt
gone a b (x ∷ bs) ne = (gone_byte a b x ne, gone a b bs ne)

at_other : (a b x : ℕ) → x ≢ b → (x == a) ≡ false → (replacement a b x == b) ≡ false
at_other a b x ne e = grind (arith, nat_tests)

at_same : (a b x : ℕ) → (x == a) ≡ true → (replacement a b x == b) ≡ true
at_same a b x e = grind (arith, nat_tests)

stays : (a b x : ℕ) → (x == a) ≡ false → replacement a b x ≡ x
stays a b x e = grind (arith, nat_tests)

split_alike : (a b : ℕ) (bs : List ℕ) → Lacks b bs → slice_split (λ x. x == b) (map (replacement a b) bs) ≡ slice_split (λ x. x == a) bs
split_alike a b [] h = refl
split_alike a b (x ∷ bs) h = each (x == a) refl (split_alike a b bs h.1)
  where
    each : (t : Bool) → (x == a) ≡ t → slice_split (λ x. x == b) (map (replacement a b) bs) ≡ slice_split (λ x. x == a) bs
        → slice_split (λ x. x == b) (map (replacement a b) (x ∷ bs)) ≡ slice_split (λ x. x == a) (x ∷ bs)
    each true e later =
        ap (λ t. cond t ([] ∷ slice_split (λ x. x == b) (map (replacement a b) bs)) (onto_first (replacement a b x) (slice_split (λ x. x == b) (map (replacement a b) bs)))) (at_same a b x e)
        ∙ ap (λ l. [] ∷ l) later
        ∙ sym (ap (λ t. cond t ([] ∷ slice_split (λ x. x == a) bs) (onto_first x (slice_split (λ x. x == a) bs))) e)
    each false e later =
        ap (λ t. cond t ([] ∷ slice_split (λ x. x == b) (map (replacement a b) bs)) (onto_first (replacement a b x) (slice_split (λ x. x == b) (map (replacement a b) bs)))) (at_other a b x h.0 e)
        ∙ (λ i. onto_first (stays a b x e i) (later i))
        ∙ sym (ap (λ t. cond t ([] ∷ slice_split (λ x. x == a) bs) (onto_first x (slice_split (λ x. x == a) bs))) e)

-- ---- tests on lists

unequal : (x byte : ℕ) → x ≢ byte → (x == byte) ≡ false
unequal x byte ne = grind (arith, nat_tests)

different : (x byte : ℕ) → (x == byte) ≡ false → x ≢ byte
different x byte e same = grind (arith, nat_tests)

none_found : (byte : ℕ) (bs : List ℕ) → Lacks byte bs → list_any (λ b. b == byte) bs ≡ false
none_found byte [] h = refl
none_found byte (x ∷ bs) h = ap (λ t. t || list_any (λ b. b == byte) bs) (unequal x byte h.0) ∙ none_found byte bs h.1

lacks_from_none : (byte : ℕ) (bs : List ℕ) → list_any (λ b. b == byte) bs ≡ false → Lacks byte bs
lacks_from_none byte [] h = tt
lacks_from_none byte (x ∷ bs) h = each (x == byte) refl h (lacks_from_none byte bs)
  where
    each : (t : Bool) → (x == byte) ≡ t → (t || list_any (λ b. b == byte) bs) ≡ false → (list_any (λ b. b == byte) bs ≡ false → Lacks byte bs) → Lacks byte (x ∷ bs)
    each true e h later = absurd (false≢true (sym h))
    each false e h later = (different x byte e, later h)

abbrev is_there : List ℕ → Bool
is_there step = not (length step == 0)

abbrev AreThere : List (List ℕ) → Type 0
AreThere pieces = AllByRecursion (λ step. 0 < length step) pieces

is_there_from_some : (step : List ℕ) → 0 < length step → is_there step ≡ true
is_there_from_some step h = grind (arith, nat_tests)

some_from_is_there : (step : List ℕ) → is_there step ≡ true → 0 < length step
some_from_is_there step h = grind (arith, nat_tests)

all_there : (pieces : List (List ℕ)) → AreThere pieces → list_all is_there pieces ≡ true
all_there [] h = refl
all_there (p ∷ pieces) h = ap (λ t. t && list_all is_there pieces) (is_there_from_some p h.0) ∙ all_there pieces h.1

there_from_all : (pieces : List (List ℕ)) → list_all is_there pieces ≡ true → AreThere pieces
there_from_all [] h = tt
there_from_all (p ∷ pieces) h = each (is_there p) refl h (there_from_all pieces)
  where
    each : (t : Bool) → is_there p ≡ t → (t && list_all is_there pieces) ≡ true → (list_all is_there pieces ≡ true → AreThere pieces) → AreThere (p ∷ pieces)
    each true e h later = (some_from_is_there p e, later h)
    each false e h later = absurd (false≢true h)

-- ---- what is after a path's first slash

-- whether steps can be read from it
abbrev pub passes : List ℕ → Bool
passes rest = (length rest == 0) || (not (list_any (λ byte. byte == 0) rest) && list_all (λ step. not (length step == 0)) (slice_split (λ byte. byte == 47) rest))

abbrev pub IsRead : List ℕ → Type 0
IsRead rest = (encoded : List ℕ) × Tells (47 ∷ rest) encoded

-- past the first two tests the third one decides
pub passed_two : (a b d r : Bool) → a ≡ false → b ≡ false → r ≡ d → r ≡ (a || (not b && d))
passed_two a b d r p q e = rw (p, q) e

pub stopped : (a b d r : Bool) → a ≡ false → b ≡ true → r ≡ false → r ≡ (a || (not b && d))
stopped a b d r p q e = rw (p, q) e

parts : (a b d : Bool) → a ≡ false → (a || (not b && d)) ≡ true → (b ≡ false) × (d ≡ true)
parts true b d p h = absurd (false≢true (sym p))
parts false true d p h = absurd (false≢true h)
parts false false d p h = (refl, h)

not_none : (b : ℕ) (bs : List ℕ) → (length (b ∷ bs) == 0) ≡ false
not_none b bs = grind (arith, nat_tests)

Tells_from_parts : (b : ℕ) (bs : List ℕ) → list_any (λ byte. byte == 0) (b ∷ bs) ≡ false → list_all is_there (slice_split (λ byte. byte == 47) (b ∷ bs)) ≡ true → Tells (47 ∷ b ∷ bs) (map (replacement 47 0) (b ∷ bs))
Tells_from_parts b bs none all = record {
  path_of_encoded = ap (λ l. 47 ∷ l) (sym (restored 47 0 (b ∷ bs) lacks));
  no_empty_step = All-from_recursion (λ step. 0 < length step) (steps (map (replacement 47 0) (b ∷ bs))) (subst AreThere (sym (split_alike 47 0 (b ∷ bs) lacks)) (there_from_all (slice_split (λ byte. byte == 47) (b ∷ bs)) all));
  no_slash = All-from_recursion (λ byte. byte ≢ 47) (map (replacement 47 0) (b ∷ bs)) (gone 47 0 (b ∷ bs) (omega arith));
}
  where
    lacks : Lacks 0 (b ∷ bs)
    lacks = lacks_from_none 0 (b ∷ bs) none

read_from_passes : (rest : List ℕ) → passes rest ≡ true → IsRead rest
read_from_passes [] p = ([], record { path_of_encoded = refl; no_empty_step = All-from_recursion (λ step. 0 < length step) [] tt; no_slash = All-from_recursion (λ byte. byte ≢ 47) [] tt })
read_from_passes (b ∷ bs) p =
    let two = parts (length (b ∷ bs) == 0) (list_any (λ byte. byte == 0) (b ∷ bs)) (list_all is_there (slice_split (λ byte. byte == 47) (b ∷ bs))) (not_none b bs) p in
    (map (replacement 47 0) (b ∷ bs), Tells_from_parts b bs two.0 two.1)

passes_encoded : (encoded : List ℕ) → All (λ step. 0 < length step) (steps encoded) → All (λ byte. byte ≢ 47) encoded → passes (map (replacement 0 47) encoded) ≡ true
passes_encoded [] there lacks = refl
passes_encoded (b ∷ bs) there lacks =
    sym (passed_two _ _ _ true (not_none (replacement 0 47 b) (map (replacement 0 47) bs)) none (sym all))
  where
    none : list_any (λ byte. byte == 0) (map (replacement 0 47) (b ∷ bs)) ≡ false
    none = none_found 0 (map (replacement 0 47) (b ∷ bs)) (gone 0 47 (b ∷ bs) (omega arith))

    all : list_all is_there (slice_split (λ byte. byte == 47) (map (replacement 0 47) (b ∷ bs))) ≡ true
    all = ap (list_all is_there) (split_alike 0 47 (b ∷ bs) (recursion_from_All (λ byte. byte ≢ 47) (b ∷ bs) lacks)) ∙ all_there (steps (b ∷ bs)) (recursion_from_All (λ step. 0 < length step) (steps (b ∷ bs)) there)

behind_slash : (rest other : List ℕ) → 47 ∷ rest ≡ 47 ∷ other → rest ≡ other
behind_slash rest other e = cc

passes_from_read : (rest : List ℕ) → IsRead rest → passes rest ≡ true
passes_from_read rest h = ap passes (behind_slash rest (map (replacement 0 47) h.0) h.1.path_of_encoded) ∙ passes_encoded h.0 h.1.no_empty_step h.1.no_slash

pub tells_from_passes : (rest : List ℕ) (r : Bool) → r ≡ passes rest → IsTrue r ↔ IsRead rest
tells_from_passes rest r e = (λ t. read_from_passes rest (sym e ∙ t), λ h. e ∙ passes_from_read rest h)

-- an encoded text comes back from its path
pub encoded_again : (rest encoded : List ℕ) → Tells (47 ∷ rest) encoded → map (replacement 47 0) rest ≡ encoded
encoded_again rest encoded h =
    ap (map (replacement 47 0)) (behind_slash rest (map (replacement 0 47) encoded) h.path_of_encoded) ∙ restored 0 47 encoded (recursion_from_All (λ byte. byte ≢ 47) encoded h.no_slash)
