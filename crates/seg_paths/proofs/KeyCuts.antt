-- A key is cut into parts.
use Rattle.std.proofs.Common.{◌≡◌, ℕ, zero, suc, ◌+◌, ◌<◌, Bool, true, false, cond, List, [], ◌∷◌, ◌++◌, map, take, drop, length, get_or, Option, Some, None, position, append_assoc, refl, sym, ap, ◌∙◌, arith}
use Rattle.std.specs.List.{join_with_byte}
use Rattle.std.proofs.lemmas.Bool.Decides.{nat_tests}
use Rattle.std.proofs.lemmas.List.{map-append}
use Rattle.std.proofs.lemmas.List.Quantifiers.{position-Some}
use Rattle.seg_common.specs.JsonPaths.{dot_expanded, written_key, joined_path}
use Rattle.seg_model.specs.DocumentCheck.{has_no_zero}
use Rattle.seg_paths.specs.Cuts.{is_cut}
use Rattle.seg_paths.specs.Nodes.{IsPart}
use Rattle.seg_paths.specs.Paths.{number_of, Extends, IsAbove, below}
use Rattle.seg_paths.specs.NumberedLeaves.{IsPathOf}
use Rattle.seg_paths.proofs.NodePaths.{below-append}
use Rattle.seg_paths.proofs.PathNumbers.{number-kept, number-read, position-none}
use Rattle.seg_paths.proofs.ZeroFreeKeys.{no_zero-cons}

-- ---- bytes

-- a byte as it is written
abbrev written : Bool → ℕ → ℕ
written e b = cond e (dot_expanded b) b

written-plain : (e : Bool) (b : ℕ) → is_cut e b ≡ false → 0 < b → (written e b ≡ b) × (1 < b)
written-plain true b h some = (grind (arith, nat_tests), grind (arith, nat_tests))
written-plain false b h some = (refl, grind (arith, nat_tests))

written-cut : (e : Bool) (b : ℕ) → is_cut e b ≡ true → written e b ≡ 1
written-cut true b h = grind (arith, nat_tests)
written-cut false b h = grind (arith, nat_tests)

written-cons : (e : Bool) (b : ℕ) (bs : List ℕ) → written_key e (b ∷ bs) ≡ written e b ∷ written_key e bs
written-cons true b bs = refl
written-cons false b bs = refl

written-nil : (e : Bool) → written_key e [] ≡ []
written-nil true = refl
written-nil false = refl

-- ---- parts

-- the first bytes are cut nowhere, and the next one is
one_cut : (e : Bool) (key : List ℕ) (n : ℕ) → has_no_zero key ≡ true → n < length key → ((k : ℕ) → k < n
    → is_cut e (get_or key k 0) ≡ false) → is_cut e (get_or key n 0) ≡ true
    → IsPart (take n key) × (written_key e key ≡ take n key ++ 1 ∷ written_key e (drop (suc n) key))
one_cut e [] n plain lt before at = absurd (omega (arith, lt))
one_cut e (b ∷ bs) zero plain lt before at =
    (tt, written-cons e b bs ∙ (λ i. written-cut e b at i ∷ written_key e bs))
one_cut e (b ∷ bs) (suc n) plain lt before at =
    let apart = no_zero-cons b bs plain in
    let rest = one_cut e bs n apart.1 (omega (arith, lt)) (λ k l. before (suc k) (omega (arith, l))) at in
    let same = written-plain e b (before 0 (omega arith)) apart.0 in
    ((same.1, rest.0), written-cons e b bs ∙ (λ i. same.0 i ∷ rest.1 i))

no_cut : (e : Bool) (key : List ℕ) → has_no_zero key ≡ true
    → ((k : ℕ) → k < length key → is_cut e (get_or key k 0) ≡ false) → IsPart key × (written_key e key ≡ key)
no_cut e [] plain all = (tt, written-nil e)
no_cut e (b ∷ bs) plain all =
    let apart = no_zero-cons b bs plain in
    let rest = no_cut e bs apart.1 (λ k l. all (suc k) (omega (arith, l))) in
    let same = written-plain e b (all 0 (omega arith)) apart.0 in
    ((same.1, rest.0), written-cons e b bs ∙ (λ i. same.0 i ∷ rest.1 i))

-- where a key is cut
pub cut_there : (e : Bool) (key : List ℕ) (n : ℕ) → has_no_zero key ≡ true → position (is_cut e) key ≡ Some n
    → (n < length key) × IsPart (take n key) × (written_key e key ≡ take n key ++ 1 ∷ written_key e (drop (n + 1) key))
cut_there e key n plain is =
    let found = position-Some (is_cut e) key n 0 is in
    let one = one_cut e key n plain found.0 found.2 found.1 in
    let next : suc n ≡ n + 1 = omega arith in
    (found.0, one.0, one.1 ∙ ap (λ k. take n key ++ 1 ∷ written_key e (drop k key)) next)

-- where it is cut nowhere
pub cut_nowhere : (e : Bool) (key : List ℕ) → has_no_zero key ≡ true → position (is_cut e) key ≡ None
    → IsPart key × (written_key e key ≡ key)
cut_nowhere e key plain is = no_cut e key plain (λ k lt. position-none (is_cut e) key k 0 is lt)

-- one part of what is left of a key has a number
pub cut_step : (e : Bool) (paths new : List (List ℕ)) (place : Option ℕ) (rest part left : List ℕ) (end n : ℕ)
    → has_no_zero rest ≡ true → position (is_cut e) rest ≡ Some end → part ≡ take end rest → left ≡ drop (end + 1) rest
    → number_of new (below paths place part) ≡ Some n
    → get_or new n [] ++ 1 ∷ written_key e left ≡ below paths place (written_key e rest)
cut_step e paths new place rest part left end n plain is front back number =
    ap (λ (p : List ℕ). p ++ 1 ∷ written_key e left) ((number-read new (below paths place part) n number).1
    ∙ ap (below paths place) front)
    ∙ ap (λ b. below paths place (take end rest) ++ 1 ∷ written_key e b) back
    ∙ sym (below-append paths place (take end rest) (1 ∷ written_key e (drop (end + 1) rest)))
    ∙ ap (below paths place) (sym (cut_there e rest end plain is).2)

-- ---- joined paths

join-last : (keys : List (List ℕ)) (key : List ℕ) → 0 < length keys
    → join_with_byte 1 (keys ++ key ∷ []) ≡ join_with_byte 1 keys ++ 1 ∷ key
join-last [] key some = absurd (omega (arith, some))
join-last (k ∷ []) key some = refl
join-last (k ∷ j ∷ ks) key some = ap (λ l. k ++ 1 ∷ l) (join-last (j ∷ ks) key (omega arith))
    ∙ sym (append_assoc k (1 ∷ join_with_byte 1 (j ∷ ks)) (1 ∷ key))

path-last : (e : Bool) (keys : List (List ℕ)) (key : List ℕ) → 0 < length keys
    → joined_path e (keys ++ key ∷ []) ≡ joined_path e keys ++ 1 ∷ written_key e key
path-last true keys key some = ap (map dot_expanded) (join-last keys key some)
    ∙ map-append dot_expanded (join_with_byte 1 keys) (1 ∷ key)
path-last false keys key some = join-last keys key some

-- a key below the path of some keys
pub below-keys : (e : Bool) (paths : List (List ℕ)) (above : Option ℕ) (keys : List (List ℕ)) (key : List ℕ)
    → IsPathOf paths e above keys → below paths above (written_key e key) ≡ joined_path e (keys ++ key ∷ [])
below-keys e paths None keys key is = ap (λ (ks : List (List ℕ)). joined_path e (ks ++ key ∷ [])) (sym is)
below-keys e paths (Some n) keys key is =
    ap (λ (p : List ℕ). p ++ 1 ∷ written_key e key) (number-read paths (joined_path e keys) n is.1).1
    ∙ sym (path-last e keys key is.0)

pub path-kept : (e : Bool) (old new : List (List ℕ)) (above : Option ℕ) (keys : List (List ℕ)) → Extends old new
    → IsPathOf old e above keys → IsPathOf new e above keys
path-kept e old new None keys more is = is
path-kept e old new (Some n) keys more is = (is.0, number-kept old new (joined_path e keys) n more is.1)

some_keys : (keys : List (List ℕ)) (key : List ℕ) → 0 < length (keys ++ key ∷ [])
some_keys [] key = omega arith
some_keys (k ∷ ks) key = omega arith

-- the number of a key's path below that of some keys
pub deeper : (e : Bool) (old new : List (List ℕ)) (above : Option ℕ) (keys : List (List ℕ)) (key : List ℕ) (n : ℕ)
    → IsPathOf old e above keys → number_of new (below old above (written_key e key)) ≡ Some n
    → IsPathOf new e (Some n) (keys ++ key ∷ [])
deeper e old new above keys key n is number = (
  some_keys keys key,
  ap (number_of new) (sym (below-keys e old above keys key is)) ∙ number,
)

pub root-path : (e : Bool) → joined_path e [] ≡ []
root-path true = refl
root-path false = refl

-- a number that a path has can be above
pub is_above : (paths : List (List ℕ)) (n : ℕ) (path : List ℕ) → number_of paths path ≡ Some n → IsAbove paths (Some n)
is_above paths n path is = (number-read paths path n is).0
