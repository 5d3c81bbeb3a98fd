-- The keys in the text of a path, part by part.
use Rattle.std.proofs.Common.{◌≡◌, ◌≢◌, ℕ, suc, ◌<◌, ◌==◌, ◌&&◌, Bool, true, false, cond, List, [], ◌∷◌, ◌++◌, length, map, get_or, sym, refl, ap, ◌∙◌, arith, append_assoc, length-append}
use Rattle.std.specs.List.{join_with_byte}
use Rattle.std.proofs.lemmas.Bool.{false≢true, ne_eqb}
use Rattle.std.proofs.lemmas.List.{map-append}
use Rattle.std.proofs.Math.ListN.{get_or-append}
use Rattle.seg_common.specs.Replacements.{replacement}
use Rattle.seg_common.specs.JsonPaths.{written_key, joined_path}
use Rattle.seg_values.specs.JsonPathTexts.{keys_in, before_first}

-- no byte is a dot
abbrev pub LacksDots : List ℕ → Type 0
LacksDots bs = (i : ℕ) → i < length bs → get_or bs i 0 ≢ 46

first_no_dot : (b : ℕ) (bs : List ℕ) → LacksDots (b ∷ bs) → b ≢ 46
first_no_dot b bs h = h 0 (omega arith)

others_no_dots : (b : ℕ) (bs : List ℕ) → LacksDots (b ∷ bs) → LacksDots bs
others_no_dots b bs h i lt = h (suc i) (omega arith)

chosen : {X : Type 0} (x y z : Bool) (a b c : X) → y ≡ false → z ≡ false → cond (x && y) a (cond z b c) ≡ c
chosen x true z a b c off also = absurd (false≢true (sym off))
chosen x false true a b c off also = absurd (false≢true (sym also))
chosen true false false a b c off also = refl
chosen false false false a b c off also = refl

-- a byte that is no dot, before another one
plain_step : (b c : ℕ) (text : List ℕ) → b ≢ 46 → c ≢ 46 → keys_in (b ∷ c ∷ text) ≡ before_first (b ∷ []) (keys_in (c ∷ text))
plain_step b c text nb nc =
    chosen (b == 92) (c == 46) (b == 46) (before_first (46 ∷ []) (keys_in text)) ([] ∷ keys_in (c ∷ text)) (before_first (b ∷ []) (keys_in (c ∷ text))) (ne_eqb c 46 nc) (ne_eqb b 46 nb)

-- a byte that is no backslash and no dot, before anything
free_step : (b c : ℕ) (text : List ℕ) → b ≢ 92 → b ≢ 46 → keys_in (b ∷ c ∷ text) ≡ before_first (b ∷ []) (keys_in (c ∷ text))
free_step b c text nb nd = by (b == 92) (b == 46) (ne_eqb b 92 nb) (ne_eqb b 46 nd)
  where
    by : (x z : Bool) → x ≡ false → z ≡ false → cond (x && (c == 46)) (before_first (46 ∷ []) (keys_in text)) (cond z ([] ∷ keys_in (c ∷ text)) (before_first (b ∷ []) (keys_in (c ∷ text)))) ≡ before_first (b ∷ []) (keys_in (c ∷ text))
    by true z off also = absurd (false≢true (sym off))
    by false true off also = absurd (false≢true (sym also))
    by false false off also = refl

dot_step : (others : List ℕ) → keys_in (46 ∷ others) ≡ [] ∷ keys_in others
dot_step [] = refl
dot_step (c ∷ others) = refl

-- a part without a backslash at its end is a key
key_ends : (part others : List ℕ) → LacksDots part → ((front : List ℕ) → part ≢ front ++ 92 ∷ []) → keys_in (part ++ 46 ∷ others) ≡ part ∷ keys_in others
key_ends [] others h n = dot_step others
key_ends (b ∷ []) others h n =
    free_step b 46 others (λ e. n [] (ap (λ x. x ∷ []) e)) (first_no_dot b [] h) ∙ ap (before_first (b ∷ [])) (dot_step others)
key_ends (b ∷ c ∷ part) others h n =
    plain_step b c (part ++ 46 ∷ others) (first_no_dot b (c ∷ part) h) (first_no_dot c part (others_no_dots b (c ∷ part) h))
    ∙ ap (before_first (b ∷ [])) (key_ends (c ∷ part) others (others_no_dots b (c ∷ part) h) (λ front e. n (b ∷ front) (ap (λ l. b ∷ l) e)))

before_twice : (xs ys : List ℕ) (keys : List (List ℕ)) → before_first xs (before_first ys keys) ≡ before_first (xs ++ ys) keys
before_twice xs ys [] = refl
before_twice xs ys (k ∷ keys) = ap (λ l. l ∷ keys) (sym (append_assoc xs ys k))

-- a part with a backslash at its end goes on with a dot
key_goes_on : (front others : List ℕ) → LacksDots front → keys_in ((front ++ 92 ∷ []) ++ 46 ∷ others) ≡ before_first (front ++ 46 ∷ []) (keys_in others)
key_goes_on [] others h = refl
key_goes_on (b ∷ []) others h =
    plain_step b 92 (46 ∷ others) (first_no_dot b [] h) (λ e. absurd (omega (arith, e))) ∙ before_twice (b ∷ []) (46 ∷ []) (keys_in others)
key_goes_on (b ∷ c ∷ front) others h =
    plain_step b c ((front ++ 92 ∷ []) ++ 46 ∷ others) (first_no_dot b (c ∷ front) h) (first_no_dot c front (others_no_dots b (c ∷ front) h))
    ∙ ap (before_first (b ∷ [])) (key_goes_on (c ∷ front) others (others_no_dots b (c ∷ front) h))
    ∙ before_twice (b ∷ []) ((c ∷ front) ++ 46 ∷ []) (keys_in others)

-- the last part is a key
pub last_key : (part : List ℕ) → LacksDots part → keys_in part ≡ part ∷ []
last_key [] h = refl
last_key (b ∷ []) h = ap (λ (x : Bool). cond x ([] ∷ [] ∷ []) ((b ∷ []) ∷ [])) (ne_eqb b 46 (first_no_dot b [] h))
last_key (b ∷ c ∷ part) h =
    plain_step b c part (first_no_dot b (c ∷ part) h) (first_no_dot c part (others_no_dots b (c ∷ part) h))
    ∙ ap (before_first (b ∷ [])) (last_key (c ∷ part) (others_no_dots b (c ∷ part) h))

some_key : (text : List ℕ) → 0 < length (keys_in text)
some_key [] = omega arith
some_key (b ∷ []) = by (b == 46)
  where
    by : (x : Bool) → 0 < length (cond x ([] ∷ [] ∷ []) ((b ∷ []) ∷ []))
    by true = omega arith
    by false = omega arith
some_key (b ∷ c ∷ text) = by ((b == 92) && (c == 46)) (b == 46)
  where
    some : (bytes : List ℕ) (keys : List (List ℕ)) → 0 < length (before_first bytes keys)
    some bytes [] = omega arith
    some bytes (k ∷ keys) = omega arith

    by : (x z : Bool) → 0 < length (cond x (before_first (46 ∷ []) (keys_in text)) (cond z ([] ∷ keys_in (c ∷ text)) (before_first (b ∷ []) (keys_in (c ∷ text)))))
    by true z = some (46 ∷ []) (keys_in text)
    by false true = omega arith
    by false false = some (b ∷ []) (keys_in (c ∷ text))

-- nothing before the first key
pub before_none : (text : List ℕ) → before_first [] (keys_in text) ≡ keys_in text
before_none text = by (keys_in text) (some_key text)
  where
    by : (keys : List (List ℕ)) → 0 < length keys → before_first [] keys ≡ keys
    by [] lt = absurd (omega arith)
    by (k ∷ keys) lt = refl

front_lacks : (front part : List ℕ) → part ≡ front ++ 92 ∷ [] → LacksDots part → LacksDots front
front_lacks front part is h i lt = λ e. h i (omega (arith, ap length is, length-append front (92 ∷ []))) (ap (λ l. get_or l i 0) is ∙ get_or-append front (92 ∷ []) 0 i lt ∙ e)

-- a dot after a backslash is taken into the key
pub taken_on : (write : List ℕ → List ℕ) (before : List (List ℕ)) (key next front part others : List ℕ) → LacksDots part → part ≡ front ++ 92 ∷ [] → next ≡ (key ++ front) ++ 46 ∷ []
    → before ++ map write (before_first next (keys_in others)) ≡ before ++ map write (before_first key (keys_in (part ++ 46 ∷ others)))
taken_on write before key next front part others h is more =
    ap (λ keys. before ++ map write keys)
    (ap (λ l. before_first l (keys_in others)) (more ∙ append_assoc key front (46 ∷ []))
    ∙ sym (before_twice key (front ++ 46 ∷ []) (keys_in others))
    ∙ ap (before_first key) (sym (key_goes_on front others (front_lacks front part is h)) ∙ ap (λ l. keys_in (l ++ 46 ∷ others)) (sym is)))

-- another dot ends the key
pub taken_whole : (write : List ℕ → List ℕ) (before after : List (List ℕ)) (key written next part others : List ℕ) → LacksDots part → ((front : List ℕ) → part ≢ front ++ 92 ∷ []) → written ≡ key ++ part → after ≡ before ++ write written ∷ [] → next ≡ []
    → after ++ map write (before_first next (keys_in others)) ≡ before ++ map write (before_first key (keys_in (part ++ 46 ∷ others)))
taken_whole write before after key written next part others h n is more empty =
    (λ i. more i ++ map write (before_first (empty i) (keys_in others)))
    ∙ ap (λ keys. (before ++ write written ∷ []) ++ map write keys) (before_none others)
    ∙ append_assoc before (write written ∷ []) (map write (keys_in others))
    ∙ ap (λ w. before ++ (write w ∷ map write (keys_in others))) is
    ∙ ap (λ keys. before ++ map write (before_first key keys)) (sym (key_ends part others h n))

-- what is left after the last dot ends the last key
pub taken_last : (write : List ℕ → List ℕ) (before after : List (List ℕ)) (key written part : List ℕ) → LacksDots part → written ≡ key ++ part → after ≡ before ++ write written ∷ []
    → after ≡ before ++ map write (before_first key (keys_in part))
taken_last write before after key written part h is more =
    more ∙ ap (λ w. before ++ write w ∷ []) is ∙ ap (λ keys. before ++ map write (before_first key keys)) (sym (last_key part h))

-- keys that were written, joined
pub join-written : (expand : Bool) (keys : List (List ℕ)) → join_with_byte 1 (map (written_key expand) keys) ≡ joined_path expand keys
join-written expand [] = by expand
  where
    by : (x : Bool) → [] ≡ written_key x []
    by true = refl
    by false = refl
join-written expand (k ∷ []) = refl
join-written true (k ∷ j ∷ keys) = ap (λ l. map (replacement 46 1) k ++ (1 ∷ l)) (join-written true (j ∷ keys)) ∙ sym (map-append (replacement 46 1) k (1 ∷ join_with_byte 1 (j ∷ keys)))
join-written false (k ∷ j ∷ keys) = ap (λ l. k ++ (1 ∷ l)) (join-written false (j ∷ keys))
