-- What is found by name after an item was replaced or put at the end.
use Rattle.std.proofs.Common.{arith, length, ltb, ◌≡◌, ◌≢◌, ℕ, ◌<◌, Bool, true, false, cond, List, [], ◌∷◌, ◌++◌, set, get_or, Some, None, Option, sym, refl, ap, ◌∙◌, subst}
use Rattle.std.specs.Prelude.{position, MatchOption, is_some, ◌||◌}
use Rattle.std.specs.Option.{option_map_or, option_or}
use Rattle.std.specs.Str.{bytes_eq}
use Rattle.std.specs.Cmp.Lexicographic.{bytes_decides}
use Rattle.std.specs.List.{position_or_len, slice_get}
use Rattle.std.proofs.lemmas.Bool.Decides.{nat_tests}
use Rattle.std.proofs.lemmas.Option.{slice_get_past, slice_get_read}
use Rattle.std.proofs.lemmas.Bool.{cond-true, cond-false, false_from_ne_true}
use Rattle.std.proofs.lemmas.List.Folds.{find-set, find_past, find-append, find_at}
use Rattle.std.proofs.lemmas.List.Quantifiers.{position-Some}
use Rattle.seg_tokens.specs.declared.token.Token.{Token}
use Rattle.seg_tokens.specs.RegisteredTokenizers.{item_named, Registers}

apart : (a b c : List ℕ) → a ≡ b → bytes_eq b c ≡ false → bytes_eq a c ≡ false
apart a b c e n = ap (λ x. bytes_eq x c) e ∙ n

pub option_or-None : {X : Type 0} (o : Option X) → option_or o None ≡ o
option_or-None None = refl
option_or-None (Some x) = refl

picked : (b : Bool) (i n : ℕ) → Some i ≡ cond b (Some n) None → i ≡ n
picked true i n e = cc
picked false i n e = cc

first_place : {X : Type 0} (p : X → Bool) (xs : List X) (i : ℕ) → Some i ≡ position p xs → i ≡ position_or_len p xs
first_place p xs i e = picked (ltb (position_or_len p xs) (length xs)) i (position_or_len p xs) e

-- what is at a place, if it is one, is what a look-up finds there
at_place : {X : Type 0} (xs : List X) (n : ℕ) (b : Bool) → ltb n (length xs) ≡ b → MatchOption (cond b (Some n) None) (slice_get xs n ≡ None) (λ place. slice_get xs n ≡ slice_get xs place)
at_place xs n true e = refl
at_place xs n false e = slice_get_past xs n (grind (arith, nat_tests))

-- the item with a name is at the first place of the name
pub item_named-place : {X : Type 0} (name_of : X → List ℕ) (xs : List X) (name : List ℕ) (r : Option ℕ) → r ≡ position (λ x. bytes_eq (name_of x) name) xs → MatchOption r (item_named name_of xs name ≡ None) (λ place. item_named name_of xs name ≡ slice_get xs place)
item_named-place name_of xs name r e =
    let P : Option ℕ → Option _ → Type 0 = λ r o. MatchOption r (o ≡ None) (λ place. o ≡ slice_get xs place) in
    let n : ℕ = position_or_len (λ x. bytes_eq (name_of x) name) xs in
    subst (λ r. P r (item_named name_of xs name)) (sym e) (subst (P (position (λ x. bytes_eq (name_of x) name) xs)) (sym (find_at (λ x. bytes_eq (name_of x) name) xs)) (at_place xs n (ltb n (length xs)) refl))

-- an item that is there is the item with the name
pub found_at : {X : Type 0} (name_of : X → List ℕ) (xs : List X) (name : List ℕ) (r : Option ℕ) (place : ℕ) (x : X) → r ≡ Some place → r ≡ position (λ x. bytes_eq (name_of x) name) xs → x ≡ get_or xs place x → item_named name_of xs name ≡ Some x
found_at name_of xs name r place x is at e =
    let stands : item_named name_of xs name ≡ slice_get xs place = item_named-place name_of xs name (Some place) (sym is ∙ at) in
    stands ∙ slice_get_read xs (length xs) place x refl (position-Some (λ x. bytes_eq (name_of x) name) xs place x (sym (sym is ∙ at))).0 e

none_found : {X : Type 0} (name_of : X → List ℕ) (xs : List X) (name : List ℕ) → None ≡ position (λ x. bytes_eq (name_of x) name) xs → item_named name_of xs name ≡ None
none_found name_of xs name e = item_named-place name_of xs name None e

module _ {X : Type 0} (name_of : X → List ℕ) where
  -- by its name this item is found, and by each other name what was found before
  abbrev pub Puts : List X → List X → List ℕ → X → Type 0
  Puts old new name x = (q : List ℕ) → item_named name_of new q ≡ cond (bytes_eq name q) (Some x) (item_named name_of old q)

  pub named_at : (xs : List X) (i : ℕ) (d : X) (name : List ℕ) → Some i ≡ position (λ y. bytes_eq (name_of y) name) xs → name_of (get_or xs i d) ≡ name
  named_at xs i d name at = (bytes_decides (name_of (get_or xs i d)) name).0 (position-Some (λ y. bytes_eq (name_of y) name) xs i d (sym at)).1

  pub Puts-replaced : (xs : List X) (i : ℕ) (x : X) (name : List ℕ) → Some i ≡ position (λ y. bytes_eq (name_of y) name) xs → name_of x ≡ name → Puts xs (set xs i x) name x
  Puts-replaced xs i x name at is q = each (bytes_eq name q) refl
    where
      -- the place passes, at this name
      here : (i < length xs) × (bytes_eq (name_of (get_or xs i x)) name ≡ true) × ((k : ℕ) → k < i → bytes_eq (name_of (get_or xs k x)) name ≡ false)
      here = position-Some (λ y. bytes_eq (name_of y) name) xs i x (sym at)

      first : (r : List ℕ) → name ≡ r → item_named name_of (set xs i x) r ≡ Some x
      first r e = subst (λ r. item_named name_of (set xs i x) r ≡ Some x) e (find-set (λ y. bytes_eq (name_of y) name) xs i x (first_place (λ y. bytes_eq (name_of y) name) xs i at) here.0 ((bytes_decides (name_of x) name).1 is))

      each : (b : Bool) → bytes_eq name q ≡ b → item_named name_of (set xs i x) q ≡ cond b (Some x) (item_named name_of xs q)
      each true e = first q ((bytes_decides name q).0 e)
      each false e = find_past (λ y. bytes_eq (name_of y) q) xs i x x (apart (name_of (get_or xs i x)) name q ((bytes_decides (name_of (get_or xs i x)) name).0 here.1) e) (apart (name_of x) name q is e)

  pub Puts-pushed : (xs : List X) (x : X) (name : List ℕ) → None ≡ position (λ y. bytes_eq (name_of y) name) xs → name_of x ≡ name → Puts xs (xs ++ x ∷ []) name x
  Puts-pushed xs x name at is q = find-append (λ y. bytes_eq (name_of y) q) xs (x ∷ []) ∙ each (bytes_eq name q) refl
    where
      each : (b : Bool) → bytes_eq name q ≡ b → option_or (item_named name_of xs q) (item_named name_of (x ∷ []) q) ≡ cond b (Some x) (item_named name_of xs q)
      each true e = subst (λ r. option_or (item_named name_of xs r) (item_named name_of (x ∷ []) r) ≡ Some x) ((bytes_decides name q).0 e) (ap (λ o. option_or o (item_named name_of (x ∷ []) name)) (none_found name_of xs name at) ∙ ap (λ b. cond b (Some x) None) ((bytes_decides (name_of x) name).1 is))
      each false e = ap (λ b. option_or (item_named name_of xs q) (cond b (Some x) None)) (apart (name_of x) name q is e) ∙ option_or-None (item_named name_of xs q)

  pub registers : (old new : List X) (name : List ℕ) (x : X) (tell : X → List ℕ → List Token) → Puts old new name x → Registers (λ q. is_some (item_named name_of old q)) (λ q. is_some (item_named name_of new q)) (λ q text. option_map_or (λ t. tell t text) (item_named name_of old q) []) (λ q text. option_map_or (λ t. tell t text) (item_named name_of new q) []) name (tell x)
  registers old new name x tell puts = record { known = known; registered = λ text. ap (λ o. option_map_or (λ t. tell t text) o []) here; others = λ q text ne. ap (λ o. option_map_or (λ t. tell t text) o []) (there q ne) }
    where
      here : item_named name_of new name ≡ Some x
      here = puts name ∙ cond-true (bytes_eq name name) (Some x) (item_named name_of old name) ((bytes_decides name name).1 refl)

      there : (q : List ℕ) → q ≢ name → item_named name_of new q ≡ item_named name_of old q
      there q ne = puts q ∙ cond-false (bytes_eq name q) (Some x) (item_named name_of old q) (false_from_ne_true (bytes_eq name q) (λ e. ne (sym ((bytes_decides name q).0 e))))

      known_by : (b : Bool) (o : Option X) → is_some (cond b (Some x) o) ≡ (b || is_some o)
      known_by true o = refl
      known_by false o = refl

      known : (q : List ℕ) → is_some (item_named name_of new q) ≡ (bytes_eq name q || is_some (item_named name_of old q))
      known q = ap is_some (puts q) ∙ known_by (bytes_eq name q) (item_named name_of old q)
