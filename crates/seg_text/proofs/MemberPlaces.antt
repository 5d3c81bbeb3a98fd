-- The places of the last members of keys, as members are walked through.
use Rattle.std.proofs.Common.{◌≡◌, ◌<◌, ℕ, ◌+◌, List, [], ◌∷◌, length, drop, map, Ordering, Less, Equal, Greater, nat_cmp, Some, slice_get, refl, sym, ap, subst, ◌∙◌}
use Rattle.std.specs.Cmp.Lexicographic.{slice_cmp}
use Rattle.std.specs.Ordering.{match_ordering}
use Rattle.std.specs.BTreeMap.{insert_entry}
use Rattle.serde_json.specs.Data as json
use Rattle.serde_json.specs.Data.{put}
use Rattle.seg_common.proofs.Lists.{drop-slice_get}
use Rattle.seg_values.specs.Tree.{Tree, members_from}
use Rattle.seg_values.specs.ValueJson.{value_json, members_json}
use Rattle.seg_text.specs.PlacedMembers.{value_at, placed_members, ArePlaces}

module _ {K : Type 0} (text : K → List ℕ) (members : List (List ℕ × Tree)) where
  abbrev keyed : List (K × ℕ) → List (List ℕ × ℕ)
  keyed es = map (λ e. (text e.0, e.1)) es

  abbrev compare : K → K → Ordering
  compare a b = slice_cmp nat_cmp (text a) (text b)

  placed-match : (o : Ordering) (a b c : List (K × ℕ)) → placed_members members (keyed (match_ordering o a b c)) ≡ match_ordering o (placed_members members (keyed a)) (placed_members members (keyed b)) (placed_members members (keyed c))
  placed-match Less a b c = refl
  placed-match Equal a b c = refl
  placed-match Greater a b c = refl

  placed-insert : (es : List (K × ℕ)) (k : K) (i : ℕ) → placed_members members (keyed (insert_entry compare es k i)) ≡ put (text k) (value_json (value_at members i)) (placed_members members (keyed es))
  placed-insert [] k i = refl
  placed-insert (e ∷ es) k i = placed-match (compare k e.0) ((k, i) ∷ e ∷ es) ((e.0, i) ∷ es) (e ∷ insert_entry compare es k i) ∙ rw (placed-insert es k i)

  places-match : (o : Ordering) (a b c : List (K × ℕ)) → ArePlaces members (keyed a) → ArePlaces members (keyed b) → ArePlaces members (keyed c) → ArePlaces members (keyed (match_ordering o a b c))
  places-match Less a b c p q r = p
  places-match Equal a b c p q r = q
  places-match Greater a b c p q r = r

  places-insert : (es : List (K × ℕ)) (k : K) (i : ℕ) → i < length members → ArePlaces members (keyed es) → ArePlaces members (keyed (insert_entry compare es k i))
  places-insert [] k i small are = (small, tt)
  places-insert (e ∷ es) k i small are = places-match (compare k e.0) ((k, i) ∷ e ∷ es) ((e.0, i) ∷ es) (e ∷ insert_entry compare es k i) (small, are) (small, are.1) (are.0, places-insert es k i small are.1)

  module _ (es more : List (K × ℕ)) (k : K) (i : ℕ) (v : Tree) (at : slice_get members i ≡ Some (text k, v)) (is : more ≡ insert_entry compare es k i) where
    -- one more member is placed
    pub one_placed : members_json json.no_members (members_from members) ≡ members_json (placed_members members (keyed es)) (members_from (drop i members)) → members_json json.no_members (members_from members) ≡ members_json (placed_members members (keyed more)) (members_from (drop (i + 1) members))
    one_placed so_far =
        let here : value_at members i ≡ v = rw at in
        let now : placed_members members (keyed more) ≡ put (text k) (value_json v) (placed_members members (keyed es)) = rw is (placed-insert es k i ∙ ap (λ t. put (text k) (value_json t) (placed_members members (keyed es))) here) in
        so_far ∙ ap (λ ms. members_json (placed_members members (keyed es)) (members_from ms)) (drop-slice_get members i (text k, v) at) ∙ ap (λ b. members_json b (members_from (drop (i + 1) members))) (sym now)

    pub places_placed : i < length members → ArePlaces members (keyed es) → ArePlaces members (keyed more)
    places_placed small are = subst (λ ms. ArePlaces members (keyed ms)) (sym is) (places-insert es k i small are)
