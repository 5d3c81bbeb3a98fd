-- The text of an array and of an object, item by item.
use Rattle.std.proofs.Common.{◌≡◌, ◌<◌, ℕ, ◌+◌, List, [], ◌∷◌, ◌++◌, length, drop, map, Bool, false, true, Some, slice_get, append_assoc, sym, ap, subst, ◌∙◌}
use Rattle.json.specs.Print.{quoted}
use Rattle.serde_json.specs.Data.{no_members}
use Rattle.serde_json.specs.Written.{comma_if, compact_text, items_text, members_text}
use Rattle.seg_common.proofs.Lists.{drop-slice_get}
use Rattle.seg_values.specs.Tree.{Tree, Document, trees_from, members_from}
use Rattle.seg_model.specs.Fields.{Schema}
use Rattle.seg_text.specs.DocumentText.{pair_json, pairs_items}
use Rattle.seg_values.specs.ValueJson.{value_json, items_json, members_json}
use Rattle.seg_text.specs.PlacedMembers.{value_at, placed_members, ArePlaces}

module _ (before out mid after : List ℕ) (later : Bool) (comma : mid ≡ out ++ comma_if later) where
  -- one more item
  pub one_item : (ts : List Tree) (i : ℕ) (t : Tree) → slice_get ts i ≡ Some t → after ≡ mid ++ compact_text (value_json t) → out ++ items_text later (items_json (trees_from (drop i ts))) ≡ before → after ++ items_text true (items_json (trees_from (drop (i + 1) ts))) ≡ before
  one_item ts i t at is so_far =
      rw (is, comma) (simp append_assoc (sym (ap (λ us. out ++ items_text later (items_json (trees_from us))) (drop-slice_get ts i t at)) ∙ so_far))

  -- one more member
  pub one_member : {K : Type 0} (text : K → List ℕ) (members : List (List ℕ × Tree)) (es rest : List (K × ℕ)) (e : K × ℕ) (m : List ℕ × Tree) → es ≡ e ∷ rest → slice_get members e.1 ≡ Some m → after ≡ mid ++ quoted (text e.0) ++ 58 ∷ compact_text (value_json m.1) → out ++ members_text later (placed_members members (map (λ p. (text p.0, p.1)) es)) ≡ before → after ++ members_text true (placed_members members (map (λ p. (text p.0, p.1)) rest)) ≡ before
  one_member {K} text members es rest e m step at is so_far =
      let here : value_at members e.1 ≡ m.1 = rw at in
      let first = subst (λ (xs : List (K × ℕ)). out ++ members_text later (placed_members members (map (λ p. (text p.0, p.1)) xs)) ≡ before) step so_far in
      let known = subst (λ (v : Tree). out ++ (comma_if later ++ (quoted (text e.0) ++ 58 ∷ (compact_text (value_json v) ++ members_text true (placed_members members (map (λ p. (text p.0, p.1)) rest))))) ≡ before) here first in
      let spelled : after ++ members_text true (placed_members members (map (λ p. (text p.0, p.1)) rest)) ≡ out ++ (comma_if later ++ (quoted (text e.0) ++ 58 ∷ (compact_text (value_json m.1) ++ members_text true (placed_members members (map (λ p. (text p.0, p.1)) rest))))) = rw (is, comma) (simp append_assoc) in
      spelled ∙ known

  -- one more pair
  pub one_pair : (schema : Schema) (ps : Document) (i : ℕ) (p : ℕ × Tree) → slice_get ps i ≡ Some p → after ≡ mid ++ compact_text (pair_json schema p) → out ++ items_text later (pairs_items schema (drop i ps)) ≡ before → after ++ items_text true (pairs_items schema (drop (i + 1) ps)) ≡ before
  one_pair schema ps i p at is so_far =
      let known = sym (ap (λ qs. out ++ items_text later (pairs_items schema qs)) (drop-slice_get ps i p at)) ∙ so_far in
      let spelled : after ++ items_text true (pairs_items schema (drop (i + 1) ps)) ≡ out ++ (comma_if later ++ (compact_text (pair_json schema p) ++ items_text true (pairs_items schema (drop (i + 1) ps)))) = rw (is, comma) (simp append_assoc) in
      spelled ∙ known

module _ {K : Type 0} (text : K → List ℕ) (members : List (List ℕ × Tree)) where
  -- the next place, and those after it
  pub next_place : (es rest : List (K × ℕ)) (e : K × ℕ) → es ≡ e ∷ rest → ArePlaces members (map (λ p. (text p.0, p.1)) es) → (e.1 < length members) × ArePlaces members (map (λ p. (text p.0, p.1)) rest)
  next_place es rest e step are = subst (λ (xs : List (K × ℕ)). ArePlaces members (map (λ p. (text p.0, p.1)) xs)) step are

  -- all members are printed
  pub all_members : (out first end after : List ℕ) (later : Bool) (all started left : List (K × ℕ)) → started ≡ all → left ≡ [] → members_json no_members (members_from members) ≡ placed_members members (map (λ p. (text p.0, p.1)) all) → first ≡ out ++ 123 ∷ [] → end ++ members_text later (placed_members members (map (λ p. (text p.0, p.1)) left)) ≡ first ++ members_text false (placed_members members (map (λ p. (text p.0, p.1)) started)) → after ≡ end ++ 125 ∷ [] → after ≡ out ++ 123 ∷ members_text false (members_json no_members (members_from members))
  all_members out first end after later all started left same none members_are head so_far last =
      let ended = subst (λ (xs : List (K × ℕ)). end ++ members_text later (placed_members members (map (λ p. (text p.0, p.1)) xs)) ≡ first ++ members_text false (placed_members members (map (λ p. (text p.0, p.1)) started))) none so_far in
      let begun = subst (λ (xs : List (K × ℕ)). end ++ 125 ∷ [] ≡ first ++ members_text false (placed_members members (map (λ p. (text p.0, p.1)) xs))) same ended in
      last ∙ begun ∙ rw (head, members_are) (simp append_assoc)
