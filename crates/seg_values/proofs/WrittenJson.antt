-- Values and members that are written as JSON one after another.
use Rattle.std.proofs.Common.{◌≡◌, ℕ, ◌+◌, List, [], ◌∷◌, ◌++◌, map, drop, Some, slice_get, refl, sym, ap, ◌∙◌}
use Rattle.serde_json.specs.Data as json
use Rattle.serde_json.specs.Data.{Data, Items, item, no_items, put}
use Rattle.serde_json.specs.View.{items_of}
use Rattle.seg_common.proofs.Lists.{drop-slice_get}
use Rattle.seg_values.specs.Tree.{Tree, trees_from, members_from}
use Rattle.seg_values.specs.ValueJson.{value_json, items_json, members_json}

-- items, and then the rest
abbrev pub followed : List Data → Items → Items
followed [] rest = rest
followed (d ∷ ds) rest = item d (followed ds rest)

pub followed_one : (ds : List Data) (d : Data) (rest : Items) → followed (ds ++ d ∷ []) rest ≡ followed ds (item d rest)
followed_one [] d rest = refl
followed_one (x ∷ ds) d rest = ap (item x) (followed_one ds d rest)

pub followed_none : (ds : List Data) → followed ds no_items ≡ items_of ds
followed_none [] = refl
followed_none (x ∷ ds) = ap (item x) (followed_none ds)

module _ {V : Type 0} (shown : V → Data) where
  -- one more item
  pub item_more : (vs more : List V) (v : V) (rest all : Items) → more ≡ vs ++ v ∷ [] → followed (map shown vs) (item (shown v) rest) ≡ all → followed (map shown more) rest ≡ all
  item_more vs more v rest all is so_far = ap (λ l. followed (map shown l) rest) is ∙ by vs ∙ so_far
    where
      by : (vs : List V) → followed (map shown (vs ++ v ∷ [])) rest ≡ followed (map shown vs) (item (shown v) rest)
      by [] = refl
      by (x ∷ vs) = ap (item (shown x)) (by vs)

  -- one more value of an array
  pub value_more : (vs more : List V) (v : V) (ts : List Tree) (i : ℕ) (t : Tree) (all : Items) → slice_get ts i ≡ Some t → shown v ≡ value_json t → more ≡ vs ++ v ∷ []
      → followed (map shown vs) (items_json (trees_from (drop i ts))) ≡ all
      → followed (map shown more) (items_json (trees_from (drop (i + 1) ts))) ≡ all
  value_more vs more v ts i t all at told is so_far =
      item_more vs more v (items_json (trees_from (drop (i + 1) ts))) all is
      (ap (λ d. followed (map shown vs) (item d (items_json (trees_from (drop (i + 1) ts))))) told
      ∙ sym (ap (λ us. followed (map shown vs) (items_json (trees_from us))) (drop-slice_get ts i t at))
      ∙ so_far)

-- one more member of an object
pub member_more : (before after : json.Members) (ms : List (List ℕ × Tree)) (i : ℕ) (k : List ℕ) (t : Tree) (d : Data) (all : json.Members) → slice_get ms i ≡ Some (k, t) → d ≡ value_json t → after ≡ put k d before
    → members_json before (members_from (drop i ms)) ≡ all
    → members_json after (members_from (drop (i + 1) ms)) ≡ all
member_more before after ms i k t d all at told is so_far =
    ap (λ b. members_json b (members_from (drop (i + 1) ms))) (is ∙ ap (λ e. put k e before) told)
    ∙ sym (ap (λ us. members_json before (members_from us)) (drop-slice_get ms i (k, t) at))
    ∙ so_far
