-- The lists of an object, to which items are added in their place.
use Rattle.std.proofs.Common.{◌≡◌, ℕ, List, [], ◌∷◌, ◌++◌, cond, Option, Some, None, String, Vec, Global, Ordering, Less, Equal, Greater, string_bytes, string_cmp, nat_cmp, is_eq, refl, sym, ap, ◌∙◌}
use Rattle.std.proofs.lemmas.Cmp.{nat_list_cmp_total}
use Rattle.std.proofs.lemmas.Option.{none-some}
use Rattle.std.specs.BTreeMap.{is_at}
use Rattle.std.specs.Cmp.Lexicographic.{slice_cmp}
use Rattle.std.specs.List.{AllByRecursion}
use Rattle.std.specs.List.Sorted.{IsStrictlySortedBy}
use Rattle.std.specs.Map.{keys_of, lookup, set_value}
use Rattle.std.specs.Option.{option_map}
use Rattle.std.specs.Ordering.{match_ordering}
use Rattle.serde_json.proofs.Views.{view-Array, view-lookup}
use Rattle.serde_json.specs.Data as json
use Rattle.serde_json.specs.Data.{Data, Items, member, put}
use Rattle.serde_json.specs.Find.{as_array}
use Rattle.serde_json.specs.View.{view, items_view, members_view}
use Rattle.serde_json.specs.declared.value.Value.{Value, Array}
use Rattle.seg_values.specs.DocumentJson.{with_last, grown, with_item}

abbrev Entry : Type 0
Entry = String Global × Value

-- whether a key is this name
abbrev pub named : List ℕ → String Global → Ordering
named name k = slice_cmp nat_cmp name (string_bytes k)

-- ---- a list and one more item

pub grown_list : (x : Data) (ds : Items) (d : Data) → Some ds ≡ as_array x → grown (Some x) d ≡ json.array (with_last ds d)
grown_list json.null ds d h = absurd cc
grown_list (json.boolean b) ds d h = absurd cc
grown_list (json.number n) ds d h = absurd cc
grown_list (json.string s) ds d h = absurd cc
grown_list (json.array es) ds d h = let same : es ≡ ds = cc in ap (λ (l : Items). json.array (with_last l d)) same
grown_list (json.object ms) ds d h = absurd cc

pub grown_other : (x d : Data) → None ≡ as_array x → grown (Some x) d ≡ x
grown_other json.null d h = refl
grown_other (json.boolean b) d h = refl
grown_other (json.number n) d h = refl
grown_other (json.string s) d h = refl
grown_other (json.array es) d h = absurd cc
grown_other (json.object ms) d h = refl

items_last : (vs : List Value) (v : Value) → items_view (vs ++ v ∷ []) ≡ with_last (items_view vs) (view v)
items_last [] v = refl
items_last (x ∷ vs) v = ap (json.item (view x)) (items_last vs v)

pub list_grown : (old : Data) (vs : List Value) (list : Vec Value Global) (v : Value) → Some (items_view vs) ≡ as_array old → list.items ≡ vs ++ v ∷ [] → view (Array list) ≡ grown (Some old) (view v)
list_grown old vs list v found is =
    view-Array list ∙ ap (λ (l : List Value). json.array (items_view l)) is ∙ ap json.array (items_last vs v) ∙ sym (grown_list old (items_view vs) (view v) found)

-- ---- a member's value that is written

none_behind : (name : List ℕ) (k : String Global) (es : List Entry) → slice_cmp nat_cmp name (string_bytes k) ≡ Less → AllByRecursion (λ y. string_cmp k y ≡ Less) (keys_of es) → lookup (is_at (named name)) es ≡ None
none_behind name k [] less h = refl
none_behind name k (e ∷ es) less h =
    let before : slice_cmp nat_cmp name (string_bytes e.0) ≡ Less = nat_list_cmp_total.trans name (string_bytes k) (string_bytes e.0) less h.0 in
    ap (λ (o : Ordering). cond (is_eq o) (Some e.1) (lookup (is_at (named name)) es)) before ∙ none_behind name k es less h.1

written_at : (o : Ordering) (name : List ℕ) (e : Entry) (es : List Entry) (v w : Value) → cond (is_eq o) (Some e.1) (lookup (is_at (named name)) es) ≡ Some v
    → (o ≡ Less → lookup (is_at (named name)) es ≡ None)
    → (lookup (is_at (named name)) es ≡ Some v → members_view (set_value (is_at (named name)) es w) ≡ put name (view w) (members_view es))
    → members_view (cond (is_eq o) ((e.0, w) ∷ es) (e ∷ set_value (is_at (named name)) es w)) ≡ match_ordering o (member name (view w) (member (string_bytes e.0) (view e.1) (members_view es))) (member (string_bytes e.0) (view w) (members_view es)) (member (string_bytes e.0) (view e.1) (put name (view w) (members_view es)))
written_at Less name e es v w found none later = absurd (none-some v (sym (none refl) ∙ found))
written_at Equal name e es v w found none later = refl
written_at Greater name e es v w found none later = ap (member (string_bytes e.0) (view e.1)) (later found)

written : (name : List ℕ) (es : List Entry) (v w : Value) → IsStrictlySortedBy string_cmp (keys_of es) → lookup (is_at (named name)) es ≡ Some v
    → members_view (set_value (is_at (named name)) es w) ≡ put name (view w) (members_view es)
unfolding IsStrictlySortedBy
written name [] v w sorted found = absurd (none-some v found)
written name (e ∷ es) v w sorted found =
    written_at (slice_cmp nat_cmp name (string_bytes e.0)) name e es v w found (λ less. none_behind name e.0 es less sorted.0) (λ later. written name es v w sorted.1 later)

-- the list of a name gets one more item
pub item_added : (name : List ℕ) (es fs : List Entry) (v w : Value) (d : Data) → IsStrictlySortedBy string_cmp (keys_of es) → Some v ≡ lookup (is_at (named name)) es → fs ≡ set_value (is_at (named name)) es w
    → view w ≡ grown (Some (view v)) d → members_view fs ≡ with_item name d (members_view es)
item_added name es fs v w d sorted found is told =
    ap members_view is ∙ written name es v w sorted (sym found)
    ∙ ap (λ (x : Data). put name x (members_view es)) told
    ∙ ap (λ (o : Option Data). put name (grown o d) (members_view es)) (ap (option_map view) found ∙ view-lookup name es)

-- a name that isn't there gets the list of one item
pub item_first : (name : List ℕ) (es fs gs : List Entry) (list : Vec Value Global) (v : Value) → es ≡ gs → None ≡ lookup (is_at (named name)) gs → list.items ≡ v ∷ []
    → members_view fs ≡ put name (view (Array list)) (members_view es) → members_view fs ≡ with_item name (view v) (members_view gs)
item_first name es fs gs list v same missing single is =
    is ∙ ap (λ (l : List Entry). put name (view (Array list)) (members_view l)) same
    ∙ ap (λ (x : Data). put name x (members_view gs)) (view-Array list ∙ ap (λ (l : List Value). json.array (items_view l)) single)
    ∙ ap (λ (o : Option Data). put name (grown o (view v)) (members_view gs)) (ap (option_map view) missing ∙ view-lookup name gs)
