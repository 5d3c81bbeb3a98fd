-- A list of distinct items that is read item by item.
use Rattle.std.proofs.Common.{append_assoc, append-nil, length-append, ◌≡◌, ℕ, suc, ◌+◌, ◌≤◌, ◌<◌, drop, drop-cons, get_or, List, [], ◌∷◌, ◌++◌, length, Bool, true, false, ◌&&◌, Option, Some, None, option_map, nat_lt, refl, sym, ap, ◌∙◌, arith, add-one}
use Rattle.std.proofs.lemmas.Bool.Decides.{nat_tests}
use Rattle.std.specs.List.{list_any}
use Rattle.serde_json.specs.Data.{Data, Items, item}
use Rattle.serde_json.specs.Find.{as_array}
use Rattle.serde_json.specs.View.{view, items_view}
use Rattle.serde_json.specs.declared.value.Value.{Value}
use Rattle.seg_values.specs.DistinctLists.{all_distinct}
use Rattle.seg_values.proofs.Exports.{all_distinct-again, all_distinct-push}
use Rattle.seg_meta.specs.ParsedMeta.{distinct_list}
use Rattle.seg_meta.specs.JsonReaders.{given, provided, each, list_of}

-- what was read so far, and then what is left
abbrev pub so_far : {A : Type 0} → (Data → Option A) → List A → Items → Option (List A)
so_far read done left = option_map (λ rest. done ++ rest) (each read left)

-- this many distinct items are what was read of a list, and these are left
pub record IsReadSoFar {A : Type 0} (read : Data → Option A) (alike : A → A → Bool) (d : Data) (done : List A) (left : Items) (count : ℕ) : Type 0 where
  pub whole : so_far read done left ≡ list_of read d
  pub distinct : all_distinct alike done ≡ true
  pub counted : length done ≡ count

-- the first of the items that are left
pub left-cons : (vs : List Value) (i : ℕ) (v : Value) → i < length vs → v ≡ get_or vs i v → items_view (drop i vs) ≡ item (view v) (items_view (drop (i + 1) vs))
left-cons vs i v h is = rw (add-one, drop-cons vs i v, ← is)

-- as many are read as there are items
one_more : {X : Type 0} (n : ℕ) (o : Option X) (r : Option (List X)) → ((ys : List X) → r ≡ Some ys → length ys ≡ n) → (xs : List X) → given o (λ a. option_map (λ as'. a ∷ as') r) ≡ Some xs → length xs ≡ suc n
one_more n None r f xs h = cc
one_more n (Some a) None f xs h = cc
one_more n (Some a) (Some ys) f xs h = let e : a ∷ ys ≡ xs = cc in ap length (sym e) ∙ ap suc (f ys refl)

length-each : {X : Type 0} (read : Data → Option X) (vs : List Value) (xs : List X) → each read (items_view vs) ≡ Some xs → length xs ≡ length vs
length-each read [] xs h = let e : [] ≡ xs = cc in ap length (sym e)
length-each read (v ∷ vs) xs h = one_more (length vs) (read (view v)) (each read (items_view vs)) (length-each read vs) xs h

module _ {A : Type 0} (read : Data → Option A) (alike : A → A → Bool) (limit : ℕ) where
  -- what becomes of the items
  abbrev kept : List A → Option (List A)
  kept xs = provided (all_distinct alike xs && nat_lt (length xs) limit) (Some xs)

  not_below : (t : Bool) (n : ℕ) (xs : List A) → limit ≤ n → provided (t && nat_lt n limit) (Some xs) ≡ None
  not_below true n xs h = let e : nat_lt n limit ≡ false = grind (arith, nat_tests) in rw e
  not_below false n xs h = refl

  none_kept : (o : Option (List A)) (count : ℕ) → ((xs : List A) → o ≡ Some xs → length xs ≡ count) → limit ≤ count → given o kept ≡ None
  none_kept None count f h = refl
  none_kept (Some xs) count f h = not_below (all_distinct alike xs) (length xs) xs (let e : length xs ≡ count = f xs refl in rw e h)

  -- too many items are no such list
  pub distinct_list-long : (d : Data) (vs : List Value) → Some (items_view vs) ≡ as_array d → limit ≤ length vs → distinct_list read alike limit d ≡ None
  distinct_list-long d vs is h = rw (sym is) (none_kept (each read (items_view vs)) (length vs) (length-each read vs) h)

  -- an item that can't be read leaves none
  pub distinct_list-unread : (d v : Data) (done : List A) (left : Items) (count : ℕ) → IsReadSoFar read alike d done (item v left) count → read v ≡ None → distinct_list read alike limit d ≡ None
  distinct_list-unread d v done left count h is =
      ap (λ o. given o kept) (sym h.whole) ∙ ap (λ o. given (option_map (λ rest. done ++ rest) (given o (λ a. option_map (λ xs. a ∷ xs) (each read left)))) kept) is

  -- all items, where they are distinct and few
  pub distinct_list-whole : (d : Data) (done : List A) (count : ℕ) → IsReadSoFar read alike d done (items_view []) count → count < limit → distinct_list read alike limit d ≡ Some done
  distinct_list-whole d done count h few =
      let below : nat_lt (length done) limit ≡ true = grind (arith, nat_tests, h.counted) in
      ap (λ o. given o kept) (sym h.whole) ∙ rw (append-nil done, h.distinct, below) refl

  module _ (both_ways : (x y : A) → alike x y ≡ alike y x) where
    twice : (done : List A) (x : A) (r : Option (List A)) → list_any (λ y. alike y x) done ≡ true
        → given (option_map (λ rest. done ++ rest) (option_map (λ xs. x ∷ xs) r)) kept ≡ None
    twice done x None h = refl
    twice done x (Some xs) h = rw (all_distinct-again alike both_ways done x xs h)

    -- an item that comes again leaves none
    pub distinct_list-again : (d v : Data) (done : List A) (left : Items) (count : ℕ) (x : A)
        → IsReadSoFar read alike d done (item v left) count → read v ≡ Some x → list_any (λ y. alike y x) done ≡ true → distinct_list read alike limit d ≡ None
    distinct_list-again d v done left count x h is there =
        ap (λ o. given o kept) (sym h.whole)
        ∙ ap (λ o. given (option_map (λ rest. done ++ rest) (given o (λ a. option_map (λ xs. a ∷ xs) (each read left)))) kept) is
        ∙ twice done x (each read left) there

-- one more item joins what was read before
pub one_behind : {A : Type 0} (done : List A) (x : A) (r : Option (List A)) → option_map (λ rest. (done ++ x ∷ []) ++ rest) r ≡ option_map (λ rest. done ++ rest) (option_map (λ xs. x ∷ xs) r)
one_behind done x None = refl
one_behind done x (Some xs) = ap Some (append_assoc done (x ∷ []) xs)

-- one more item, unlike all before it
pub step : {A : Type 0} (read : Data → Option A) (alike : A → A → Bool) → ((x y : A) → alike x y ≡ alike y x)
    → (d v : Data) (done new : List A) (left : Items) (count : ℕ) (x : A)
    → IsReadSoFar read alike d done (item v left) count → read v ≡ Some x → new ≡ done ++ x ∷ [] → list_any (λ y. alike y x) done ≡ false → IsReadSoFar read alike d new left (count + 1)
step read alike both_ways d v done new left count x h is more unlike = record {
  whole = ap (λ xs. so_far read xs left) more ∙ one_behind done x (each read left)
      ∙ ap (λ o. option_map (λ rest. done ++ rest) (given o (λ a. option_map (λ xs. a ∷ xs) (each read left)))) (sym is) ∙ h.whole;
  distinct = rw more (all_distinct-push alike both_ways done x h.distinct unlike);
  counted = ap length more ∙ length-append done (x ∷ []) ∙ ap (λ n. n + 1) h.counted;
}
