-- A list that is read item by item.
use Rattle.std.proofs.Common.{◌≡◌, ℕ, ◌+◌, ◌<◌, drop, get_or, List, [], ◌∷◌, ◌++◌, length, Option, Some, None, option_map, sym, ap, ◌∙◌}
use Rattle.serde_json.specs.Data.{Data}
use Rattle.serde_json.specs.View.{view, items_view}
use Rattle.serde_json.specs.declared.value.Value.{Value}
use Rattle.seg_meta.specs.JsonReaders.{given, each, list_of}
use Rattle.seg_meta.proofs.Exports.{left-cons, one_behind, so_far}

module _ {A : Type 0} (read : Data → Option A) (d : Data) (vs : List Value) (i : ℕ) (v : Value) (done : List A) where
  -- this many items were read, and the rest is still to be read
  pub record AtItem : Type 0 where
    pub inside : i < length vs
    pub is : v ≡ get_or vs i v
    pub so_far : so_far read done (items_view (drop i vs)) ≡ list_of read d

  abbrev next : Option A → Option (List A)
  next o = option_map (λ rest. done ++ rest) (given o (λ a. option_map (λ xs. a ∷ xs) (each read (items_view (drop (i + 1) vs)))))

  at_next : AtItem → next (read (view v)) ≡ list_of read d
  at_next h = ap (so_far read done) (sym (left-cons vs i v h.inside h.is)) ∙ h.so_far

  -- an item that can't be read leaves nothing
  pub unread : AtItem → read (view v) ≡ None → list_of read d ≡ None
  unread h none = sym (ap next (sym none) ∙ at_next h)

  -- one more item
  pub one_more : AtItem → (new : List A) (x : A) → read (view v) ≡ Some x → new ≡ done ++ x ∷ [] → so_far read new (items_view (drop (i + 1) vs)) ≡ list_of read d
  one_more h new x some more =
      ap (λ xs. so_far read xs (items_view (drop (i + 1) vs))) more ∙ one_behind done x (each read (items_view (drop (i + 1) vs)))
      ∙ ap next (sym some) ∙ at_next h
