-- The filter of a batch that a JSON value says.
use Rattle.std.specs.Prelude.{ℕ, ◌^◌, List, [], ◌∷◌, map, Bool, true, not, ◌&&◌, Option, Some, nat_eq, nat_lt, codes}
use Rattle.std.specs.List.{list_any, range_with_len}
use Rattle.serde_json.specs.Data.{Data}
use Rattle.seg_model.specs.Input.{Filter}
use Rattle.seg_meta.specs.JsonReaders.{given, provided, required, below, list_of, has_only}

-- each number is below the next
abbrev pub ascends : List ℕ → Bool
ascends [] = true
ascends (n ∷ []) = true
ascends (n ∷ m ∷ ns) = nat_lt n m && ascends (m ∷ ns)

-- of this many documents all are kept but these
abbrev pub all_but : ℕ → List ℕ → Filter
all_but size dropped = map (λ document. not (list_any (nat_eq document) dropped)) (range_with_len 0 size)

-- the members of a filter
abbrev pub filter_members : List (List ℕ)
filter_members = codes "size" ∷ codes "drop" ∷ []

-- the number of a batch's documents, and those that are dropped, in ascending order
abbrev pub filter_from : Data → Option Filter
filter_from d =
    provided (has_only filter_members d)
    (given (required (below (2 ^ 32)) (codes "size") d) (λ size.
    given (required (list_of (below size)) (codes "drop") d) (λ dropped.
    provided (ascends dropped) (Some (all_but size dropped)))))
