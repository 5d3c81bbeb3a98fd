-- The pieces of items, of which each is filled into an empty buffer.
use Rattle.std.specs.Prelude.{◌≡◌, ℕ, ◌*◌, ◌^◌, List, [], ◌∷◌, ◌++◌, map, Option, Some, None, Result, Ok, Err}
use Rattle.std.specs.Borrow.{MutBor}
use Rattle.std.specs.Global.{Vec}
use Rattle.std.specs.Iterator.{Count, at_most, count_add, count_map}
use Rattle.std.specs.List.{flat_map}

-- at most 2 ^ 64 pieces of each item, after those that are left
abbrev pub piece_count : Count → ℕ → Count
piece_count items left = count_add (count_map (λ n. n * 2 ^ 64) items) (at_most left)

module _ {X T E : Type 0} (post : X → MutBor (Vec T) → Result (Unit {0}) E → MutBor (Vec T) → Type 0) where
  -- from an empty buffer the closure may give an answer, and leave pieces
  pub record Fills (x : X) (r : Result (Unit {0}) E) (pieces : List T) : Type 0 where
    pub shown : MutBor (Vec T)
    pub empty : shown.now.items ≡ []
    pub left : MutBor (Vec T)
    pub met : post x shown r left
    pub leaves : left.now.items ≡ pieces

  module _ {I : Type 0} (next : I → Option X → I → Type 0) where
    -- with pieces left it gives the first; else it goes on to the next item, whose refusal it gives, or whose pieces
    pub data Gives : I → List T → Option (Result T E) → I → List T → Type 0 where
      piece : (it : I) (x : T) (left : List T) → Gives it (x ∷ left) (Some (Ok x)) it left
      end : (it after : I) → next it None after → Gives it [] None after []
      refused : (it after : I) (x : X) (e : E) (pieces : List T) → next it (Some x) after → Fills x (Err e) pieces
          → Gives it [] (Some (Err e)) after []
      filled : (it middle after : I) (x : X) (pieces left : List T) (r : Option (Result T E)) → next it (Some x) middle
          → Fills x (Ok tt) pieces → Gives middle pieces r after left → Gives it [] r after left

module _ {X T E : Type 0} (post : X → MutBor (Vec T) → Result (Unit {0}) E → MutBor (Vec T) → Type 0) {I : Type 0}
    (next : I → Option X → I → Type 0) where
  -- one after another, to the end, it gives these
  pub data GivesAll : I → List T → List (Result T E) → Type 0 where
    no_more : (it after : I) (left behind : List T) → Gives post next it left None after behind → GivesAll it left []
    one_more : (it after : I) (left behind : List T) (given : Result T E) (rest : List (Result T E))
        → Gives post next it left (Some given) after behind → GivesAll after behind rest
        → GivesAll it left (given ∷ rest)

  -- of each item to the end the pieces, or in their place its refusal
  pub data InTurn : I → List (Result T E) → Type 0 where
    over : (it after : I) → next it None after → InTurn it []
    pieces_of : (it middle : I) (x : X) (pieces : List T) (rest : List (Result T E)) → next it (Some x) middle
        → Fills post x (Ok tt) pieces → InTurn middle rest → InTurn it (map (λ p. Ok p) pieces ++ rest)
    refusal_of : (it middle : I) (x : X) (e : E) (pieces : List T) (rest : List (Result T E)) → next it (Some x) middle
        → Fills post x (Err e) pieces → InTurn middle rest → InTurn it (Err e ∷ rest)

  -- of each item to the end the closure fills an empty buffer with these
  pub data FillsEach : I → List (List T) → Type 0 where
    none : (it after : I) → next it None after → FillsEach it []
    each : (it middle : I) (x : X) (pieces : List T) (rest : List (List T)) → next it (Some x) middle
        → Fills post x (Ok tt) pieces → FillsEach middle rest → FillsEach it (pieces ∷ rest)

  -- they are the closure's pieces of all items, one after the other
  pub record ArePieces (it : I) (all : List (Result T E)) : Type 0 where
    pub filled : List (List T)
    pub fills : FillsEach it filled
    pub joined : all ≡ map (λ p. Ok p) (flat_map (λ pieces. pieces) filled)
