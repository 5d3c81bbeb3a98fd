-- What the adapter gives, one after another, is of each item in turn.
use Rattle.std.proofs.Common.{◌≡◌, List, [], ◌∷◌, ◌++◌, map, Option, Some, None, Result, Ok, Err, refl, sym, ap, subst, ◌∙◌}
use Rattle.std.specs.Prelude.{IsOk, MatchOption}
use Rattle.std.specs.Borrow.{MutBor}
use Rattle.std.specs.Global.{Vec}
use Rattle.std.specs.List.{AllByRecursion, flat_map}
use Rattle.std.proofs.lemmas.Bool.{false≢true}
use Rattle.seg_common.specs.FlatPieces.{Fills, Gives, piece, end, refused, filled, GivesAll, no_more, one_more, InTurn, over, pieces_of, refusal_of, FillsEach, none, each, ArePieces}

module _ {T E : Type 0} where
  oks_append : (ps qs : List T) → map {B = Result T E} (λ p. Ok p) (ps ++ qs) ≡ map (λ p. Ok p) ps ++ map (λ p. Ok p) qs
  oks_append [] qs = refl
  oks_append (p ∷ ps) qs = ap (λ (rs : List (Result T E)). Ok p ∷ rs) (oks_append ps qs)

  rest_ok : (ps : List T) (rest : List (Result T E)) → AllByRecursion IsOk (map (λ p. Ok p) ps ++ rest) → AllByRecursion IsOk rest
  rest_ok [] rest h = h
  rest_ok (p ∷ ps) rest h = rest_ok ps rest h.1

module _ {X T E I : Type 0} (post : X → MutBor (Vec T) → Result (Unit {0}) E → MutBor (Vec T) → Type 0) (next : I → Option X → I → Type 0) where
  -- in turn after pieces that are left
  abbrev TurnFrom : I → List T → List (Result T E) → Type 0
  TurnFrom it left all = (rest : List (Result T E)) × InTurn post next it rest × (all ≡ map (λ p. Ok p) left ++ rest)

  abbrev Told : I → List T → Option (Result T E) → I → List T → Type 0
  Told it left r after behind = MatchOption r (TurnFrom it left []) (λ y. (rest : List (Result T E)) → TurnFrom after behind rest → TurnFrom it left (y ∷ rest))

  before : (it middle after : I) (x : X) (pieces left : List T) (r : Option (Result T E)) → next it (Some x) middle → Fills post x (Ok tt) pieces → Told middle pieces r after left → Told it [] r after left
  before it middle after x pieces left None n f (rest, fold, e) = (map (λ p. Ok p) pieces ++ rest, pieces_of it middle x pieces rest n f fold, e)
  before it middle after x pieces left (Some y) n f h = λ rest from. with_it (h rest from)
    where
      with_it : {out : List (Result T E)} → TurnFrom middle pieces out → TurnFrom it [] out
      with_it (rest, fold, e) = (map (λ p. Ok p) pieces ++ rest, pieces_of it middle x pieces rest n f fold, e)

  told : (it : I) (left : List T) (r : Option (Result T E)) (after : I) (behind : List T) → Gives post next it left r after behind → Told it left r after behind
  told _ _ _ _ _ (piece it x left) = λ rest (more, fold, e). (more, fold, ap (λ (rs : List (Result T E)). Ok x ∷ rs) e)
  told _ _ _ _ _ (end it after n) = ([], over it after n, refl)
  told _ _ _ _ _ (refused it after x e pieces n f) = λ rest (more, fold, q). (Err e ∷ more, refusal_of it after x e pieces more n f fold, ap (λ (rs : List (Result T E)). Err e ∷ rs) q)
  told _ _ _ _ _ (filled it middle after x pieces left r n f h) = before it middle after x pieces left r n f (told middle pieces r after left h)

  turn_from : (it : I) (left : List T) (all : List (Result T E)) → GivesAll post next it left all → TurnFrom it left all
  turn_from _ _ _ (no_more it after left behind g) = told it left None after behind g
  turn_from _ _ _ (one_more it after left behind given rest g h) = told it left (Some given) after behind g rest (turn_from after behind rest h)

  at_start : (it : I) (all : List (Result T E)) → TurnFrom it [] all → InTurn post next it all
  at_start it all (rest, fold, e) = subst (InTurn post next it) (sym e) fold

  pub in_turn : (it : I) (all : List (Result T E)) → GivesAll post next it [] all → InTurn post next it all
  in_turn it all h = at_start it all (turn_from it [] all h)

  pieces_first : (it middle : I) (x : X) (pieces : List T) (rest : List (Result T E)) → next it (Some x) middle → Fills post x (Ok tt) pieces → ArePieces post next middle rest → ArePieces post next it (map (λ p. Ok p) pieces ++ rest)
  pieces_first it middle x pieces rest n f a = record {
    filled = pieces ∷ a.filled;
    fills = each it middle x pieces a.filled n f a.fills;
    joined = ap (λ (rs : List (Result T E)). map (λ p. Ok p) pieces ++ rs) a.joined ∙ sym (oks_append pieces (flat_map (λ ps. ps) a.filled));
  }

  pub are_pieces : (it : I) (all : List (Result T E)) → InTurn post next it all → AllByRecursion IsOk all → ArePieces post next it all
  are_pieces _ _ (over it after n) h = record { filled = []; fills = none it after n; joined = refl }
  are_pieces _ _ (pieces_of it middle x pieces rest n f fold) h = pieces_first it middle x pieces rest n f (are_pieces middle rest fold (rest_ok pieces rest h))
  are_pieces _ _ (refusal_of it middle x e pieces rest n f fold) h = absurd (false≢true h.0)
