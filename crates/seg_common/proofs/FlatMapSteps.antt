-- Steps of the adapter, over a buffer that holds what is left in reverse.
use Rattle.std.proofs.Common.{◌≡◌, List, [], ◌∷◌, ◌++◌, reverse, Option, Some, None, Result, Ok, Err, sym, ap, subst, ◌∙◌}
use Rattle.std.specs.Borrow.{MutBor}
use Rattle.std.specs.Global.{Vec}
use Rattle.std.proofs.lemmas.List.{reverse-append, reverse-reverse}
use Rattle.seg_common.specs.FlatPieces.{Fills, Gives, piece, end, refused, filled}

module _ {X T E I : Type 0} (post : X → MutBor (Vec T) → Result (Unit {0}) E → MutBor (Vec T) → Type 0) (next : I → Option X → I → Type 0) where
  pub gives_piece : (it : I) (before after : List T) (x : T) → before ≡ after ++ x ∷ [] → Gives post next it (reverse before) (Some (Ok x)) it (reverse after)
  gives_piece it before after x e = subst (λ (b : List T). Gives post next it b (Some (Ok x)) it (reverse after)) (sym (ap reverse e ∙ reverse-append after (x ∷ []))) (piece it x (reverse after))

  pub gives_end : (it after : I) (before rest : List T) → before ≡ [] → rest ≡ [] → next it None after → Gives post next it (reverse before) None after (reverse rest)
  gives_end it after before rest a b n = subst (λ (b : List T). Gives post next it (reverse b) None after (reverse rest)) (sym a) (subst (λ (r : List T). Gives post next it [] None after (reverse r)) (sym b) (end it after n))

  pub gives_refused : (it after : I) (x : X) (e : E) (pieces before rest : List T) → before ≡ [] → rest ≡ [] → next it (Some x) after → Fills post x (Err e) pieces → Gives post next it (reverse before) (Some (Err e)) after (reverse rest)
  gives_refused it after x e pieces before rest a b n f = subst (λ (b : List T). Gives post next it (reverse b) (Some (Err e)) after (reverse rest)) (sym a) (subst (λ (r : List T). Gives post next it [] (Some (Err e)) after (reverse r)) (sym b) (refused it after x e pieces n f))

  pub gives_filled : (it middle after : I) (x : X) (pieces before turned left : List T) (r : Option (Result T E)) → before ≡ [] → next it (Some x) middle → Fills post x (Ok tt) pieces → turned ≡ reverse pieces → Gives post next middle (reverse turned) r after left → Gives post next it (reverse before) r after left
  gives_filled it middle after x pieces before turned left r a n f t h =
      subst (λ (b : List T). Gives post next it (reverse b) r after left) (sym a)
      (filled it middle after x pieces left r n f (subst (λ (ps : List T). Gives post next middle ps r after left) (ap reverse t ∙ reverse-reverse pieces) h))
