use Rattle.std.proofs.Common.{◌≡◌, ◌∷◌, ◌∙◌, ap, refl, inr}
use Rattle.std.proofs.lemmas.Result.{err_from_is_err_and}
use Rattle.seg_values.specs.ValueTrees.{tree_of}
use Rattle.seg_access.specs.declared.pieces.Piece.{Piece}
use Rattle.seg_access.specs.Pieces.{mark_of, field, SpellsNone}
use Rattle.seg_access.proofs.DocumentPieces.{none_after, none_at_no_field, none_at_no_value, pair_more}
use Rattle.seg_access.proofs.PieceHeads.{field_piece}
use Rattle.seg_access.proofs.SpelledTrees.{refused}
use Rattle.seg_access.proofs.document_deserialize.document_from.Goals as goal

pub returns-in_default-piece : goal.returns-in_default-piece
returns-in_default-piece c = record {
  ok = tt;
  end = tt;
  err = inr (refl, none_after c.loop-piece.document c.args.pieces.now c.loop-piece.pieces c.loop-piece.invariant (none_at_no_field (mark_of c.in-Some.piece) c.loop-piece.pieces c.take_next.new.self c.in-Some.ensures (λ f e. c.in_default-piece.not-FieldOf f (field_piece c.in-Some.piece f e))));
}

pub returns-in_err-from_pieces-clause-err : goal.returns-in_err-from_pieces-clause-err
returns-in_err-from_pieces-clause-err c =
    let head : c.loop-piece.pieces ≡ field c.in-FieldOf.field ∷ c.take_next.new.self = c.in-Some.ensures ∙ ap (λ (p : Piece). mark_of p ∷ c.take_next.new.self) c.in-FieldOf.is in
    let p = err_from_is_err_and c.from_residual.result c.from_residual.ensures.1 in
    rw (p.1, p.2)
    (refused c.in_err-from_pieces.field-0.0 (λ (none : SpellsNone c.take_next.new.self). none_after c.loop-piece.document c.args.pieces.now c.loop-piece.pieces c.loop-piece.invariant (none_at_no_value c.in-FieldOf.field c.loop-piece.pieces c.take_next.new.self head none))
    c.in_err-from_pieces.ensures.err)

pub loop-piece-preserved : goal.loop-piece-preserved
loop-piece-preserved c =
    let head : c.loop-piece.pieces ≡ field c.in-FieldOf.field ∷ c.take_next.new.self = c.in-Some.ensures ∙ ap (λ (p : Piece). mark_of p ∷ c.take_next.new.self) c.in-FieldOf.is in
    pair_more c.args.pieces.now c.loop-piece.pieces c.take_next.new.self c.from_pieces.new.pieces c.loop-piece.document c.add_field_value.new.self c.in-FieldOf.field (tree_of c.in_ok-from_pieces.field-0) c.loop-piece.invariant head c.in_ok-from_pieces.ensures.ok c.in_ok-add_field_value.ensures.ok
