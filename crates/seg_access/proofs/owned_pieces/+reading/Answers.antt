use Rattle.std.proofs.Common.{◌≡◌, [], ◌∷◌, ◌∙◌, ap, length, refl, inr, rules, arith}
use Rattle.std.proofs.lemmas.Result.{err_from_is_err_and}
use Rattle.seg_values.specs.ValueTrees.{tree_of}
use Rattle.seg_access.specs.declared.pieces.Piece.{Piece}
use Rattle.seg_access.specs.Pieces.{mark_of, values, members}
use Rattle.seg_access.proofs.PieceHeads.{none_at_misplaced}
use Rattle.seg_access.proofs.SpelledTrees.{none_at_end, none_at_values, none_at_members, none_more, no_key_more, no_value_more, read_more, read_member_more, no_longer_after, refused}
use Rattle.seg_access.proofs.owned_pieces.+reading.Goals as goal

pub read_value-returns-in_default-clause-err : goal.read_value-returns-in_default-clause-err
read_value-returns-in_default-clause-err t c =
    let end : c.args.pieces.now ≡ [] = search rules in
    inr (refl, none_at_end c.args.pieces.now end)

pub read_value-returns-in_err-read_values-in-Array-clause-err : goal.read_value-returns-in_err-read_values-in-Array-clause-err
read_value-returns-in_err-read_values-in-Array-clause-err t c =
    let head : c.args.pieces.now ≡ values c.in-Array.count ∷ c.take_next.new.self = c.in-Some.ensures ∙ ap (λ (p : Piece). mark_of p ∷ c.take_next.new.self) c.in-Array.is in
    let p = err_from_is_err_and c.from_residual.result c.from_residual.ensures.1 in
    rw (p.1, p.2) (refused c.in_err-read_values-in-Array.field-0.0 (none_at_values c.args.pieces.now c.take_next.new.self c.in-Array.count head) c.in_err-read_values-in-Array.ensures.err)

pub read_value-returns-in_err-read_members-in-Object-clause-err : goal.read_value-returns-in_err-read_members-in-Object-clause-err
read_value-returns-in_err-read_members-in-Object-clause-err t c =
    let head : c.args.pieces.now ≡ members c.in-Object.count ∷ c.take_next.new.self = c.in-Some.ensures ∙ ap (λ (p : Piece). mark_of p ∷ c.take_next.new.self) c.in-Object.is in
    let p = err_from_is_err_and c.from_residual-in_err-read_members-in-Object.result c.from_residual-in_err-read_members-in-Object.ensures.1 in
    rw (p.1, p.2) (refused c.in_err-read_members-in-Object.field-0.0 (none_at_members c.args.pieces.now c.take_next.new.self c.in-Object.count head) c.in_err-read_members-in-Object.ensures.err)

pub read_value-returns-clause-err : goal.read_value-returns-clause-err
read_value-returns-clause-err t c = inr (refl, none_at_misplaced c.in-Some.piece c.args.pieces.now c.take_next.new.self c.in-Some.ensures c.in-Key.is)

pub read_values-loop-preserved : goal.read_values-loop-preserved
read_values-loop-preserved t c = record {
  read = read_more c.args.pieces.now c.loop.pieces c.read_value.new.pieces c.loop.values c.push.new.self c.loop.counter (tree_of c.in_ok-read_value.field-0) c.loop.invariant.read c.in_ok-read_value.ensures.ok c.in_ok-push.ensures.ok;
  no_longer = omega (arith, no_longer_after (tree_of c.in_ok-read_value.field-0) c.loop.pieces c.read_value.new.pieces c.in_ok-read_value.ensures.ok);
}

pub read_values-returns-in_err-read_value-clause-err : goal.read_values-returns-in_err-read_value-clause-err
read_values-returns-in_err-read_value-clause-err t c =
    let p = err_from_is_err_and c.from_residual.result c.from_residual.ensures.1 in
    rw (p.1, p.2) (refused c.in_err-read_value.field-0.0 (none_more c.args.pieces.now c.loop.pieces c.loop.values c.loop.counter c.args.count c.loop.invariant.read c.loop-test.true) c.in_err-read_value.ensures.err)

pub read_members-loop-preserved : goal.read_members-loop-preserved
read_members-loop-preserved t c = record {
  read = read_member_more c.args.pieces.now c.loop.pieces c.take_key.new.self c.read_value.new.pieces c.loop.members c.push.new.self c.loop.counter c.in-Some.key (tree_of c.in_ok-read_value.field-0) c.loop.invariant.read c.in-Some.ensures c.in_ok-read_value.ensures.ok c.in_ok-push.ensures.ok;
  no_longer = omega (arith, ap length c.in-Some.ensures, no_longer_after (tree_of c.in_ok-read_value.field-0) c.take_key.new.self c.read_value.new.pieces c.in_ok-read_value.ensures.ok);
}

pub read_members-returns-in_default-clause-err : goal.read_members-returns-in_default-clause-err
read_members-returns-in_default-clause-err t c =
    inr (refl, no_key_more c.args.pieces.now c.loop.pieces c.loop.members c.loop.counter c.args.count c.loop.invariant.read c.loop-test.true c.in_default.ensures)

pub read_members-returns-in_err-read_value-clause-err : goal.read_members-returns-in_err-read_value-clause-err
read_members-returns-in_err-read_value-clause-err t c =
    let p = err_from_is_err_and c.from_residual.result c.from_residual.ensures.1 in
    rw (p.1, p.2) (refused c.in_err-read_value.field-0.0 (no_value_more c.args.pieces.now c.loop.pieces c.take_key.new.self c.loop.members c.loop.counter c.args.count c.in-Some.key c.loop.invariant.read c.loop-test.true c.in-Some.ensures) c.in_err-read_value.ensures.err)
