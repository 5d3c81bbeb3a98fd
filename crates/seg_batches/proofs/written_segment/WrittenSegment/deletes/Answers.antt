use Rattle.std.proofs.Common.{◌≡◌, Some, None, option_map, sym, ap, ◌∙◌, arith}
use Rattle.std.specs.Option.{option_copied}
use Rattle.seg_meta.specs.Metas as metas
use Rattle.seg_batches.specs.WrittenSegments.{WrittenSegment, deletes_of}
use Rattle.seg_batches.proofs.DocumentMarks.{none_listed, some_listed, are_some}
use Rattle.seg_batches.proofs.written_segment.WrittenSegment.deletes.Goals as goal

pub returns-in_err-alive-clause-deletes : goal.returns-in_err-alive-clause-deletes
returns-in_err-alive-clause-deletes c =
    let s = c.self.inside in
    let none : s.alive ≡ None = sym c.as_ref.ensures.value ∙ ap option_copied (c.in_err-alive.was) in
    ap (option_map metas.deletes_of) c.from_residual.ensures
    ∙ sym (none_listed s.max_doc c.args.opstamp s.alive none)
    ∙ ap (λ (w : WrittenSegment). deletes_of c.args.opstamp w.alive) c.self.view_is

pub returns-clause-deletes : goal.returns-clause-deletes
returns-clause-deletes c =
    let s = c.self.inside in
    let some : s.alive ≡ Some c.in_ok-alive.alive.now = sym c.as_ref.ensures.value ∙ ap option_copied (c.in_ok-alive.was) in
    sym (some_listed s.max_doc c.len.result s.alive c.in_ok-alive.alive.now some c.self.invariant.1 c.len.ensures c.args.opstamp)
    ∙ ap (λ (w : WrittenSegment). deletes_of c.args.opstamp w.alive) c.self.view_is

pub returns-clause-some : goal.returns-clause-some
returns-clause-some c =
    let s = c.self.inside in
    let some : s.alive ≡ Some c.in_ok-alive.alive.now = sym c.as_ref.ensures.value ∙ ap option_copied (c.in_ok-alive.was) in
    let are = are_some s.max_doc c.len.result s.alive c.in_ok-alive.alive.now some c.self.invariant.1 c.len.ensures in
    let same = ap (λ (w : WrittenSegment). w.documents) c.self.view_is in
    (are.0, omega (arith, are.1, same))
