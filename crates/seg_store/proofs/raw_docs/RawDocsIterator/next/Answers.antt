use Rattle.std.proofs.Common.{◌≡◌, ℕ, List, [], length, Some, None, Option, sym, ap, ◌∙◌, arith, slice_get, slice_range}
use Rattle.std.specs.Prelude.{option_map}
use Rattle.std.specs.Iterator.{YieldsFirst}
use Rattle.seg_store.specs.Store.{blocks_of, raw_documents}
use Rattle.seg_store.proofs.AliveDocuments.{next_alive, no_alive}
use Rattle.seg_store.proofs.DocumentNumbers.{number_of_raw}
use Rattle.seg_store.proofs.raw_docs.RawDocsIterator.next.Goals as goal

at_end : (rest : List (List ℕ)) (o : Option (List ℕ)) → o ≡ None → rest ≡ [] → YieldsFirst (λ (l : List (List ℕ)). l) rest o rest
at_end rest None none is = (is, is)
at_end rest (Some x) none is = absurd cc

pub returns-in_err-doc-clause-steps : goal.returns-in_err-doc-clause-steps
returns-in_err-doc-clause-steps c =
    let raws = raw_documents (blocks_of c.self.inside.bytes.now) in
    let all = c.self.invariant.1 ∙ sym (number_of_raw (blocks_of c.self.inside.bytes.now)) in
    at_end c.args.self.now c.from_residual.result c.from_residual.ensures
    (sym c.self.view_is ∙ no_alive (option_map (λ set. set.now) c.self.inside.alive) raws c.self.inside.doc c.self.inside.total c.self.invariant.2 all c.in_err-doc.ensures)

pub returns-clause-steps : goal.returns-clause-steps
returns-clause-steps c =
    let raws = raw_documents (blocks_of c.self.inside.bytes.now) in
    let place = ap (λ l. slice_range l c.place_in_store-start.result.0 c.place_in_store-start.result.1) c.as_slice-bytes.ensures ∙ sym c.slice.ensures in
    let is : slice_get raws c.in_ok-doc.doc ≡ Some c.slice.result = ap (λ l. slice_get (raw_documents (blocks_of l)) c.in_ok-doc.doc) (sym c.as_slice-bytes.ensures) ∙ c.place_in_store-start.ensures.is ∙ ap Some place in
    sym c.self.view_is ∙ next_alive (option_map (λ set. set.now) c.self.inside.alive) raws c.self.inside.doc c.self.inside.total c.in_ok-doc.doc c.slice.result c.in_ok-doc.ensures is

pub returns-clause-goes : goal.returns-clause-goes
returns-clause-goes c =
    let shorter = ap length (returns-clause-steps c) in
    record { on = λ finite. (tt, tt, omega (arith, shorter)); keeps = tt; rests = λ finite. tt }
