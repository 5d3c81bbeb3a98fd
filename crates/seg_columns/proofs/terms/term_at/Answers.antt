use Rattle.std.proofs.Common.{◌≡◌, ◌+◌, ℕ, List, slice_range, length, ap, ◌∙◌, arith}
use Rattle.seg_columns.specs.Ends.{start_at}
use Rattle.seg_columns.specs.Dictionaries.{ends_of, term_at}
use Rattle.seg_columns.proofs.DictionaryTerms.{start_within}
use Rattle.seg_columns.proofs.terms.term_at.Goals as goal

pub part-requires-clause-within : goal.part-requires-clause-within
part-requires-clause-within c =
    let next = c.args.place + 1 in
    let end : c.start_at-end.result ≡ start_at (ends_of c.args.bytes.now) next =
    c.start_at-end.ensures ∙ ap (λ (l : List ℕ). start_at l next) c.ends_of-ends.ensures in
    let within = start_within c.args.bytes.now c.requires.holds next
    (omega (arith, c.requires.place, c.requires.count)) in
    omega (arith, within, end, ap length c.texts_of.ensures)

pub returns : goal.returns
unfolding term_at
returns c =
    let ends = c.ends_of-ends.ensures in
    let start : c.start_at-start.result ≡ start_at (ends_of c.args.bytes.now) c.args.place =
    c.start_at-start.ensures ∙ ap (λ (l : List ℕ). start_at l c.args.place) ends in
    let end : c.start_at-end.result ≡ start_at (ends_of c.args.bytes.now) (c.args.place + 1) =
    c.start_at-end.ensures ∙ ap (λ (l : List ℕ). start_at l (c.args.place + 1)) ends in
    c.part.ensures ∙ (λ i. slice_range (c.texts_of.ensures i) (start i) (end i))
