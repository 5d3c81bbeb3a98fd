use Rattle.std.proofs.Common.{◌≡◌, ◌+◌, ◌*◌, ℕ, List, take, drop, ap, ◌∙◌}
use Rattle.seg_columns.specs.Columns.{rows_of}
use Rattle.seg_columns.specs.Dictionaries.{terms_of}
use Rattle.seg_columns.specs.Ends.{start_at}
use Rattle.seg_columns.specs.ValueImages.{unsigned}
use Rattle.seg_columns.specs.TermColumns.{dictionary_in, ordinals_in}
use Rattle.seg_columns.proofs.TermParts.{uses_terms}
use Rattle.seg_columns.proofs.term_column.TermColumn.of_checked.Goals as goal

pub invariant_of-result : goal.invariant_of-result
invariant_of-result c =
    let docs = c.args.num_docs in
    let bytes = c.args.bytes.now in
    let count : c.start_at-count.result ≡ start_at bytes docs =
    c.start_at-count.ensures ∙ ap (λ (l : List ℕ). start_at l docs) c.as_slice.ensures in
    let front : c.split-front.result.0 ≡ ordinals_in docs bytes =
    c.split-front.ensures.front ∙ ap (λ (n : ℕ). take (8 * docs + 8 * n) bytes) count in
    let back : c.split-front.result.1 ≡ dictionary_in docs bytes =
    c.split-front.ensures.back ∙ ap (λ (n : ℕ). drop (8 * docs + 8 * n) bytes) count in
    uses_terms docs bytes c.of_checked.result c.of_checked-2.result c.requires
    (c.of_checked.ensures ∙ ap (rows_of 8 unsigned docs) front) (c.of_checked-2.ensures ∙ ap terms_of back)
