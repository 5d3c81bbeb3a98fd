use Rattle.std.proofs.Common.{◌≡◌, ◌<◌, ◌^◌, [], ◌∷◌, ◌++◌, false, sym, ap, ◌∙◌, subst, arith}
use Rattle.std.specs.Prelude.{◌==◌}
use Rattle.std.specs.FinMap.{insert}
use Rattle.std.specs.List.{slice_index_or}
use Rattle.std.proofs.lemmas.Bool.Decides.{nat_tests}
use Rattle.seg_model.specs.Occurrences.{start_after, placed_from}
use Rattle.seg_paths.proofs.Exports.{number-read}
use Rattle.seg_terms.specs.AddedOccurrences.{with_occurrences}
use Rattle.seg_build.specs.PathStarts.{starts_of}
use Rattle.seg_build.proofs.StartsByNumber.{starts-put}
use Rattle.seg_build.proofs.json_terms.JsonTerms.add_text.Goals as goal

pub add_path_tokens-requires-clause-path : goal.add_path_tokens-requires-clause-path
add_path_tokens-requires-clause-path c =
    (number-read c.args.self.now.terms.paths (slice_index_or c.args.self.now.terms.paths c.args.path []) c.args.path c.requires.number).0

pub add_path_tokens-requires-clause-fits : goal.add_path_tokens-requires-clause-fits
add_path_tokens-requires-clause-fits c =
    subst (λ n. start_after n c.args.tokens.now < 2 ^ 32) (sym c.start_of-start.ensures) c.requires.fits

pub next_start-requires : goal.next_start-requires
next_start-requires c =
    subst (λ n. start_after n c.args.tokens.now < 2 ^ 32) (sym c.start_of-start.ensures) c.requires.fits

pub returns-clause-added : goal.returns-clause-added
returns-clause-added c =
    let old = c.args.self.now in
    let paths = old.terms.paths in
    let own = slice_index_or paths c.args.path [] in
    let ts = c.args.tokens.now in
    let document = c.args.document in
    let start = c.start_of-start in
    let after = c.set_value.new.values.items in
    let same = c.in_ok-add_path_tokens.ensures.paths in
    let next = c.next_start.ensures in
    let some : 0 < c.next_start.result = omega (arith, next) in
    let text : (c.next_start.result == 0) ≡ false = grind (arith, nat_tests) in
    let put = starts-put paths old.starts.items after own c.args.path (record { document = document; start = c.next_start.result })
    c.requires.number text c.in_ok-set_value.ensures.set in
    let starts = ap (λ ps. starts_of ps after) same
    ∙ sym put
    ∙ ap (λ n. insert (starts_of paths old.starts.items) own (record { document = document; start = n })) (next ∙ ap (λ n. start_after n ts) start.ensures) in
    let terms = c.in_ok-add_path_tokens.ensures.added
    ∙ ap (λ n. with_occurrences old.terms.terms document (placed_from n (own ++ 0 ∷ 115 ∷ []) ts)) start.ensures in
    record { paths = same; gathered_now = λ i. record { terms = terms i; starts = starts i } }
