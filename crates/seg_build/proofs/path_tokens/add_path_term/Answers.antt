use Rattle.std.proofs.Common.{◌≡◌, [], ◌∷◌, ◌++◌, ap, ◌∙◌}
use Rattle.std.specs.List.{slice_index_or}
use Rattle.seg_terms.specs.AddedOccurrences.{with_occurrence}
use Rattle.seg_terms.specs.PathKeys.{TermsOnPaths}
use Rattle.seg_build.proofs.path_tokens.add_path_term.Goals as goal

pub returns-clause-added : goal.returns-clause-added
returns-clause-added c =
    let args = c.args in
    let path = slice_index_or args.terms.now.paths args.path [] in
    let rest : c.as_slice.result.now ≡ args.code ∷ args.bytes.now =
    c.as_slice.ensures.value
    ∙ c.in_ok-extend_from_slice.ensures.items
    ∙ ap (λ l. l ++ args.bytes.now) (c.in_ok-push.ensures.items ∙ ap (λ l. l ++ args.code ∷ []) c.clear.ensures.items) in
    ap (λ (t : TermsOnPaths). t.terms) c.in_ok-add.ensures.ok
    ∙ ap (λ r. with_occurrence args.terms.now.terms args.hit.document (record { bytes = path ++ 0 ∷ r; position = args.hit.position })) rest
