use Rattle.std.proofs.Common.{◌≡◌, ◌+◌, ◌-◌, ◌∙◌, ℕ, List, drop, refl, sym, ap, subst, arith, true}
use Rattle.std.specs.List.{prefix_len}
use Rattle.std.specs.Str.{IsUtf8}
use Rattle.seg_model.specs.DocumentTerms.{type_code}
use Rattle.seg_model.specs.Shape.{is_type_code, path_part}
use Rattle.seg_postings.specs.JsonSpaces.{path_and_type, begins_with}
use Rattle.seg_postings.specs.JsonRuns.{IsRunOf}
use Rattle.seg_postings.proofs.SpaceTerms.{is_text, is_coded, forward, last_there, postings_rise, positions_rise, adds}
use Rattle.seg_postings.proofs.json_spaces.add_space.Goals as goal

pub overflow_sub-end : goal.overflow_sub-end
overflow_sub-end c =
    let terms = c.args.terms.now in
    let start = c.args.start in
    let is_end = c.in_ok-end.ensures ∙ ap (λ (h : List ℕ). start + prefix_len (begins_with h) (drop start terms)) (c.path_and_type.ensures ∙ ap path_and_type c.deref.ensures.value) in
    let more = forward terms c.requires.terms start c.requires.start c.in_ok-term.term.items c.in_ok-term.ensures c.in_ok-end.end is_end in
    omega (arith, more)

pub term_info_from_ord-last-requires : goal.term_info_from_ord-last-requires
term_info_from_ord-last-requires c =
    let terms = c.args.terms.now in
    let start = c.args.start in
    let is_end = c.in_ok-end.ensures ∙ ap (λ (h : List ℕ). start + prefix_len (begins_with h) (drop start terms)) (c.path_and_type.ensures ∙ ap path_and_type c.deref.ensures.value) in
    last_there terms c.requires.terms start c.requires.start c.in_ok-term.term.items c.in_ok-term.ensures c.in_ok-end.end is_end

pub of_run-requires-clause-path : goal.of_run-requires-clause-path
of_run-requires-clause-path c =
    subst (λ (k : List ℕ). IsUtf8 (path_part k)) (sym c.deref-2.ensures.value) (is_text c.args.terms.now c.requires.terms c.args.start c.requires.start c.in_ok-term.term.items c.in_ok-term.ensures)

pub of_run-requires-clause-code : goal.of_run-requires-clause-code
of_run-requires-clause-code c =
    subst (λ (k : List ℕ). is_type_code (type_code k) ≡ true) (sym c.deref-2.ensures.value) (is_coded c.args.terms.now c.requires.terms c.args.start c.requires.start c.in_ok-term.term.items c.in_ok-term.ensures)

pub of_run-requires-clause-postings : goal.of_run-requires-clause-postings
of_run-requires-clause-postings c =
    let terms = c.args.terms.now in
    let start = c.args.start in
    let is_end = c.in_ok-end.ensures ∙ ap (λ (h : List ℕ). start + prefix_len (begins_with h) (drop start terms)) (c.path_and_type.ensures ∙ ap path_and_type c.deref.ensures.value) in
    postings_rise terms c.requires.terms start c.requires.start c.in_ok-term.term.items c.in_ok-term.ensures c.in_ok-end.end is_end c.term_info_from_ord-first.result c.term_info_from_ord-last.result c.term_info_from_ord-first.ensures c.term_info_from_ord-last.ensures

pub of_run-requires-clause-positions : goal.of_run-requires-clause-positions
of_run-requires-clause-positions c =
    let terms = c.args.terms.now in
    let start = c.args.start in
    let is_end = c.in_ok-end.ensures ∙ ap (λ (h : List ℕ). start + prefix_len (begins_with h) (drop start terms)) (c.path_and_type.ensures ∙ ap path_and_type c.deref.ensures.value) in
    positions_rise terms c.requires.terms start c.requires.start c.in_ok-term.term.items c.in_ok-term.ensures c.in_ok-end.end is_end c.term_info_from_ord-first.result c.term_info_from_ord-last.result c.term_info_from_ord-first.ensures c.term_info_from_ord-last.ensures

pub returns : goal.returns
returns c =
    let terms = c.args.terms.now in
    let start = c.args.start in
    let is_end = c.in_ok-end.ensures ∙ ap (λ (h : List ℕ). start + prefix_len (begins_with h) (drop start terms)) (c.path_and_type.ensures ∙ ap path_and_type c.deref.ensures.value) in
    let is = subst (λ (k : List ℕ). IsRunOf k c.term_info_from_ord-first.result c.term_info_from_ord-last.result (c.in_ok-end.end - start) c.in_ok-space.space) c.deref-2.ensures.value c.in_ok-space.ensures in
    adds terms c.requires.terms start c.requires.start c.in_ok-term.term.items c.in_ok-term.ensures c.in_ok-end.end is_end c.term_info_from_ord-first.result c.term_info_from_ord-last.result c.term_info_from_ord-first.ensures c.term_info_from_ord-last.ensures c.in_ok-space.space (c.in_ok-end.end - start) refl is c.args.found.now.items c.push.new.self.items c.in_ok-push.ensures.items
