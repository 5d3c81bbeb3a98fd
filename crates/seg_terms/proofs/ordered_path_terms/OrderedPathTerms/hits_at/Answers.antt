use Rattle.std.proofs.Common.{List, Some, ap, sym, ◌∙◌, length, subst, ◌≤◌}
use Rattle.std.specs.Prelude.{slice_range}
use Rattle.seg_terms.specs.PostingGroups.{grouped}
use Rattle.seg_terms.specs.PathTermParts.{path_entry_of}
use Rattle.seg_terms.specs.declared.hit.Hit.{Hit}
use Rattle.seg_terms.proofs.CutOccurrences.{within_place}
use Rattle.seg_terms.proofs.SortedEntries.{place_within, value_at}
use Rattle.seg_terms.proofs.ordered_path_terms.OrderedPathTerms.hits_at.Goals as goal

pub part-requires-clause-forward : goal.part-requires-clause-forward
part-requires-clause-forward c =
    let lt = place_within (path_entry_of c.self.inside.paths c.self.inside.hits.items)
    c.self.inside.terms.items c.args.self.now c.self.view_is c.args.index c.index-term.result.now c.requires
    c.index-term.ensures in
    (within_place (length c.self.inside.hits.items)
    c.self.inside.terms.items c.args.index c.index-term.result.now c.self.invariant.1 lt
    c.index-term.ensures).forward

pub part-requires-clause-within : goal.part-requires-clause-within
part-requires-clause-within c =
    let lt = place_within (path_entry_of c.self.inside.paths c.self.inside.hits.items)
    c.self.inside.terms.items c.args.self.now c.self.view_is c.args.index c.index-term.result.now c.requires
    c.index-term.ensures in
    let end = (within_place (length c.self.inside.hits.items)
    c.self.inside.terms.items c.args.index c.index-term.result.now c.self.invariant.1 lt
    c.index-term.ensures).within in
    subst (λ (hs : List Hit). c.index-term.result.now.end ≤ length hs) (sym c.deref.ensures.value) end

pub returns : goal.returns
returns c =
    value_at (path_entry_of c.self.inside.paths c.self.inside.hits.items)
    c.self.inside.terms.items c.args.self.now c.self.view_is c.args.index c.index-term.result.now c.requires
    c.index-term.ensures
    ∙ ap (λ (hs : List Hit). Some (grouped (slice_range hs c.index-term.result.now.start c.index-term.result.now.end)))
    (sym c.deref.ensures.value)
    ∙ ap (λ (hs : List Hit). Some (grouped hs)) (sym c.part.ensures)
