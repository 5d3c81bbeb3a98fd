use Rattle.std.proofs.Common.{ℕ, List, map, refl, sym, ap, subst, ◌∙◌}
use Rattle.std.specs.Prelude.{IsSomeAnd}
use Rattle.std.specs.List.{AllByRecursion}
use Rattle.seg_segment.specs.WrittenTerms.{IsUnwritten}
use Rattle.seg_merger.specs.JoinedTerms.{IsOpenAt, source_of}
use Rattle.seg_merger.specs.JoinedTotals.{tokens_in}
use Rattle.seg_merger.specs.MovedPostings.{SourceTerms, Ascend}
use Rattle.seg_merger.specs.NewIds.{NumberedSegment, parts_of}
use Rattle.seg_merger.proofs.JoinedField.{joinable, whole}
use Rattle.seg_merger.proofs.NumberedParts.{all_open}
use Rattle.seg_merger.proofs.joined_terms.NumberedPartsTermsByField.write_terms.Goals as goal

pub sources_of-requires : goal.sources_of-requires
sources_of-requires c =
    subst (λ (ns : List NumberedSegment). AllByRecursion (IsOpenAt c.args.field) (parts_of ns)) (sym c.as_slice.ensures) (all_open c.requires.can.entry c.args.field (parts_of c.args.self.now) c.requires.can.segments)

pub write_terms-requires-clause-joinable : goal.write_terms-requires-clause-joinable
write_terms-requires-clause-joinable c =
    let up = subst (AllByRecursion (λ (s : SourceTerms). Ascend s.terms)) (sym c.deref.ensures.value) c.in_ok-sources.ensures.ascend in
    joinable c.args.field c.args.self.now c.requires.can.ids c.requires.can.few c.deref.result.now (c.deref.ensures.value ∙ c.in_ok-sources.ensures.are ∙ ap (map (source_of c.args.field)) c.as_slice.ensures) up c.requires.can.entry c.requires.can.segments

pub write_terms-requires-clause-unwritten : goal.write_terms-requires-clause-unwritten
write_terms-requires-clause-unwritten c = subst (λ o. IsSomeAnd o IsUnwritten) (sym c.requires.begins) (record { empty = refl; closed = refl })

pub returns : goal.returns
returns c =
    let up = subst (AllByRecursion (λ (s : SourceTerms). Ascend s.terms)) (sym c.deref.ensures.value) c.in_ok-sources.ensures.ascend in
    let total : ℕ → ℕ = λ field. tokens_in field (parts_of c.args.self.now) in
    whole c.args.field c.args.self.now c.requires.can.ids c.requires.can.few c.deref.result.now (c.deref.ensures.value ∙ c.in_ok-sources.ensures.are ∙ ap (map (source_of c.args.field)) c.as_slice.ensures) up
    total c.args.writer c.write_terms.new.writer c.requires.begins c.in_ok-write_terms.ensures
