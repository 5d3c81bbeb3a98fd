-- The spaces of the terms of a JSON field, one after another.
use Rattle.std.specs.Prelude.{◌≡◌, ℕ, ◌-◌, ◌<◌, ◌≤◌, true, List, [], ◌∷◌, ◌++◌, length, map, drop}
use Rattle.std.specs.List.{list_all}
use Rattle.std.specs.List.Sorted.{IsStrictlySortedBy}
use Rattle.std.specs.Ordering.{nat_cmp}
use Rattle.std.specs.Cmp.Lexicographic.{slice_cmp}
use Rattle.seg_common.specs.declared.term_info.TermInfo.{TermInfo}
use Rattle.seg_values.specs.declared.schema.FieldKind.TheVariants.{Json}
use Rattle.seg_termdict.specs.Dictionary.{Term}
use Rattle.seg_postings.specs.declared.field_space.InvertedIndexFieldSpace.{InvertedIndexFieldSpace}
use Rattle.seg_postings.specs.TermForms.{is_formed}
use Rattle.seg_postings.specs.AdjacentRanges.{RangesFollow}
use Rattle.seg_postings.specs.JsonSpaces.{path_and_type, beginning, AreSpaces}

-- the terms of a dictionary of a JSON field
pub record AreJsonTerms (terms : List Term) : Type 0 where
  pub ascend : IsStrictlySortedBy (slice_cmp nat_cmp) (map (λ t. t.0) terms)
  pub formed : list_all (is_formed Json) terms ≡ true
  pub follow : RangesFollow terms

-- a space was added: with those of the terms from `end` on, it makes those of the terms from `start` on
pub record AddsSpace (terms : List Term) (start end : ℕ) (before after : List InvertedIndexFieldSpace) : Type 0 where
  pub space : InvertedIndexFieldSpace
  pub added : after ≡ before ++ space ∷ []
  pub forward : start < end
  pub within : end ≤ length terms
  pub first : (rest : List InvertedIndexFieldSpace) → AreSpaces (drop end terms) rest
      → AreSpaces (drop start terms) (space ∷ rest)

-- a space of the path and type of a term, with ranges from those of a first info to those of a last
pub record IsRunOf (term : List ℕ) (first last : TermInfo) (number : ℕ) (space : InvertedIndexFieldSpace) : Type 0 where
  pub begins : beginning space ≡ path_and_type term
  pub number_is : space.num_terms ≡ number
  pub postings : space.postings_size.0 ≡ last.postings_end - first.postings_start
  pub positions : space.positions_size.0 ≡ last.positions_end - first.positions_start
