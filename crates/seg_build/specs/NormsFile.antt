-- The length ids of a field, as a writer kept them.
use Rattle.std.specs.Prelude.{ℕ, List, [], Option, option_and_then, unwrap_or}
use Rattle.std.specs.List.{slice_get}

-- the ids that are kept of a field; none where nothing is kept of it
abbrev pub kept_ids : Option (List (Option (List ℕ))) → ℕ → List ℕ
kept_ids kept field = unwrap_or (option_and_then (λ fs. option_and_then (λ f. f) (slice_get fs field)) kept) []
