-- The documents of a store that are alive in a set; all without one.
use Rattle.std.specs.Prelude.{◌≡◌, ℕ, ◌≤◌, ◌<◌, List, Bool, true, false, Option, Some, None, drop, get_or}
use Rattle.seg_model.specs.Operations.{kept}

-- those after the first n documents
abbrev pub alive_from : {X : Type 0} → ℕ → Option (List Bool) → List X → List X
alive_from n None documents = drop n documents
alive_from n (Some set) documents = kept (drop n set) (drop n documents)

-- whether a document is alive
abbrev pub alive_at : Option (List Bool) → ℕ → Bool
alive_at None doc = true
alive_at (Some set) doc = get_or set doc false

-- the first one from a document on, below a total
pub record IsFirstAlive (set : Option (List Bool)) (from total doc : ℕ) : Type 0 where
  pub above : from ≤ doc
  pub within : doc < total
  pub alive : alive_at set doc ≡ true
  pub first : (k : ℕ) → from ≤ k → k < doc → alive_at set k ≡ false
