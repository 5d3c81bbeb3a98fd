-- Tokenizers by their names.
use Rattle.std.specs.Prelude.{ℕ, ◌≡◌, ◌≢◌, ◌||◌, Bool, List, Option, find}
use Rattle.std.specs.Str.{bytes_eq}
use Rattle.seg_tokens.specs.declared.token.Token.{Token}

-- the first item with a name
abbrev pub item_named : {X : Type 0} → (X → List ℕ) → List X → List ℕ → Option X
item_named name_of items name = find (λ x. bytes_eq (name_of x) name) items

-- what a registration changes: its name is known, and has these tokens; every other name stays as it was
pub record Registers (knew knows : List ℕ → Bool) (told tells : List ℕ → List ℕ → List Token) (name : List ℕ)
    (tokens : List ℕ → List Token) : Type 0 where
  pub known : (q : List ℕ) → knows q ≡ (bytes_eq name q || knew q)
  pub registered : (text : List ℕ) → tells name text ≡ tokens text
  pub others : (q text : List ℕ) → q ≢ name → tells q text ≡ told q text

-- every name is known or not, and has its tokens, as before
pub record KeepsRegistered (knew knows : List ℕ → Bool) (told tells : List ℕ → List ℕ → List Token) : Type 0 where
  pub known : (q : List ℕ) → knows q ≡ knew q
  pub tokens : (q text : List ℕ) → tells q text ≡ told q text
