-- What a dictionary that is read answers.
use Rattle.std.specs.Prelude.{◌≡◌, ◌≢◌, ℕ, ◌-◌, ◌<◌, ◌≤◌, ◌⊎◌, List, length, All, IsSomeAnd, slice_get}
use Rattle.seg_common.specs.LittleEndian.{u32_at}
use Rattle.seg_termdict.specs.declared.error.TermDictError.{TermDictError}
use Rattle.seg_termdict.specs.declared.error.TermDictError.TheVariants.{Malformed, WrongType, WrongVersion}
use Rattle.seg_termdict.specs.Dictionary.{Term, IsDictionary}

-- why bytes are no dictionary: too short for the last numbers, of another type, of another version, or wrong elsewhere
abbrev pub Refuses : List ℕ → TermDictError → Type 0
Refuses bytes Malformed = (length bytes < 16)
    ⊎ ((u32_at bytes (length bytes - 4) ≡ 3) × (u32_at bytes (length bytes - 8) ≡ 1) × (IsDictionary bytes → ⊥))
Refuses bytes WrongType = (16 ≤ length bytes) × (u32_at bytes (length bytes - 4) ≢ 3)
Refuses bytes WrongVersion = (16 ≤ length bytes) × (u32_at bytes (length bytes - 4) ≡ 3)
    × (u32_at bytes (length bytes - 8) ≢ 1)
Refuses bytes _ = ⊥

-- no term has the key
abbrev pub Lacks : List Term → List ℕ → Type 0
Lacks terms key = All (λ t. t.0 ≢ key) terms

-- the term at a place has the key
abbrev pub HasKeyAt : List Term → ℕ → List ℕ → Type 0
HasKeyAt terms i key = IsSomeAnd (slice_get terms i) (λ t. t.0 ≡ key)
