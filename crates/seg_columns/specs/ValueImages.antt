-- Values by the numbers that stand for them.
use Rattle.std.specs.Prelude.{ℕ, ℤ, List, Option, Some, None, Bool, true, if◌then◌else◌}
use Rattle.seg_common.specs.LittleEndian.{u64_at}
use Rattle.seg_common.specs.MappableValues.{lowered, is_bit, is_one}

-- the value whose number eight bytes are, if a value has it
abbrev pub value_of_image : {T : Type 0} → (ℕ → Bool) → (ℕ → T) → List ℕ → Option T
value_of_image is_image value_of bytes = if is_image (u64_at bytes 0) then Some (value_of (u64_at bytes 0)) else None

-- each number stands for itself
abbrev pub unsigned : List ℕ → Option ℕ
unsigned = value_of_image (λ _. true) (λ n. n)

-- each number stands for the one that is less by 2^63
abbrev pub signed : List ℕ → Option ℤ
signed = value_of_image (λ _. true) lowered

-- 0 and 1 stand for false and true
abbrev pub truth : List ℕ → Option Bool
truth = value_of_image is_bit is_one
