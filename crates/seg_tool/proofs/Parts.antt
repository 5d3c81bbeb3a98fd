-- A text that is written part by part.
use Rattle.std.proofs.Common.{ℕ, List, ◌++◌, Option}
use Rattle.std.specs.Prelude.{Result, Ok, Err, OnErr}
use Rattle.std.specs.Io.KnownBytes.{Appends}
use Rattle.seg_common.specs.Streams.{AppendsPart}
use Rattle.seg_common.proofs.KnownBytes.{Appends-append, front_and_part, part_of_front}

-- what an error leaves of the last part, seen of the whole
pub last_part : {T E : Type 0} (r : Result T E) (a b c : Option (List ℕ)) (xs ys : List ℕ) → Appends a b xs → OnErr r (AppendsPart b c ys) → OnErr r (AppendsPart a c (xs ++ ys))
last_part (Ok x) a b c xs ys front part = tt
last_part (Err e) a b c xs ys front part = front_and_part a b c xs ys front part

-- three parts
pub second_of_three : (a b c : Option (List ℕ)) (xs ys zs : List ℕ) → Appends a b xs → AppendsPart b c ys → AppendsPart a c ((xs ++ ys) ++ zs)
second_of_three a b c xs ys zs front part = part_of_front a c (xs ++ ys) zs (front_and_part a b c xs ys front part)

pub last_of_three : {T E : Type 0} (r : Result T E) (a b c d : Option (List ℕ)) (xs ys zs : List ℕ) → Appends a b xs → Appends b c ys → OnErr r (AppendsPart c d zs) → OnErr r (AppendsPart a d ((xs ++ ys) ++ zs))
last_of_three r a b c d xs ys zs one two part = last_part r a c d (xs ++ ys) zs (Appends-append a b c xs ys one two) part
