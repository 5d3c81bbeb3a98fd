-- Where the next text of each joined path begins, while documents come.
use Rattle.std.specs.Prelude.{ℕ, List, ◌==◌, if◌then◌else◌, Option, None, Some, refl}
use Rattle.std.specs.Coded.{Coded, code_by, coded×, coded_ℕ}
use Rattle.std.specs.FinMap.{FinMap, get}
use Rattle.std.specs.FinMap as fin
use Rattle.std.specs.List.{slice_index_or}
use Rattle.std.specs.Ordering.{nat_cmp}
use Rattle.std.specs.Cmp.Lexicographic.{slice_cmp}
use Rattle.seg_common.specs.TabulatedMaps.{tabulated}
use Rattle.seg_model.specs.Codes.{bytes_code}
use Rattle.seg_paths.specs.Paths.{number_of}
use Rattle.seg_build.specs.declared.path_start.PathStart.{PathStart}

-- by path: the newest document that has a text there, and where the next one begins in it
abbrev pub PathStarts : Type 0
PathStarts = FinMap (slice_cmp nat_cmp) PathStart

-- the code by which a proof tells them apart
abbrev pub starts_code : Coded PathStarts
starts_code =
    fin.code bytes_code (code_by (ℕ × ℕ) (coded× coded_ℕ coded_ℕ) (λ s. (s.document, s.start))
    (λ p. record { document = p.0; start = p.1 }) (λ _. refl))

-- where the next text begins in a document, by what is known
abbrev pub start_in : ℕ → Option PathStart → ℕ
start_in document None = 0
start_in document (Some s) = if s.document == document then s.start else 0

-- and so at a path
abbrev pub path_start : ℕ → PathStarts → List ℕ → ℕ
path_start document starts path = start_in document (get starts path)

-- ---- kept by the numbers of paths

-- before any text
abbrev pub blank : PathStart
blank = record { document = 0; start = 0 }

-- what is kept of a number
abbrev pub kept_by : List PathStart → Option ℕ → PathStart
kept_by kept None = blank
kept_by kept (Some number) = slice_index_or kept number blank

-- a text never ends where it could begin
abbrev pub if_text : PathStart → Option PathStart
if_text s = if s.start == 0 then None else Some s

-- what is kept, by path
abbrev pub starts_of : List (List ℕ) → List PathStart → PathStarts
starts_of paths kept = tabulated (λ path. if_text (kept_by kept (number_of paths path))) paths
