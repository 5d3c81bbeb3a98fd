-- What contracts see of a field while documents come.
use Rattle.std.specs.Prelude.{ℕ, refl}
use Rattle.std.specs.Coded.{Coded, code_by, coded×, coded_ℕ}
use Rattle.seg_model.specs.Codes.{terms_code}
use Rattle.seg_model.specs.DocumentTerms.{Terms}
use Rattle.seg_build.specs.PathStarts.{PathStarts, starts_code}

-- its terms, and how far its newest document has come: where the next text begins, of a JSON field that of each joined
-- path, and the length
pub record FieldSoFar : Type 0 where
  pub terms : Terms
  pub starts : PathStarts
  pub document : ℕ
  pub start : ℕ
  pub len : ℕ

-- the code by which a proof tells fields apart
abbrev pub field_code : Coded FieldSoFar
field_code =
    code_by ((Terms × PathStarts) × (ℕ × (ℕ × ℕ)))
    (coded× (coded× terms_code starts_code) (coded× coded_ℕ (coded× coded_ℕ coded_ℕ)))
    (λ f. ((f.terms, f.starts), (f.document, (f.start, f.len))))
    (λ p. record { terms = p.0.0; starts = p.0.1; document = p.1.0; start = p.1.1.0; len = p.1.1.1 }) (λ _. refl)
