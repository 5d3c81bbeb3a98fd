-- Cases of texts and lengths, and of terms of other kinds.
use Rattle.std.specs.Prelude.{◌≡◌, ℕ, List, [], ◌∷◌, map, length, replicate, codes, ◌++◌, ◌^◌, ◌-◌, true, false}
use Rattle.std.specs.List.{flat_map}
use Rattle.seg_values.specs.declared.schema.FieldKind.TheVariants.{Text, Bool, Bytes}
use Rattle.seg_values.specs.declared.schema.IndexOption.TheVariants.{Basic, Freqs, Positions}
use Rattle.seg_values.specs.Tree.{boolean, byte_string, Tree, leaf}
use Rattle.seg_model.specs.Occurrences.{occurrences}
use Rattle.seg_model.specs.DocumentTerms.{presence, frequency, positions}
use Rattle.seg_model.specs.Norms.{length_id, length_of_id, field_length, field_norms}
use Rattle.seg_model_cases.specs.CaseData.{analyzer, entry, only, one, said, token, cut, at, posting, recorded_of}

-- this many words
abbrev pub words : ℕ → Tree
words n = said (flat_map (λ word. word) (replicate n (codes "a ")))

-- texts of 65,530 and of 65,531 bytes
pub record AreLongest (kept left_out : List ℕ) : Type 0 where
  pub kept_length : length kept ≡ 65530
  pub left_out_length : length left_out ≡ 65531

-- a token of 65,530 bytes gives a term; one with a byte more gives none, has no part in the length, and moves nothing
pub record LongTokens : Type 0 where
  pub terms : (kept left_out : List ℕ) → AreLongest kept left_out
      → occurrences (only Text Positions) analyzer
      (one (cut (token 0 kept ∷ token 1 left_out ∷ token 2 (codes "c") ∷ []))) 0
      ≡ at kept 0 ∷ at (codes "c") 2 ∷ []
  pub count : (kept left_out : List ℕ) → AreLongest kept left_out
      → field_length analyzer (entry Text Positions)
      (cut (token 0 kept ∷ token 1 left_out ∷ token 2 (codes "c") ∷ []) ∷ [])
      ≡ 2
  pub second_text : (kept left_out : List ℕ) → AreLongest kept left_out
      → occurrences (only Text Positions) analyzer ((0, cut (token 0 left_out ∷ [])) ∷ (0, said (codes "d")) ∷ []) 0
      ≡ at (codes "d") 1 ∷ []

pub record TextCases : Type 0 where
  pub long_tokens : LongTokens
  -- "a b a" in fields that record documents, counts, and positions
  pub by_option :
      map (λ index. map (recorded_of Text index (said (codes "a b a"))) (codes "a" ∷ codes "b" ∷ codes "c" ∷ []))
      (Basic ∷ Freqs ∷ Positions ∷ [])
      ≡ ((posting 0 presence ∷ []) ∷ (posting 0 presence ∷ []) ∷ [] ∷ [])
      ∷ ((posting 0 (frequency 2) ∷ []) ∷ (posting 0 (frequency 1) ∷ []) ∷ [] ∷ [])
      ∷ ((posting 0 (positions (0 ∷ 2 ∷ [])) ∷ []) ∷ (posting 0 (positions (1 ∷ [])) ∷ []) ∷ [] ∷ []) ∷ []
  -- 41 has no id of its own
  pub lengths : field_norms analyzer (map (λ n. one (words n)) (40 ∷ 41 ∷ 42 ∷ [])) (0, entry Text Basic)
      ≡ 40 ∷ 40 ∷ 41 ∷ []
  pub next_length : length_of_id 41 ≡ 42
  pub last_length : length_of_id 255 ≡ 2013265944
  pub last_id : length_id (2 ^ 64 - 1) ≡ 255
  -- fields of bytes and of truth values
  pub bytes : occurrences (only Bytes Basic) analyzer (one (leaf (byte_string (codes "xy")))) 0 ≡ at (codes "xy") 0 ∷ []
  pub truth : occurrences (only Bool Basic) analyzer ((0, leaf (boolean true)) ∷ (0, leaf (boolean false)) ∷ []) 0
      ≡ at (replicate 7 0 ++ 1 ∷ []) 0 ∷ at (replicate 8 0) 0 ∷ []
