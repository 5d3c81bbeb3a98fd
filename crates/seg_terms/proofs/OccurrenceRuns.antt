-- Occurrences in one document make one posting.
use Rattle.std.proofs.Common.{◌≡◌, ◌≢◌, ℕ, zero, suc, ◌<◌, ◌≤◌, List, [], ◌∷◌, ◌++◌, map, length, take, drop, get_or, refl, sym, ap, ◌∙◌, arith}
use Rattle.std.proofs.lemmas.Bool.Decides.{nat_tests}
use Rattle.std.proofs.lemmas.List.{take-append-drop}
use Rattle.seg_model.specs.DocumentTerms.{positions, Posting}
use Rattle.seg_terms.specs.declared.hit.Hit.{Hit}
use Rattle.seg_terms.specs.PostingGroups.{joined, grouped}
use Rattle.seg_terms.specs.OccurrenceRuns.{IsFirstRun}

-- all are in the document
abbrev pub AllIn : ℕ → List Hit → Type 0
AllIn d [] = Unit {0}
AllIn d (h ∷ hs) = (h.document ≡ d) × AllIn d hs

-- the first, if there is one, is in another
abbrev pub StartsElsewhere : ℕ → List Hit → Type 0
StartsElsewhere d [] = Unit {0}
StartsElsewhere d (h ∷ hs) = h.document ≢ d

joined-elsewhere : (h r : Hit) (rest : List Posting) → h.document ≢ r.document
    → joined h (joined r rest) ≡ record { document = h.document; recorded = positions (h.position ∷ []) } ∷ joined r
    rest
joined-elsewhere h r [] ne = grind (arith, nat_tests)
joined-elsewhere h r (p ∷ ps) ne = grind (arith, nat_tests)

grouped-last : (d : ℕ) (h : Hit) (rest : List Hit) → h.document ≡ d → StartsElsewhere d rest
    → grouped (h ∷ rest) ≡ record { document = d; recorded = positions (h.position ∷ []) } ∷ grouped rest
grouped-last d h [] is ne = ap (λ n. record { document = n; recorded = positions (h.position ∷ []) } ∷ []) is
grouped-last d h (r ∷ rest) is ne = joined-elsewhere h r (grouped rest) (λ e. ne (sym e ∙ is))
    ∙ ap (λ n. record { document = n; recorded = positions (h.position ∷ []) } ∷ grouped (r ∷ rest)) is

joined-same : (d : ℕ) (h : Hit) (ps : List ℕ) (rest : List Posting) → h.document ≡ d
    → joined h (record { document = d; recorded = positions ps } ∷ rest)
    ≡ record { document = d; recorded = positions (h.position ∷ ps) } ∷ rest
joined-same d h ps rest is = grind (arith, nat_tests)

pub grouped-run : (d : ℕ) (h : Hit) (hs rest : List Hit) → h.document ≡ d → AllIn d hs → StartsElsewhere d rest
    → grouped (h ∷ (hs ++ rest)) ≡ record {
      document = d;
      recorded = positions (map (λ (x : Hit). x.position) (h ∷ hs));
    } ∷ grouped rest
grouped-run d h [] rest is all ne = grouped-last d h rest is ne
grouped-run d h (k ∷ hs) rest is all ne = ap (joined h) (grouped-run d k hs rest all.0 all.1 ne)
    ∙ joined-same d h _ _ is

AllIn-from : (d : ℕ) (hs : List Hit) (i : ℕ)
    → ((k : ℕ) (e : Hit) → k < i → k < length hs → (get_or hs k e).document ≡ d) → AllIn d (take i hs)
AllIn-from d [] zero all = tt
AllIn-from d [] (suc i) all = tt
AllIn-from d (h ∷ hs) zero all = tt
AllIn-from d (h ∷ hs) (suc i) all = (
  all 0 h (omega arith) (omega arith),
  AllIn-from d hs i
      (λ k e lt le. all (suc k) e (omega arith) (omega arith)),
)

starts_from : (d : ℕ) (hs : List Hit) (i : ℕ) (z : Hit) → (i < length hs → (get_or hs i z).document ≢ d)
    → StartsElsewhere d (drop i hs)
starts_from d [] zero z ne = tt
starts_from d [] (suc i) z ne = tt
starts_from d (h ∷ hs) zero z ne = ne (omega arith)
starts_from d (h ∷ hs) (suc i) z ne = starts_from d hs i z (λ lt. ne (omega arith))

-- the first i are in the first one's document, and the next is not
pub IsFirstRun-from : (hs : List Hit) (i : ℕ) (z : Hit) → 0 < length hs → i ≤ length hs
    → ((k : ℕ) (e : Hit) → k < i → (get_or hs k e).document ≡ (get_or hs 0 z).document)
    → (i < length hs → (get_or hs i z).document ≢ (get_or hs 0 z).document) → IsFirstRun hs i
IsFirstRun-from [] i z some le all ne = absurd (omega arith)
IsFirstRun-from (h ∷ hs) zero z some le all ne = absurd (ne some refl)
IsFirstRun-from (h ∷ hs) (suc i) z some le all ne =
    record {
      some = omega arith;
      within = le;
      first = ap (λ t. grouped (h ∷ t)) (sym (take-append-drop i hs))
          ∙ grouped-run h.document h (take i hs) (drop i hs) refl
          (AllIn-from h.document hs i (λ k e a b. all (suc k) e (omega arith)))
          (starts_from h.document hs i z (λ l. ne (omega arith)));
    }
