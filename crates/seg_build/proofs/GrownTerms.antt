-- Adding the occurrences of one more document to the terms of documents gives the terms of all.
use Rattle.std.proofs.Common.{◌≡◌, ℕ, ◌+◌, ◌<◌, ◌≤◌, Bool, true, false, cond, List, [], ◌∷◌, ◌++◌, map, length, Some, Option, None, sym, refl, ap, ◌∙◌, arith, append_assoc, append-nil, unwrap_or}
use Rattle.std.specs.Prelude.{filter, ◌&&◌, ◌||◌, nat_eq}
use Rattle.std.specs.Cmp.Lexicographic.{bytes_decides, nat_list_cmp_total}
use Rattle.std.specs.Str.{bytes_eq}
use Rattle.std.specs.FinMap.{get, get-insert}
use Rattle.std.proofs.lemmas.Map.Text.{is_eq-slice_cmp}
use Rattle.std.proofs.lemmas.Bool.Decides.{nat_tests}
use Rattle.std.proofs.lemmas.List.{length-map}
use Rattle.seg_values.specs.declared.schema.FieldEntry.{FieldEntry}
use Rattle.seg_values.specs.declared.schema.FieldKind.TheVariants.{Text}
use Rattle.seg_values.specs.declared.schema.IndexOption.TheVariants.{Basic, Positions}
use Rattle.seg_model.specs.Fields.{is_text, is_json}
use Rattle.seg_model.specs.Occurrences.{Occurrence}
use Rattle.seg_model.specs.DocumentTerms.{Recorded, positions, Posting, Terms, type_code, term_option, positions_of, if_occurs, recorded_in, listed, postings_from, postings_of, if_any, terms_of}
use Rattle.seg_model.proofs.Exports.{get-terms_of, no_other_terms, postings_grow, unwrap_if_any}
use Rattle.seg_terms.specs.AddedOccurrences.{with_position, with_occurrence, with_occurrences}

-- a document with these positions of a term: it is listed where there is one
abbrev told : ℕ → List ℕ → List Posting
told document ps = listed document (if_occurs Positions ps)

-- all are of documents before this one
abbrev AreBefore : ℕ → List Posting → Type 0
AreBefore d [] = Unit {0}
AreBefore d (p ∷ ps) = (p.document < d) × AreBefore d ps

AreBefore-append : (d : ℕ) (xs ys : List Posting) → AreBefore d xs → AreBefore d ys → AreBefore d (xs ++ ys)
AreBefore-append d [] ys h k = k
AreBefore-append d (x ∷ xs) ys h k = (h.0, AreBefore-append d xs ys h.1 k)

AreBefore-listed : (n d : ℕ) (r : Option Recorded) → n < d → AreBefore d (listed n r)
AreBefore-listed n d None lt = tt
AreBefore-listed n d (Some r) lt = (lt, tt)

AreBefore-postings_from : (n d : ℕ) (rs : List (Option Recorded)) → n + length rs ≤ d → AreBefore d (postings_from n rs)
AreBefore-postings_from n d [] le = tt
AreBefore-postings_from n d (r ∷ rs) le = AreBefore-append d (listed n r) _ (AreBefore-listed n d r (omega arith)) (AreBefore-postings_from (n + 1) d rs (omega arith))

with_position-first : (xs : List Posting) (d p : ℕ) → AreBefore d xs → with_position xs d p ≡ xs ++ record { document = d; recorded = positions (p ∷ []) } ∷ []
with_position-first [] d p h = refl
with_position-first (x ∷ []) d p h = let lt : x.document < d = h.0 in grind (arith, nat_tests)
with_position-first (x ∷ y ∷ xs) d p h = ap (λ l. x ∷ l) (with_position-first (y ∷ xs) d p h.1)

with_position-more : (xs : List Posting) (d p : ℕ) (ps : List ℕ) → with_position (xs ++ record { document = d; recorded = positions ps } ∷ []) d p ≡ xs ++ record { document = d; recorded = positions (ps ++ p ∷ []) } ∷ []
with_position-more [] d p ps = grind (arith, nat_tests)
with_position-more (x ∷ []) d p ps = ap (λ l. x ∷ l) (with_position-more [] d p ps)
with_position-more (x ∷ y ∷ xs) d p ps = ap (λ l. x ∷ l) (with_position-more (y ∷ xs) d p ps)

with_position-told : (xs : List Posting) (d p : ℕ) (ps : List ℕ) → AreBefore d xs → with_position (xs ++ told d ps) d p ≡ xs ++ told d (ps ++ p ∷ [])
with_position-told xs d p [] h = ap (λ l. with_position l d p) (append-nil xs) ∙ with_position-first xs d p h
with_position-told xs d p (x ∷ ps) h = with_position-more xs d p (x ∷ ps)

positions_of-same : (q : List ℕ) (os : List Occurrence) (o : Occurrence) → bytes_eq q o.bytes ≡ true → positions_of q (os ++ o ∷ []) ≡ positions_of q os ++ o.position ∷ []
positions_of-same q [] o e = rw e refl
positions_of-same q (x ∷ os) o e =
    elim (bytes_eq q x.bytes) as (λ b. map (λ (y : Occurrence). y.position) (cond b (x ∷ filter (λ y. bytes_eq q y.bytes) (os ++ o ∷ [])) (filter (λ y. bytes_eq q y.bytes) (os ++ o ∷ []))) ≡ map (λ (y : Occurrence). y.position) (cond b (x ∷ filter (λ y. bytes_eq q y.bytes) os) (filter (λ y. bytes_eq q y.bytes) os)) ++ o.position ∷ []) [
      | true ↦ ap (λ l. x.position ∷ l) (positions_of-same q os o e)
      | false ↦ positions_of-same q os o e
    ]

positions_of-other : (q : List ℕ) (os : List Occurrence) (o : Occurrence) → bytes_eq q o.bytes ≡ false → positions_of q (os ++ o ∷ []) ≡ positions_of q os
positions_of-other q [] o e = rw e refl
positions_of-other q (x ∷ os) o e =
    elim (bytes_eq q x.bytes) as (λ b. map (λ (y : Occurrence). y.position) (cond b (x ∷ filter (λ y. bytes_eq q y.bytes) (os ++ o ∷ [])) (filter (λ y. bytes_eq q y.bytes) (os ++ o ∷ []))) ≡ map (λ (y : Occurrence). y.position) (cond b (x ∷ filter (λ y. bytes_eq q y.bytes) os) (filter (λ y. bytes_eq q y.bytes) os))) [
      | true ↦ ap (λ l. x.position ∷ l) (positions_of-other q os o e)
      | false ↦ positions_of-other q os o e
    ]

if_any-append : (xs : List Posting) (n p : ℕ) (ps : List ℕ) → if_any (xs ++ told n (ps ++ p ∷ [])) ≡ Some (xs ++ told n (ps ++ p ∷ []))
if_any-append (x ∷ xs) n p ps = refl
if_any-append [] n p [] = refl
if_any-append [] n p (x ∷ ps) = refl

-- a field of texts that records positions
pub record IsPositional (e : FieldEntry) : Type 0 where
  pub kind : e.kind ≡ Text
  pub index : e.index ≡ Positions

module _ (e : FieldEntry) (built : IsPositional e) where
  -- a text term records its positions
  pub term_option-text : (q : List ℕ) → term_option e q ≡ Positions
  term_option-text q = ap (λ k. cond (is_text k || (is_json k && nat_eq (type_code q) 115)) e.index Basic) built.kind ∙ built.index

  postings_of-push : (q : List ℕ) (ds : List (List Occurrence)) (os : List Occurrence) → postings_of e q (ds ++ os ∷ []) ≡ postings_of e q ds ++ told (length ds) (positions_of q os)
  postings_of-push q ds os = postings_grow e q ds os ∙ ap (λ option. postings_of e q ds ++ listed (length ds) (if_occurs option (positions_of q os))) (term_option-text q)

  AreBefore-postings_of : (q : List ℕ) (ds : List (List Occurrence)) → AreBefore (length ds) (postings_of e q ds)
  AreBefore-postings_of q ds = AreBefore-postings_from 0 (length ds) (map (recorded_in e q) ds) (omega (arith, length-map ds (recorded_in e q)))

  -- one more occurrence in the newest document
  with_occurrence-terms_of : (ds : List (List Occurrence)) (os : List Occurrence) (o : Occurrence) → with_occurrence (terms_of e (ds ++ os ∷ [])) (length ds) o ≡ terms_of e (ds ++ (os ++ o ∷ []) ∷ [])
  with_occurrence-terms_of ds os o = no_other_terms e (ds ++ (os ++ o ∷ []) ∷ []) _ (λ q.
      get-insert nat_list_cmp_total (terms_of e (ds ++ os ∷ [])) o.bytes _ q
      ∙ ap (λ b. cond b (Some (with_position (unwrap_or (get (terms_of e (ds ++ os ∷ [])) o.bytes) []) (length ds) o.position)) (get (terms_of e (ds ++ os ∷ [])) q)) (is_eq-slice_cmp q o.bytes)
      ∙ each q (bytes_eq q o.bytes) refl)
    where
      here : (q : List ℕ) → bytes_eq q o.bytes ≡ true → Some (with_position (unwrap_or (get (terms_of e (ds ++ os ∷ [])) q) []) (length ds) o.position) ≡ if_any (postings_of e q (ds ++ (os ++ o ∷ []) ∷ []))
      here q is =
          ap (λ r. Some (with_position (unwrap_or r []) (length ds) o.position)) (get-terms_of e (ds ++ os ∷ []) q)
          ∙ ap (λ ps. Some (with_position ps (length ds) o.position)) (unwrap_if_any (postings_of e q (ds ++ os ∷ [])) ∙ postings_of-push q ds os)
          ∙ ap Some (with_position-told (postings_of e q ds) (length ds) o.position (positions_of q os) (AreBefore-postings_of q ds))
          ∙ sym (if_any-append (postings_of e q ds) (length ds) o.position (positions_of q os))
          ∙ ap if_any (ap (λ ps. postings_of e q ds ++ told (length ds) ps) (sym (positions_of-same q os o is)) ∙ sym (postings_of-push q ds (os ++ o ∷ [])))

      each : (q : List ℕ) (b : Bool) → bytes_eq q o.bytes ≡ b → cond b (Some (with_position (unwrap_or (get (terms_of e (ds ++ os ∷ [])) o.bytes) []) (length ds) o.position)) (get (terms_of e (ds ++ os ∷ [])) q) ≡ if_any (postings_of e q (ds ++ (os ++ o ∷ []) ∷ []))
      each q true is = ap (λ k. Some (with_position (unwrap_or (get (terms_of e (ds ++ os ∷ [])) k) []) (length ds) o.position)) (sym ((bytes_decides q o.bytes).0 is)) ∙ here q is
      each q false is = get-terms_of e (ds ++ os ∷ []) q ∙ ap if_any (postings_of-push q ds os ∙ ap (λ ps. postings_of e q ds ++ told (length ds) ps) (sym (positions_of-other q os o is)) ∙ sym (postings_of-push q ds (os ++ o ∷ [])))

  with_occurrences-terms_of : (ds : List (List Occurrence)) (os more : List Occurrence) → with_occurrences (terms_of e (ds ++ os ∷ [])) (length ds) more ≡ terms_of e (ds ++ (os ++ more) ∷ [])
  with_occurrences-terms_of ds os [] = ap (λ l. terms_of e (ds ++ l ∷ [])) (sym (append-nil os))
  with_occurrences-terms_of ds os (o ∷ more) =
      ap (λ t. with_occurrences t (length ds) more) (with_occurrence-terms_of ds os o)
      ∙ with_occurrences-terms_of ds (os ++ o ∷ []) more
      ∙ ap (λ l. terms_of e (ds ++ l ∷ [])) (append_assoc os (o ∷ []) more)

  -- a document in which nothing has occurred
  terms_of-empty : (ds : List (List Occurrence)) → terms_of e ds ≡ terms_of e (ds ++ [] ∷ [])
  terms_of-empty ds = no_other_terms e (ds ++ [] ∷ []) (terms_of e ds) (λ q. get-terms_of e ds q ∙ ap if_any (sym (append-nil (postings_of e q ds)) ∙ sym (postings_of-push q ds [])))

  -- one more document
  pub terms_of-push : (ds : List (List Occurrence)) (os : List Occurrence) → with_occurrences (terms_of e ds) (length ds) os ≡ terms_of e (ds ++ os ∷ [])
  terms_of-push ds os = ap (λ t. with_occurrences t (length ds) os) (terms_of-empty ds) ∙ with_occurrences-terms_of ds [] os

pub with_occurrences-append : (terms : Terms) (d : ℕ) (xs ys : List Occurrence) → with_occurrences terms d (xs ++ ys) ≡ with_occurrences (with_occurrences terms d xs) d ys
with_occurrences-append terms d [] ys = refl
with_occurrences-append terms d (x ∷ xs) ys = with_occurrences-append (with_occurrence terms d x) d xs ys
