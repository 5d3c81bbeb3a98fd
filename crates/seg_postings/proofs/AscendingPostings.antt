-- Postings that are read ascend, each recorded as its kind asks.
use Rattle.std.proofs.Common.{◌≡◌, ℕ, zero, suc, ◌+◌, ◌-◌, ◌^◌, ◌<◌, ◌≤◌, Bool, true, false, List, [], ◌∷◌, map, length, Option, Some, None, refl, sym, ap, ◌∙◌, subst, arith}
use Rattle.std.specs.Prelude.{option_map, option_and_then, nat_le, nat_lt}
use Rattle.std.specs.List.{AllByRecursion}
use Rattle.std.proofs.lemmas.Bool.{leb-true}
use Rattle.seg_common.specs.Varint.{varint_at}
use Rattle.seg_values.specs.declared.schema.IndexOption.{IndexOption}
use Rattle.seg_values.specs.declared.schema.IndexOption.TheVariants as options
use Rattle.seg_model.specs.DocumentTerms.{presence, frequency, Posting}
use Rattle.seg_model.specs.Shape.{IsRecordOf, ArePostings}
use Rattle.seg_postings.specs.declared.record_kind.RecordKind.{RecordKind}
use Rattle.seg_postings.specs.declared.record_kind.RecordKind.TheVariants.{Documents, Counts, Positions}
use Rattle.seg_postings.specs.RecordKinds.{kind_of, kind_of_byte}
use Rattle.seg_postings.specs.Postings.{Counted, in_bounds, number_at, count_at, counts_at, positions_at, with_positions, postings_by, TermPostings, postings_of_kind, term_postings}

-- ---- what is read of an option

pub record IsMapped {A B : Type 0} (f : A → B) (o : Option A) (b : B) : Type 0 where
  pub value : A
  pub is : o ≡ Some value
  pub same : f value ≡ b

pub mapped : {A B : Type 0} (f : A → B) (o : Option A) (b : B) → option_map f o ≡ Some b → IsMapped f o b
mapped f None b e = absurd (cc e)
mapped f (Some a) b e = record { value = a; is = refl; same = cc }

pub record IsThen {A B : Type 0} (f : A → Option B) (o : Option A) (b : B) : Type 0 where
  pub value : A
  pub is : o ≡ Some value
  pub next : f value ≡ Some b

pub after : {A B : Type 0} (f : A → Option B) (o : Option A) (b : B) → option_and_then f o ≡ Some b → IsThen f o b
after f None b e = absurd (cc e)
after f (Some a) b e = record { value = a; is = refl; next = e }

-- ---- counted documents

-- documents ascend, the first from `least` after `before` on, and each has the term at least once
abbrev Rise : ℕ → ℕ → List Counted → Type 0
Rise before least [] = Unit {0}
Rise before least (c ∷ cs) = (before + least ≤ c.document) × (1 ≤ c.count) × Rise c.document 1 cs

pub bounded : (least limit : ℕ) (bytes : List ℕ) (n : ℕ × List ℕ) → number_at least limit bytes ≡ Some n → least ≤ n.0
bounded least limit bytes n e =
    let read = after (in_bounds least limit) (varint_at bytes) n e in
    by read.value (nat_le least read.value.0) (nat_lt read.value.0 limit) refl refl read.next
  where
    by : (v : ℕ × List ℕ) (a b : Bool) → nat_le least v.0 ≡ a → nat_lt v.0 limit ≡ b → in_bounds least limit v ≡ Some n → least ≤ n.0
    by v true true p q h =
        let kept : (let o : Option (ℕ × List ℕ) = Some v in o) ≡ Some n = sym (rw (p, q) refl) ∙ h in
        let same : v ≡ n = cc in
        subst (λ (x : ℕ × List ℕ). least ≤ x.0) same (leb-true least v.0 p)
    by v true false p q h = absurd (let none : (let o : Option (ℕ × List ℕ) = None in o) ≡ Some n = sym (rw (p, q) refl) ∙ h in cc none)
    by v false b p q h = absurd (let none : (let o : Option (ℕ × List ℕ) = None in o) ≡ Some n = sym (rw p refl) ∙ h in cc none)

counted_once : (kind : RecordKind) (bytes : List ℕ) (c : ℕ × List ℕ) → count_at kind bytes ≡ Some c → 1 ≤ c.0
counted_once Documents bytes c e = let same : (1, bytes) ≡ c = cc in subst (λ (x : ℕ × List ℕ). 1 ≤ x.0) same (omega arith)
counted_once Counts bytes c e = bounded 1 (2 ^ 32) bytes c e
counted_once Positions bytes c e = bounded 1 (2 ^ 32) bytes c e

rise : (kind : RecordKind) (n before least : ℕ) (bytes : List ℕ) (cs : List Counted) → counts_at kind n before least bytes ≡ Some cs → Rise before least cs
unfolding counts_at
rise kind zero before least [] cs e = let same : [] ≡ cs = cc in subst (Rise before least) same tt
rise kind zero before least (b ∷ bytes) cs e = absurd (cc e)
rise kind (suc n) before least bytes cs e =
    let d = after _ (number_at least (2 ^ 32 - 1 - before) bytes) cs e in
    let c = after _ (count_at kind d.value.1) cs d.next in
    let rest = mapped _ (counts_at kind n (before + d.value.0) 1 c.value.1) cs c.next in
    let low = bounded least (2 ^ 32 - 1 - before) bytes d.value d.is in
    subst (Rise before least) rest.same (omega (arith, low), counted_once kind d.value.1 c.value c.is, rise kind n (before + d.value.0) 1 c.value.1 rest.value rest.is)

-- ---- what is recorded

-- as many places as are asked for
pub as_many : (n before : ℕ) (bytes : List ℕ) (r : List ℕ × List ℕ) → positions_at n before bytes ≡ Some r → length r.0 ≡ n
unfolding positions_at
as_many zero before bytes r e = let same : ([], bytes) ≡ r = cc in subst (λ (x : List ℕ × List ℕ). length x.0 ≡ 0) same refl
as_many (suc n) before bytes r e =
    let p = after _ (number_at 0 (2 ^ 32 - before) bytes) r e in
    let rest = mapped _ (positions_at n (before + p.value.0) p.value.1) r p.next in
    subst (λ (x : List ℕ × List ℕ). length x.0 ≡ suc n) rest.same (ap suc (as_many n (before + p.value.0) p.value.1 rest.value rest.is))

-- postings by ascending documents below a limit, each as an option asks
module _ (last : ℕ) where
  abbrev AreLow : List Posting → Type 0
  AreLow ps = AllByRecursion (λ (p : Posting). p.document < last) ps

  documents_rise : (option : IndexOption) (cs : List Counted) (before least : ℕ) → IsRecordOf option presence → Rise before least cs → AreLow (map (λ (c : Counted). record { document = c.document; recorded = presence }) cs) → ArePostings option (before + least) last (map (λ (c : Counted). record { document = c.document; recorded = presence }) cs)
  documents_rise option [] before least is up low = tt
  documents_rise option (c ∷ cs) before least is up low = (up.0, low.0, is, documents_rise option cs c.document 1 is up.2 low.1)

  counts_rise : (cs : List Counted) (before least : ℕ) → Rise before least cs → AreLow (map (λ (c : Counted). record { document = c.document; recorded = frequency c.count }) cs) → ArePostings options.Freqs (before + least) last (map (λ (c : Counted). record { document = c.document; recorded = frequency c.count }) cs)
  counts_rise [] before least up low = tt
  counts_rise (c ∷ cs) before least up low = (up.0, low.0, (c.count, omega (arith, up.1), refl), counts_rise cs c.document 1 up.2 low.1)

  positions_rise : (cs : List Counted) (bytes : List ℕ) (ps : List Posting) (before least : ℕ) → with_positions cs bytes ≡ Some ps → Rise before least cs → AreLow ps → ArePostings options.Positions (before + least) last ps
  unfolding with_positions
  positions_rise [] [] ps before least e up low = let same : [] ≡ ps = cc in subst (ArePostings options.Positions (before + least) last) same tt
  positions_rise [] (b ∷ bytes) ps before least e up low = absurd (cc e)
  positions_rise (c ∷ cs) bytes ps before least e up low =
      let r = after _ (positions_at c.count 0 bytes) ps e in
      let rest = mapped _ (with_positions cs r.value.1) ps r.next in
      let all = subst AreLow (sym rest.same) low in
      let number = as_many c.count 0 bytes r.value r.is in
      let some : 0 < length r.value.0 = omega (arith, number, up.1) in
      subst (ArePostings options.Positions (before + least) last) rest.same
      (up.0, all.0, (r.value.0, some, refl), positions_rise cs r.value.1 rest.value c.document 1 rest.is up.2 all.1)

  documents_only : (option : IndexOption) (cs : List Counted) (bytes : List ℕ) (ps : List Posting) → postings_by Documents cs bytes ≡ Some ps → Rise 0 0 cs → AreLow ps → IsRecordOf option presence → ArePostings option 0 last ps
  documents_only option cs [] ps h up low is =
      let same : map (λ (c : Counted). record { document = c.document; recorded = presence }) cs ≡ ps = cc in
      subst (ArePostings option 0 last) same (documents_rise option cs 0 0 is up (subst AreLow (sym same) low))
  documents_only option cs (b ∷ bytes) ps h up low is = absurd (cc h)

  counts_only : (cs : List Counted) (bytes : List ℕ) (ps : List Posting) → postings_by Counts cs bytes ≡ Some ps → Rise 0 0 cs → AreLow ps → ArePostings options.Freqs 0 last ps
  counts_only cs [] ps h up low =
      let same : map (λ (c : Counted). record { document = c.document; recorded = frequency c.count }) cs ≡ ps = cc in
      subst (ArePostings options.Freqs 0 last) same (counts_rise cs 0 0 up (subst AreLow (sym same) low))
  counts_only cs (b ∷ bytes) ps h up low = absurd (cc h)

  by_kind : (option : IndexOption) (kind : RecordKind) (cs : List Counted) (bytes : List ℕ) (ps : List Posting) → kind ≡ kind_of option → postings_by kind cs bytes ≡ Some ps → Rise 0 0 cs → AreLow ps → ArePostings option 0 last ps
  by_kind options.No kind cs bytes ps k e up low = documents_only options.No cs bytes ps (ap (λ x. postings_by x cs bytes) (sym k) ∙ e) up low refl
  by_kind options.Basic kind cs bytes ps k e up low = documents_only options.Basic cs bytes ps (ap (λ x. postings_by x cs bytes) (sym k) ∙ e) up low refl
  by_kind options.Freqs kind cs bytes ps k e up low = counts_only cs bytes ps (ap (λ x. postings_by x cs bytes) (sym k) ∙ e) up low
  by_kind options.Positions kind cs bytes ps k e up low = positions_rise cs bytes ps 0 0 (ap (λ x. postings_by x cs bytes) (sym k) ∙ e) up low

  -- postings that are read of a kind ascend, each recorded as the option asks that asks for the kind
  pub read_rise : (option : IndexOption) (n : ℕ) (bytes position_bytes : List ℕ) (t : TermPostings) → term_postings n bytes position_bytes ≡ Some t → t.kind ≡ kind_of option → AreLow t.postings → ArePostings option 0 last t.postings
  read_rise option n [] position_bytes t e k low = absurd (cc e)
  read_rise option n (b ∷ bytes) position_bytes t e k low =
      let kind = after (postings_of_kind n bytes position_bytes) (kind_of_byte b) t e in
      let ps = mapped _ _ t kind.next in
      let cs = after _ (counts_at kind.value n 0 0 bytes) ps.value ps.is in
      let same_kind : kind.value ≡ t.kind = ap (λ (x : TermPostings). x.kind) ps.same in
      let same_postings : ps.value ≡ t.postings = ap (λ (x : TermPostings). x.postings) ps.same in
      subst (ArePostings option 0 last) same_postings
      (by_kind option kind.value cs.value position_bytes ps.value (same_kind ∙ k) cs.next (rise kind.value n 0 0 bytes cs.value cs.is) (subst AreLow (sym same_postings) low))
