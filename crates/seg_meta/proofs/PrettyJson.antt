-- The pretty text of a JSON value, with a line feed after it, has the tokens of the value.
use Rattle.std.proofs.Common.{◌≡◌, ℕ, zero, suc, ◌*◌, Bool, true, false, cond, ◌&&◌, List, [], ◌∷◌, ◌++◌, replicate, refl, sym, ap, ap₂, ◌∙◌, append_assoc, inl, inr, IsUtf8}
use Rattle.std.proofs.lemmas.Str.{IsUtf8-append, IsUtf8-nil}
use Rattle.json.specs.Token.{Token, begin_object, end_object, begin_array, end_array, key, string, number, boolean, null, bad}
use Rattle.json.specs.Word.{ends_word, word}
use Rattle.json.specs.Lex.{Lexeme, token, comma, string_token, lex, between, fresh, punctuate, tokens}
use Rattle.json.specs.Print.{escape, quoted, token_text, begins, ends, separator, print_from, IsPrintable, ArePrintable}
use Rattle.json.specs.Layout.{Last, nothing, bracket, name, value, is_value, line, gap, depth_at, after, step, pretty_from, pretty}
use Rattle.json.specs.Spaced.{IsGap}
use Rattle.json.proofs.Printed.Numbers.{lex-number, in_word-ended}
use Rattle.json.proofs.Printed.Strings.{content-escape, lex-escape}
use Rattle.json.proofs.Printed.Tokens.{tokens-print}
use Rattle.json.proofs.Printed.Utf8.{IsUtf8-separator, IsUtf8-IsGap}

-- ---- what may be between tokens

spaces : (n : ℕ) → IsGap (replicate n 32)
spaces zero = tt
spaces (suc n) = (inl refl, spaces n)

line_gap : (depth : ℕ) → IsGap (line depth)
line_gap depth = (inr refl, spaces (2 * depth))

gap_gap : (last : Last) (opens : Bool) (depth : ℕ) → IsGap (gap last opens depth)
gap_gap nothing opens depth = tt
gap_gap bracket true depth = line_gap depth
gap_gap bracket false depth = tt
gap_gap name opens depth = (inl refl, tt)
gap_gap value opens depth = line_gap depth

lex-gap : (g r : List ℕ) → IsGap g → lex between (g ++ r) ≡ lex between r
unfolding lex
lex-gap [] r h = refl
lex-gap (x ∷ g) r (inl e, h) = rw e (lex-gap g r h)
lex-gap (x ∷ g) r (inr e, h) = rw e (lex-gap g r h)

lex-quoted : (s r : List ℕ) → lex between (quoted s ++ r) ≡ token (string s) ∷ lex between r
unfolding lex
lex-quoted s r =
    let e = append_assoc (escape s) (34 ∷ []) r in
    ap (λ l. lex between (34 ∷ l)) e ∙ ap₂ (λ o l. token (string_token o) ∷ l) (content-escape s r) (lex-escape s r)

-- ---- a token before one text and before another

lex-separator : (b : Bool) (r q : List ℕ) → lex between r ≡ lex between q → lex between (cond b (44 ∷ []) [] ++ r) ≡ lex between (cond b (44 ∷ []) [] ++ q)
unfolding lex
lex-separator true r q h = ap (λ l. comma ∷ l) h
lex-separator false r q h = h

lex-token : (t : Token) (r q : List ℕ) → IsPrintable t → (ends t ≡ true → ends_word r ≡ true) → (ends t ≡ true → ends_word q ≡ true) → lex between r ≡ lex between q
    → lex between (token_text t ++ r) ≡ lex between (token_text t ++ q)
unfolding lex word
lex-token begin_object r q h er eq same = ap (λ l. token begin_object ∷ l) same
lex-token end_object r q h er eq same = ap (λ l. token end_object ∷ l) same
lex-token begin_array r q h er eq same = ap (λ l. token begin_array ∷ l) same
lex-token end_array r q h er eq same = ap (λ l. token end_array ∷ l) same
lex-token (key s) r q h er eq same =
    let colons : lex between (58 ∷ r) ≡ lex between (58 ∷ q) = ap (λ l. Lexeme.colon ∷ l) same in
    ap (lex between) (append_assoc (quoted s) (58 ∷ []) r) ∙ lex-quoted s (58 ∷ r) ∙ ap (λ l. token (string s) ∷ l) colons ∙ sym (lex-quoted s (58 ∷ q))
    ∙ sym (ap (lex between) (append_assoc (quoted s) (58 ∷ []) q))
lex-token (string s) r q h er eq same = lex-quoted s r ∙ ap (λ l. token (string s) ∷ l) same ∙ sym (lex-quoted s q)
lex-token (number s) r q h er eq same = lex-number s r h (er refl) ∙ ap (λ l. token (number s) ∷ l) same ∙ sym (lex-number s q h (eq refl))
lex-token (boolean true) r q h er eq same =
    ap₂ (λ b l. token (cond b (boolean true) bad) ∷ l) (er refl) (in_word-ended r (er refl)) ∙ ap (λ l. token (boolean true) ∷ l) same
    ∙ sym (ap₂ (λ b l. token (cond b (boolean true) bad) ∷ l) (eq refl) (in_word-ended q (eq refl)))
lex-token (boolean false) r q h er eq same =
    ap₂ (λ b l. token (cond b (boolean false) bad) ∷ l) (er refl) (in_word-ended r (er refl)) ∙ ap (λ l. token (boolean false) ∷ l) same
    ∙ sym (ap₂ (λ b l. token (cond b (boolean false) bad) ∷ l) (eq refl) (in_word-ended q (eq refl)))
lex-token null r q h er eq same =
    ap₂ (λ b l. token (cond b null bad) ∷ l) (er refl) (in_word-ended r (er refl)) ∙ ap (λ l. token null ∷ l) same
    ∙ sym (ap₂ (λ b l. token (cond b null bad) ∷ l) (eq refl) (in_word-ended q (eq refl)))
lex-token bad r q h er eq same = absurd h

-- ---- after a value comes a comma, a line feed, a closing bracket or nothing

compact_ends : (ts : List Token) → ends_word (print_from true ts) ≡ true
unfolding print_from
compact_ends [] = refl
compact_ends (begin_object ∷ ts) = refl
compact_ends (end_object ∷ ts) = refl
compact_ends (begin_array ∷ ts) = refl
compact_ends (end_array ∷ ts) = refl
compact_ends (key s ∷ ts) = refl
compact_ends (string s ∷ ts) = refl
compact_ends (number s ∷ ts) = refl
compact_ends (boolean b ∷ ts) = refl
compact_ends (null ∷ ts) = refl
compact_ends (bad ∷ ts) = refl

value_ends : (depth : ℕ) (ts : List Token) (r : List ℕ) → ends_word r ≡ true → ends_word (pretty_from (value, depth) ts ++ r) ≡ true
unfolding pretty_from
value_ends depth [] r h = h
value_ends depth (begin_object ∷ ts) r h = refl
value_ends depth (end_object ∷ ts) r h = refl
value_ends depth (begin_array ∷ ts) r h = refl
value_ends depth (end_array ∷ ts) r h = refl
value_ends depth (key s ∷ ts) r h = refl
value_ends depth (string s ∷ ts) r h = refl
value_ends depth (number s ∷ ts) r h = refl
value_ends depth (boolean b ∷ ts) r h = refl
value_ends depth (null ∷ ts) r h = refl
value_ends depth (bad ∷ ts) r h = refl

pretty_ends : (s : Last × ℕ) (t : Token) (ts : List Token) (r : List ℕ) → ends_word r ≡ true → ends t ≡ true → ends_word (pretty_from (step s t) ts ++ r) ≡ true
pretty_ends s begin_object ts r h e = cc
pretty_ends s end_object ts r h e = value_ends _ ts r h
pretty_ends s begin_array ts r h e = cc
pretty_ends s end_array ts r h e = value_ends _ ts r h
pretty_ends s (key k) ts r h e = cc
pretty_ends s (string k) ts r h e = value_ends _ ts r h
pretty_ends s (number k) ts r h e = value_ends _ ts r h
pretty_ends s (boolean b) ts r h e = value_ends _ ts r h
pretty_ends s null ts r h e = value_ends _ ts r h
pretty_ends s bad ts r h e = value_ends _ ts r h

after_ends : (t : Token) (depth : ℕ) → is_value (after t depth).0 ≡ ends t
after_ends begin_object depth = refl
after_ends end_object depth = refl
after_ends begin_array depth = refl
after_ends end_array depth = refl
after_ends (key k) depth = refl
after_ends (string k) depth = refl
after_ends (number k) depth = refl
after_ends (boolean b) depth = refl
after_ends null depth = refl
after_ends bad depth = refl

-- ---- the whole

regroup : (a b c d r : List ℕ) → ((a ++ (b ++ c)) ++ d) ++ r ≡ a ++ (b ++ (c ++ (d ++ r)))
regroup a b c d r = simp append_assoc

lex-pretty_from : (s : Last × ℕ) (ts : List Token) (r : List ℕ) → ends_word r ≡ true → lex between r ≡ [] → ArePrintable ts → lex between (pretty_from s ts ++ r) ≡ lex between (print_from (is_value s.0) ts)
unfolding lex pretty_from print_from ArePrintable
lex-pretty_from s [] r ended none h = none
lex-pretty_from s (t ∷ ts) r ended none h =
    let before = separator (is_value s.0) t in
    let space = gap s.0 (begins t) (depth_at s.1 t) in
    let rest = pretty_from (step s t) ts ++ r in
    let more : lex between rest ≡ lex between (print_from (ends t) ts) = lex-pretty_from (step s t) ts r ended none h.1 ∙ ap (λ b. lex between (print_from b ts)) (after_ends t (depth_at s.1 t)) in
    ap (lex between) (regroup before space (token_text t) (pretty_from (step s t) ts) r)
    ∙ lex-separator (is_value s.0 && begins t) (space ++ (token_text t ++ rest)) (token_text t ++ print_from (ends t) ts)
    (lex-gap space (token_text t ++ rest) (gap_gap s.0 (begins t) (depth_at s.1 t))
    ∙ lex-token t rest (print_from (ends t) ts) h.0 (pretty_ends s t ts r ended) (λ e. ap (λ b. ends_word (print_from b ts)) e ∙ compact_ends ts) more)

-- the tokens of the text, with a line feed after it
pub tokens-pretty : (ts : List Token) → ArePrintable ts → tokens (pretty ts ++ 10 ∷ []) ≡ ts
unfolding lex
tokens-pretty ts h = ap (punctuate fresh) (lex-pretty_from (nothing, 0) ts (10 ∷ []) refl refl h) ∙ tokens-print ts h

-- ---- the text is UTF-8

-- each token's text is
abbrev pub AreUtf8 : List Token → Type 0
AreUtf8 [] = Unit {0}
AreUtf8 (t ∷ ts) = IsUtf8 (token_text t) × AreUtf8 ts

pub AreUtf8-append : (ts us : List Token) → AreUtf8 ts → AreUtf8 us → AreUtf8 (ts ++ us)
AreUtf8-append [] us h k = k
AreUtf8-append (t ∷ ts) us h k = (h.0, AreUtf8-append ts us h.1 k)

IsUtf8-pretty_from : (s : Last × ℕ) (ts : List Token) → AreUtf8 ts → IsUtf8 (pretty_from s ts)
unfolding pretty_from
IsUtf8-pretty_from s [] h = IsUtf8-nil
IsUtf8-pretty_from s (t ∷ ts) h =
    IsUtf8-append _ _ (IsUtf8-append _ _ (IsUtf8-separator (is_value s.0) t) (IsUtf8-append _ _ (IsUtf8-IsGap _ (gap_gap s.0 (begins t) (depth_at s.1 t))) h.0)) (IsUtf8-pretty_from (step s t) ts h.1)

pub IsUtf8-pretty : (ts : List Token) → AreUtf8 ts → IsUtf8 (pretty ts ++ 10 ∷ [])
IsUtf8-pretty ts h = IsUtf8-append _ _ (IsUtf8-pretty_from (nothing, 0) ts h) (IsUtf8-IsGap (10 ∷ []) (inr refl, tt))
