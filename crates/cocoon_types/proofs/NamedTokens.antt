-- The names among the tokens of a text are names of the language.
use Rattle.std.proofs.Common.{◌≡◌, ℕ, zero, suc, ◌+◌, ◌-◌, ◌^◌, List, [], ◌∷◌, Bool, true, false, not, ◌&&◌, ◌||◌, Option, Some, None, Ok, Err, refl, ap, ap₂, sym, subst}
use Rattle.std.specs.Prelude.{codes, nat_lt, slice_get}
use Rattle.std.proofs.lemmas.Bool.{cond-true, cond_both}
use Rattle.cocoon_num.specs.Lists.{each, is_one_of}
use Rattle.cocoon_num.specs.Tokens.{Kind, a_name, keyword, plain, literal, mark, Token, Prefix, gap, piece, faulty, Lexed, begins, beginning, is_blank, is_digit, is_letter, is_run_byte, leading, kinds, kept_if, language, lex, lex_from, literal_of, number_kind, number_prefix, comment_prefix, run_kind, line_prefix, block_prefix, digit_prefix, letter_prefix, mark_prefix, prefix, by_prefix, with_token, decimal_value, before_w, after_w, literal_value}
use Rattle.cocoon_types.specs.Names.{is_name}

-- a token that is a name
abbrev pub KindNamed : Kind → Type 0
KindNamed (a_name x) = is_name x ≡ true
KindNamed _ = Unit {0}

abbrev pub AllNamed : List Kind → Type 0
AllNamed [] = Unit {0}
AllNamed (k ∷ ks) = KindNamed k × AllNamed ks

abbrev PieceNamed : Prefix → Type 0
PieceNamed (gap n) = Unit {0}
PieceNamed (piece k n) = KindNamed k
PieceNamed (faulty f) = Unit {0}

comment_named : (o : Option ℕ) → PieceNamed (comment_prefix o)
comment_named None = tt
comment_named (Some n) = tt

mark_named : (o : Option (List ℕ)) → PieceNamed (mark_prefix o)
mark_named None = tt
mark_named (Some m) = tt

abbrev MaybeNamed : Option Kind → Type 0
MaybeNamed None = Unit {0}
MaybeNamed (Some k) = KindNamed k

number_piece : (o : Option Kind) (size : ℕ) → MaybeNamed o → PieceNamed (number_prefix o size)
number_piece None size h = tt
number_piece (Some k) size h = h

kept_named : (b : Bool) (k : Kind) → KindNamed k → MaybeNamed (kept_if b k)
kept_named true k h = h
kept_named false k h = tt

literal_named : (widest : ℕ) (w n : Option ℕ) → MaybeNamed (literal_of widest w n)
literal_named widest None n = tt
literal_named widest (Some w) None = tt
literal_named widest (Some w) (Some n) = kept_named _ (literal w n) tt

by_value : (widest : ℕ) (run : List ℕ) (o : Option ℕ)
    → MaybeNamed (elim o as (λ _. Option Kind) [ Some n ↦ kept_if (nat_lt n (2 ^ 32)) (plain n) | None ↦ literal_of widest (decimal_value (before_w run)) (literal_value (after_w run)) ])
by_value widest run None = literal_named widest (decimal_value (before_w run)) (literal_value (after_w run))
by_value widest run (Some n) = kept_named (nat_lt n (2 ^ 32)) (plain n) tt

number_named : (widest : ℕ) (run : List ℕ) → MaybeNamed (number_kind widest run)
number_named widest run = by_value widest run (decimal_value run)

each_leading : (s : List ℕ) → each is_run_byte (leading is_run_byte s) ≡ true
each_leading [] = refl
each_leading (b ∷ s) =
    cond_both (is_run_byte b) (b ∷ leading is_run_byte s) [] (λ xs. each is_run_byte xs ≡ true) (λ h. ap₂ (λ u v. u && v) h (each_leading s)) (λ h. refl)

word_named : (b : ℕ) (bs : List ℕ) → is_letter b ≡ true → each is_run_byte bs ≡ true → KindNamed (run_kind language (b ∷ bs))
word_named b bs l e =
    let w = b ∷ bs in
    cond_both (is_one_of language.marks w) (mark w) _ KindNamed (λ m. tt)
    (λ m. cond_both (is_one_of language.reserved w) (keyword w) (a_name w) KindNamed (λ r. tt)
    (λ r. ap₂ (λ u v. u && v) (ap₂ (λ u v. u && v) (ap₂ (λ u v. u && v) l e) (ap not m)) (ap not r)))

letter_named : (b : ℕ) (rest : List ℕ) → is_letter b ≡ true → PieceNamed (letter_prefix language (b ∷ rest))
letter_named b rest l =
    let run : leading is_run_byte (b ∷ rest) ≡ b ∷ leading is_run_byte rest = cond-true (is_run_byte b) _ _ (ap (λ v. v || is_digit b) l) in
    subst (λ (w : List ℕ). KindNamed (run_kind language w)) (sym run) (word_named b (leading is_run_byte rest) l (each_leading rest))

prefix_named : (b : ℕ) (rest : List ℕ) → PieceNamed (prefix language b (b ∷ rest))
prefix_named b rest =
    let s = b ∷ rest in
    cond_both (is_blank b) (gap 1) _ PieceNamed (λ h. tt)
    (λ h. cond_both (begins (codes "//") s) (line_prefix s) _ PieceNamed (λ h. tt)
    (λ h. cond_both (begins (codes "/*") s) (block_prefix s) _ PieceNamed (λ h. comment_named _)
    (λ h. cond_both (is_digit b) (digit_prefix language s) _ PieceNamed (λ h. number_piece _ _ (number_named language.widest (leading is_run_byte s)))
    (λ h. cond_both (is_letter b) (letter_prefix language s) (mark_prefix (beginning language.marks s)) PieceNamed (letter_named b rest) (λ h. mark_named _)))))

-- the tokens that were lexed, if any
abbrev LexedNamed : Lexed → Type 0
LexedNamed (Ok ts) = AllNamed (kinds ts)
LexedNamed (Err e) = Unit {0}

with_named : (t : Token) (r : Lexed) → KindNamed t.kind → LexedNamed r → LexedNamed (with_token t r)
with_named t (Ok ts) k h = (k, h)
with_named t (Err e) k h = tt

by_named : (at : ℕ) (p : Prefix) (next : ℕ → Lexed) → PieceNamed p → ((n : ℕ) → LexedNamed (next n)) → LexedNamed (by_prefix at p next)
by_named at (gap size) next k h = h (size - 1)
by_named at (piece kind size) next k h = with_named (record { kind = kind; start = at; stop = at + size }) (next (size - 1)) k (h (size - 1))
by_named at (faulty f) next k h = tt

lexed_named : (at covered : ℕ) (s : List ℕ) → LexedNamed (lex_from language at covered s)
lexed_named at covered [] = (tt, tt)
lexed_named at (suc covered) (b ∷ rest) = lexed_named (suc at) covered rest
lexed_named at zero (b ∷ rest) =
    by_named at (prefix language b (b ∷ rest)) (λ covered. lex_from language (suc at) covered rest) (prefix_named b rest) (λ covered. lexed_named (suc at) covered rest)

pub tokens_named : (text : List ℕ) (ts : List Token) → lex language text ≡ Ok ts → AllNamed (kinds ts)
tokens_named text ts e = subst LexedNamed e (lexed_named 0 0 text)

pub name_there : (ks : List Kind) → AllNamed ks → (i : ℕ) (x : List ℕ) → slice_get ks i ≡ Some (a_name x) → is_name x ≡ true
name_there [] h i x e = absurd cc
name_there (k ∷ ks) h zero x e = let same : k ≡ a_name x = cc in subst KindNamed same h.0
name_there (k ∷ ks) h (suc i) x e = name_there ks h.1 i x e
