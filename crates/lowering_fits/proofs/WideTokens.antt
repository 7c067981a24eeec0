-- The literals of a text have 1 to 64 bits.
use Rattle.std.proofs.Common.{◌≡◌, ℕ, zero, suc, ◌+◌, ◌-◌, ◌^◌, List, [], ◌∷◌, Bool, true, false, ◌&&◌, Option, Some, None, Ok, Err, nat_le, refl, subst, arith}
use Rattle.std.specs.Prelude.{codes, nat_lt, slice_get}
use Rattle.std.proofs.lemmas.Bool.{cond_both}
use Rattle.cocoon_num.specs.Lists.{is_one_of}
use Rattle.cocoon_num.specs.Tokens.{Kind, a_name, keyword, plain, literal, mark, Token, Prefix, gap, piece, faulty, Lexed, begins, beginning, is_blank, is_digit, is_letter, is_run_byte, leading, kinds, kept_if, language, lex, lex_from, literal_of, number_kind, number_prefix, comment_prefix, run_kind, line_prefix, block_prefix, digit_prefix, letter_prefix, mark_prefix, prefix, with_token, by_prefix, decimal_value, before_w, after_w, literal_value}
use Rattle.sound_types.proofs.Options.{both_true, true_both}

-- where the token is a literal, it is wide enough and not too wide
abbrev pub KindWide : Kind → Type 0
KindWide (literal w n) = (nat_le 1 w && nat_le w 128) ≡ true
KindWide _ = Unit {0}

abbrev pub AllWide : List Kind → Type 0
AllWide [] = Unit {0}
AllWide (k ∷ ks) = KindWide k × AllWide ks

abbrev PieceWide : Prefix → Type 0
PieceWide (gap n) = Unit {0}
PieceWide (piece k n) = KindWide k
PieceWide (faulty f) = Unit {0}

comment_wide : (o : Option ℕ) → PieceWide (comment_prefix o)
comment_wide None = tt
comment_wide (Some n) = tt

mark_wide : (o : Option (List ℕ)) → PieceWide (mark_prefix o)
mark_wide None = tt
mark_wide (Some m) = tt

abbrev MaybeWide : Option Kind → Type 0
MaybeWide None = Unit {0}
MaybeWide (Some k) = KindWide k

number_piece : (o : Option Kind) (size : ℕ) → MaybeWide o → PieceWide (number_prefix o size)
number_piece None size h = tt
number_piece (Some k) size h = h

wider : (w : ℕ) → nat_le w 64 ≡ true → nat_le w 128 ≡ true
wider w h = grind (arith, h)

kept_literal : (w n : ℕ) (b : Bool) → ((nat_le 1 w && nat_le w 64) && nat_lt n (2 ^ w)) ≡ b → MaybeWide (kept_if b (literal w n))
kept_literal w n false h = tt
kept_literal w n true h =
    let outer = both_true (nat_le 1 w && nat_le w 64) (nat_lt n (2 ^ w)) h in
    let inner = both_true (nat_le 1 w) (nat_le w 64) outer.0 in true_both (nat_le 1 w) (nat_le w 128) inner.0 (wider w inner.1)

literal_wide : (w n : Option ℕ) → MaybeWide (literal_of 64 w n)
literal_wide None n = tt
literal_wide (Some w) None = tt
literal_wide (Some w) (Some n) = kept_literal w n ((nat_le 1 w && nat_le w 64) && nat_lt n (2 ^ w)) refl

kept_plain : (b : Bool) (n : ℕ) → MaybeWide (kept_if b (plain n))
kept_plain true n = tt
kept_plain false n = tt

by_value : (run : List ℕ) (o : Option ℕ)
    → MaybeWide (elim o as (λ _. Option Kind) [ Some n ↦ kept_if (nat_lt n (2 ^ 32)) (plain n) | None ↦ literal_of 64 (decimal_value (before_w run)) (literal_value (after_w run)) ])
by_value run None = literal_wide (decimal_value (before_w run)) (literal_value (after_w run))
by_value run (Some n) = kept_plain (nat_lt n (2 ^ 32)) n

number_wide : (run : List ℕ) → MaybeWide (number_kind 64 run)
number_wide run = by_value run (decimal_value run)

word_wide : (w : List ℕ) → KindWide (run_kind language w)
word_wide w = cond_both (is_one_of language.marks w) (mark w) _ KindWide (λ m. tt) (λ m. cond_both (is_one_of language.reserved w) (keyword w) (a_name w) KindWide (λ r. tt) (λ r. tt))

prefix_wide : (b : ℕ) (rest : List ℕ) → PieceWide (prefix language b (b ∷ rest))
prefix_wide b rest =
    let s = b ∷ rest in
    cond_both (is_blank b) (gap 1) _ PieceWide (λ h. tt)
    (λ h. cond_both (begins (codes "//") s) (line_prefix s) _ PieceWide (λ h. tt)
    (λ h. cond_both (begins (codes "/*") s) (block_prefix s) _ PieceWide (λ h. comment_wide _)
    (λ h. cond_both (is_digit b) (digit_prefix language s) _ PieceWide (λ h. number_piece _ _ (number_wide (leading is_run_byte s)))
    (λ h. cond_both (is_letter b) (letter_prefix language s) (mark_prefix (beginning language.marks s)) PieceWide (λ h. word_wide (leading is_run_byte s)) (λ h. mark_wide _)))))

-- the tokens that were lexed, if any
abbrev LexedWide : Lexed → Type 0
LexedWide (Ok ts) = AllWide (kinds ts)
LexedWide (Err e) = Unit {0}

with_wide : (t : Token) (r : Lexed) → KindWide t.kind → LexedWide r → LexedWide (with_token t r)
with_wide t (Ok ts) k h = (k, h)
with_wide t (Err e) k h = tt

by_wide : (at : ℕ) (p : Prefix) (next : ℕ → Lexed) → PieceWide p → ((n : ℕ) → LexedWide (next n)) → LexedWide (by_prefix at p next)
by_wide at (gap size) next k h = h (size - 1)
by_wide at (piece kind size) next k h = with_wide (record { kind = kind; start = at; stop = at + size }) (next (size - 1)) k (h (size - 1))
by_wide at (faulty f) next k h = tt

lexed_wide : (at covered : ℕ) (s : List ℕ) → LexedWide (lex_from language at covered s)
lexed_wide at covered [] = (tt, tt)
lexed_wide at (suc covered) (b ∷ rest) = lexed_wide (suc at) covered rest
lexed_wide at zero (b ∷ rest) =
    by_wide at (prefix language b (b ∷ rest)) (λ covered. lex_from language (suc at) covered rest) (prefix_wide b rest) (λ covered. lexed_wide (suc at) covered rest)

pub tokens_wide : (text : List ℕ) (ts : List Token) → lex language text ≡ Ok ts → AllWide (kinds ts)
tokens_wide text ts e = subst LexedWide e (lexed_wide 0 0 text)

pub wide_there : (ks : List Kind) → AllWide ks → (i w n : ℕ) → slice_get ks i ≡ Some (literal w n) → (nat_le 1 w && nat_le w 128) ≡ true
wide_there [] h i w n e = absurd (cc)
wide_there (k ∷ ks) h zero w n e = let same : k ≡ literal w n = cc in subst KindWide same h.0
wide_there (k ∷ ks) h (suc i) w n e = wide_there ks h.1 i w n e
