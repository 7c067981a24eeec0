-- The tokens of a text: its last is the end, none before is, and there are at most as many as bytes, and the end.
use Rattle.std.specs.Prelude.{◌≡◌, ℕ, zero, suc, ◌+◌, ◌-◌, ◌≤◌, ◌&&◌, Bool, true, false, nat_le, nat_lt, ◌^◌, List, [], ◌∷◌, ◌++◌, length, drop, slice_get, Option, Some, None, Ok, Err, if◌then◌else◌, codes, refl}
use Rattle.std.proofs.Common.{ap, subst, arith}
use Rattle.std.proofs.lemmas.Bool.{and_parts, le-leb, leb-true}
use Rattle.cocoon_num.specs.Tokens.{Kind, a_name, keyword, plain, literal, mark, finish, Token, Lexicon, Lexed, Prefix, gap, piece, faulty, prefix, by_prefix, with_token, lex_from, lex, language, language_bounds, none_deep, is_shallow, brackets_after, operators_after, kept_if, literal_of, number_kind, number_prefix, decimal_value, literal_value, before_w, after_w, comment_prefix, block_prefix, digit_prefix, letter_prefix, line_prefix, mark_prefix, leading, is_run_byte, beginning, comment_end, is_blank, is_digit, is_letter, begins}
use Rattle.cocoon_num.specs.Lists.{is_one_of}
use Rattle.parsing.specs.PlainParser.{is_finish}
use Rattle.parsing.specs.Reading.{Ended, the_end, one_before, TokensOf}

pub ended_is : {ks : List Kind} → Ended ks → (before : List Kind) × (ks ≡ before ++ finish ∷ [])
ended_is the_end = ([], refl)
ended_is (one_before {k = k} e d) = let r = ended_is d in (k ∷ r.0, ap (λ z. k ∷ z) r.1)

pub ends_last : {ks : List Kind} → Ended ks → (j : ℕ) → is_finish (slice_get ks j) ≡ true → suc j ≡ length ks
ends_last the_end zero h = refl
ends_last the_end (suc j) h = absurd cc
ends_last (one_before e d) zero h = absurd cc
ends_last (one_before e d) (suc j) h = ap suc (ends_last d j h)

-- ---- prefixes

abbrev Fine : Prefix → Type 0
Fine (gap n) = Unit {0}
Fine (piece k n) = is_finish (Some k) ≡ false
Fine (faulty f) = Unit {0}

if_fine : (b : Bool) (x y : Prefix) → Fine x → Fine y → Fine (if b then x else y)
if_fine true x y f g = f
if_fine false x y f g = g

abbrev FineKind : Option Kind → Type 0
FineKind None = Unit {0}
FineKind (Some k) = is_finish (Some k) ≡ false

kept_fine : (b : Bool) (k : Kind) → is_finish (Some k) ≡ false → FineKind (kept_if b k)
kept_fine true k e = e
kept_fine false k e = tt

literal_fine : (widest : ℕ) (w n : Option ℕ) → FineKind (literal_of widest w n)
literal_fine widest None n = tt
literal_fine widest (Some w) None = tt
literal_fine widest (Some w) (Some n) = kept_fine (nat_le 1 w && nat_le w widest && nat_lt n (2 ^ w)) (literal w n) refl

number_fine : (widest : ℕ) (run : List ℕ) → FineKind (number_kind widest run)
number_fine widest run = elim (decimal_value run) as (λ o. FineKind (elim o [ Some n ↦ kept_if (nat_lt n (2 ^ 32)) (plain n) | None ↦ literal_of widest (decimal_value (before_w run)) (literal_value (after_w run)) ])) [
  | Some n ↦ kept_fine (nat_lt n (2 ^ 32)) (plain n) refl
  | None ↦ literal_fine widest (decimal_value (before_w run)) (literal_value (after_w run))
]

number_prefix_fine : (k : Option Kind) (n : ℕ) → FineKind k → Fine (number_prefix k n)
number_prefix_fine None n f = tt
number_prefix_fine (Some k) n f = f

comment_fine : (o : Option ℕ) → Fine (comment_prefix o)
comment_fine None = tt
comment_fine (Some n) = tt

mark_fine : (o : Option (List ℕ)) → Fine (mark_prefix o)
mark_fine None = tt
mark_fine (Some m) = refl

run_kind_fine : (b c : Bool) (w : List ℕ) → is_finish (Some (if b then mark w else if c then keyword w else a_name w)) ≡ false
run_kind_fine true c w = refl
run_kind_fine false true w = refl
run_kind_fine false false w = refl

prefix_fine : (lexicon : Lexicon) (b : ℕ) (text : List ℕ) → Fine (prefix lexicon b text)
prefix_fine lexicon b text =
    let run = leading is_run_byte text in
    let marks = mark_prefix (beginning lexicon.marks text) in
    let letters = if is_letter b then letter_prefix lexicon text else marks in
    let digits = if is_digit b then digit_prefix lexicon text else letters in
    let blocks = if begins (codes "/*") text then block_prefix text else digits in
    let lines = if begins (codes "//") text then line_prefix text else blocks in
    let numbers : Fine (digit_prefix lexicon text) = number_prefix_fine (number_kind lexicon.widest run) (length run) (number_fine lexicon.widest run) in
    let reserved_words : Fine (letter_prefix lexicon text) = run_kind_fine (is_one_of lexicon.marks run) (is_one_of lexicon.reserved run) run in
    if_fine (is_blank b) (gap 1) lines tt
    (if_fine (begins (codes "//") text) (line_prefix text) blocks tt
    (if_fine (begins (codes "/*") text) (block_prefix text) digits (comment_fine (comment_end (drop 2 text)))
    (if_fine (is_digit b) (digit_prefix lexicon text) letters numbers
    (if_fine (is_letter b) (letter_prefix lexicon text) marks reserved_words (mark_fine (beginning lexicon.marks text))))))

-- ---- tokens

abbrev LastsWithin : Lexed → ℕ → Type 0
LastsWithin (Ok ts) n = TokensOf n ts
LastsWithin (Err e) n = Unit {0}

with_lasts : (t : Token) (r : Lexed) (n : ℕ) → is_finish (Some t.kind) ≡ false → LastsWithin r n → LastsWithin (with_token t r) (suc n)
with_lasts t (Ok ts) n e d = record { ended = one_before e d.ended; few = let f = d.few in omega arith }
with_lasts t (Err x) n e d = tt

more_lasts : (r : Lexed) (n : ℕ) → LastsWithin r n → LastsWithin r (suc n)
more_lasts (Ok ts) n d = record { ended = d.ended; few = let f = d.few in omega arith }
more_lasts (Err e) n d = tt

by_lasts : (at : ℕ) (f : Prefix) (next : ℕ → Lexed) (n : ℕ) → Fine f → ((c : ℕ) → LastsWithin (next c) n) → LastsWithin (by_prefix at f next) (suc n)
by_lasts at (gap size) next n f h = more_lasts (next (size - 1)) n (h (size - 1))
by_lasts at (piece k size) next n f h = with_lasts (record { kind = k; start = at; stop = at + size }) (next (size - 1)) n f (h (size - 1))
by_lasts at (faulty e) next n f h = tt

lex_lasts : (lexicon : Lexicon) (at covered : ℕ) (text : List ℕ) → LastsWithin (lex_from lexicon at covered text) (length text)
lex_lasts lexicon at covered [] = record { ended = the_end; few = omega arith }
lex_lasts lexicon at (suc covered) (b ∷ rest) = more_lasts (lex_from lexicon (suc at) covered rest) (length rest) (lex_lasts lexicon (suc at) covered rest)
lex_lasts lexicon at zero (b ∷ rest) = by_lasts at (prefix lexicon b (b ∷ rest)) _ (length rest) (prefix_fine lexicon b (b ∷ rest)) (λ covered. lex_lasts lexicon (suc at) covered rest)

pub lexed_lasts : (text : List ℕ) (ts : List Token) → lex language text ≡ Ok ts → TokensOf (length text) ts
lexed_lasts text ts e = subst (λ r. LastsWithin r (length text)) e (lex_lasts language 0 0 text)

-- ---- depth

-- the end is not deep
end_shallow : (ks : List Kind) (b o : ℕ) → none_deep language_bounds b o ks ≡ true → b ≤ 64 → o ≤ 128 → none_deep language_bounds b o (ks ++ finish ∷ []) ≡ true
end_shallow [] b o h f g = rw (le-leb b 64 f, le-leb o 128 g) refl
end_shallow (k ∷ ks) b o h f g =
    let b' = brackets_after b k in
    let o' = operators_after language_bounds.operators o k in
    let p = and_parts (nat_le b' 64 && nat_le o' 128) (none_deep language_bounds b' o' ks) h in
    let q = and_parts (nat_le b' 64) (nat_le o' 128) p.0 in
    rw (q.0, q.1) (end_shallow ks b' o' p.1 (leb-true b' 64 q.0) (leb-true o' 128 q.1))

pub end_is_shallow : (ks : List Kind) → is_shallow language_bounds ks ≡ true → is_shallow language_bounds (ks ++ finish ∷ []) ≡ true
end_is_shallow ks h = end_shallow ks 0 0 h (omega arith) (omega arith)
