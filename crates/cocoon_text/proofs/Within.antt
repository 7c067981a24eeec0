-- A fault of the bytes of a text begins within the text.
use Rattle.std.specs.Prelude.{◌≡◌, ℕ, zero, suc, ◌+◌, ◌-◌, ◌≤◌, Bool, true, false, List, [], ◌∷◌, length, drop, Option, Some, None, Ok, Err, if◌then◌else◌, codes, refl}
use Rattle.std.proofs.Common.{subst, arith}
use Rattle.cocoon_num.specs.Tokens.{Kind, Token, LexFault, bad_byte, bad_number, open_comment, Lexicon, Lexed, Prefix, gap, piece, faulty, prefix, by_prefix, with_token, lex_from, lex, language, number_kind, number_prefix, comment_prefix, block_prefix, digit_prefix, letter_prefix, line_prefix, mark_prefix, leading, is_run_byte, beginning, comment_end, is_blank, is_digit, is_letter, begins}

-- where a fault begins
abbrev pub offset_of : LexFault → ℕ
offset_of (bad_byte at) = at
offset_of (bad_number at) = at
offset_of (open_comment at) = at

-- a fault at the start of a text begins there
abbrev Here : Prefix → Type 0
Here (faulty fault) = (at : ℕ) → offset_of (fault at) ≡ at
Here (gap n) = Unit {0}
Here (piece k n) = Unit {0}

if_here : (b : Bool) (x y : Prefix) → Here x → Here y → Here (if b then x else y)
if_here true x y f g = f
if_here false x y f g = g

number_here : (k : Option Kind) (n : ℕ) → Here (number_prefix k n)
number_here None n = λ at. refl
number_here (Some k) n = tt

comment_here : (o : Option ℕ) → Here (comment_prefix o)
comment_here None = λ at. refl
comment_here (Some n) = tt

mark_here : (o : Option (List ℕ)) → Here (mark_prefix o)
mark_here None = λ at. refl
mark_here (Some m) = tt

prefix_here : (lexicon : Lexicon) (b : ℕ) (text : List ℕ) → Here (prefix lexicon b text)
prefix_here lexicon b text =
    let run = leading is_run_byte text in
    let marks = mark_prefix (beginning lexicon.marks text) in
    let letters = if is_letter b then letter_prefix lexicon text else marks in
    let digits = if is_digit b then digit_prefix lexicon text else letters in
    let blocks = if begins (codes "/*") text then block_prefix text else digits in
    let lines = if begins (codes "//") text then line_prefix text else blocks in
    if_here (is_blank b) (gap 1) lines tt
    (if_here (begins (codes "//") text) (line_prefix text) blocks tt
    (if_here (begins (codes "/*") text) (block_prefix text) digits (comment_here (comment_end (drop 2 text)))
    (if_here (is_digit b) (digit_prefix lexicon text) letters (number_here (number_kind lexicon.widest run) (length run))
    (if_here (is_letter b) (letter_prefix lexicon text) marks tt (mark_here (beginning lexicon.marks text))))))

-- a fault begins at this offset at most
abbrev UpTo : ℕ → Lexed → Type 0
UpTo end (Ok ts) = Unit {0}
UpTo end (Err fault) = offset_of fault ≤ end

with_up_to : (t : Token) (end : ℕ) (r : Lexed) → UpTo end r → UpTo end (with_token t r)
with_up_to t end (Ok ts) h = tt
with_up_to t end (Err fault) h = h

further : (m n : ℕ) (r : Lexed) → m ≤ n → UpTo m r → UpTo n r
further m n (Ok ts) h u = tt
further m n (Err fault) h u = omega arith

by_up_to : (at end : ℕ) (f : Prefix) (next : ℕ → Lexed) → at ≤ end → Here f → ((c : ℕ) → UpTo end (next c)) → UpTo end (by_prefix at f next)
by_up_to at end (gap size) next l f h = h (size - 1)
by_up_to at end (piece k size) next l f h = with_up_to (record { kind = k; start = at; stop = at + size }) end (next (size - 1)) (h (size - 1))
by_up_to at end (faulty e) next l f h = let same = f at in omega arith

lex_up_to : (lexicon : Lexicon) (at covered : ℕ) (text : List ℕ) → UpTo (at + length text) (lex_from lexicon at covered text)
lex_up_to lexicon at covered [] = tt
lex_up_to lexicon at (suc covered) (b ∷ rest) = further (suc at + length rest) (at + length (b ∷ rest)) (lex_from lexicon (suc at) covered rest) (omega arith) (lex_up_to lexicon (suc at) covered rest)
lex_up_to lexicon at zero (b ∷ rest) =
    by_up_to at (at + length (b ∷ rest)) (prefix lexicon b (b ∷ rest)) (λ covered. lex_from lexicon (suc at) covered rest) (omega arith) (prefix_here lexicon b (b ∷ rest))
    (λ covered. further (suc at + length rest) (at + length (b ∷ rest)) (lex_from lexicon (suc at) covered rest) (omega arith) (lex_up_to lexicon (suc at) covered rest))

pub fault_within : (text : List ℕ) (fault : LexFault) → lex language text ≡ Err fault → offset_of fault ≤ length text
fault_within text fault e = let h : UpTo (length text) (lex language text) = further (0 + length text) (length text) (lex language text) (omega arith) (lex_up_to language 0 0 text) in subst (UpTo (length text)) e h
