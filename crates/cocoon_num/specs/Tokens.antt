-- The tokens of a text, with the offsets of their bytes, or the first fault. At each offset the longest token is
-- taken. Two texts have such tokens, by a lexicon of their own each: designs with definitions, and P4 programs.
-- It follows the section "Texts" of docs/LANGUAGE.md, and for P4 programs "The text" in docs/FORMATS.md.
use Rattle.std.specs.Prelude.{ℕ, zero, suc, ◌+◌, ◌-◌, ◌*◌, ◌^◌, ◌==◌, ◌&&◌, ◌||◌, Bool, true, false, not, nat_le, nat_lt, List, [], ◌∷◌, length, map, drop, if◌then◌else◌, Option, Some, None, option_map, option_and_then, Result, Ok, Err, codes}
use Rattle.std.specs.List.{find, list_any}
use Rattle.cocoon_num.specs.Values.{with_both}
use Rattle.cocoon_num.specs.Names.{same_name}
use Rattle.cocoon_num.specs.Lists.{each, is_one_of}

pub data Kind : Type 0 where
  a_name : (text : List ℕ) → Kind
  keyword : (text : List ℕ) → Kind
  plain : (n : ℕ) → Kind
  literal : (width n : ℕ) → Kind
  mark : (text : List ℕ) → Kind
  finish : Kind

-- a token, from the offset of its first byte up to the one after its last
pub record Token : Type 0 where
  pub kind : Kind
  pub start : ℕ
  pub stop : ℕ

pub data LexFault : Type 0 where
  bad_byte bad_number open_comment : (at : ℕ) → LexFault

-- the reserved words, the marks (a longer one before its beginnings), and how wide literals may be
pub record Lexicon : Type 0 where
  pub reserved : List (List ℕ)
  pub marks : List (List ℕ)
  pub widest : ℕ

-- ---- bytes

abbrev pub is_between : ℕ → ℕ → ℕ → Bool
is_between low high b = nat_le low b && nat_le b high

abbrev pub is_blank : ℕ → Bool
is_blank b = (b == 32) || (b == 9) || (b == 10) || (b == 13)

abbrev pub is_digit : ℕ → Bool
is_digit b = is_between 48 57 b

-- a letter or `_`
abbrev pub is_letter : ℕ → Bool
is_letter b = is_between 65 90 b || is_between 97 122 b || (b == 95)

abbrev pub is_run_byte : ℕ → Bool
is_run_byte b = is_letter b || is_digit b

-- one or more letters, digits and `_`
abbrev pub is_run : List ℕ → Bool
is_run [] = false
is_run (b ∷ bs) = each is_run_byte (b ∷ bs)

abbrev pub begins : List ℕ → List ℕ → Bool
begins [] text = true
begins (p ∷ ps) [] = false
begins (p ∷ ps) (b ∷ text) = (p == b) && begins ps text

-- the first of these with which the text begins
abbrev pub beginning : List (List ℕ) → List ℕ → Option (List ℕ)
beginning ms text = find (λ m. begins m text) ms

-- the first bytes, as long as they pass a test
abbrev pub leading : (ℕ → Bool) → List ℕ → List ℕ
leading test [] = []
leading test (b ∷ bs) = if test b then b ∷ leading test bs else []

-- ---- numbers

abbrev pub hex_digit : ℕ → Option ℕ
hex_digit b =
    if is_digit b then Some (b - 48)
    else if is_between 97 102 b then Some (b - 87)
    else if is_between 65 70 b then Some (b - 55)
    else None

abbrev pub dec_digit : ℕ → Option ℕ
dec_digit b = if is_digit b then Some (b - 48) else None

-- the value of the digits after those of the value so far
abbrev pub digits_after : ℕ → (ℕ → Option ℕ) → ℕ → List ℕ → Option ℕ
digits_after base digit so_far [] = Some so_far
digits_after base digit so_far (b ∷ bs) =
    option_and_then (λ d. digits_after base digit (so_far * base + d) bs) (digit b)

-- the value of one or more digits
abbrev pub digits : ℕ → (ℕ → Option ℕ) → List ℕ → Option ℕ
digits base digit [] = None
digits base digit (b ∷ bs) = digits_after base digit 0 (b ∷ bs)

abbrev pub decimal_value : List ℕ → Option ℕ
decimal_value = digits 10 dec_digit

-- decimal digits, or `0x` and hexadecimal digits
abbrev pub literal_value : List ℕ → Option ℕ
literal_value text = if begins (codes "0x") text then digits 16 hex_digit (drop 2 text) else decimal_value text

abbrev pub kept_if : {A : Type 0} → Bool → A → Option A
kept_if true x = Some x
kept_if false x = None

-- a width and a value with the letter `w` between
abbrev pub literal_of : ℕ → Option ℕ → Option ℕ → Option Kind
literal_of widest =
    with_both (λ width n. kept_if (nat_le 1 width && nat_le width widest && nat_lt n (2 ^ width)) (literal width n))

-- the bytes before the first `w`, and those after it
abbrev pub before_w : List ℕ → List ℕ
before_w = leading (λ b. not (b == 119))

abbrev pub after_w : List ℕ → List ℕ
after_w text = drop (suc (length (before_w text))) text

-- a run of digits is a plain number where it is below 2^32; else the run is a literal or no number
abbrev pub number_kind : ℕ → List ℕ → Option Kind
number_kind widest run =
    elim (decimal_value run) [
      | Some n ↦ kept_if (nat_lt n (2 ^ 32)) (plain n)
      | None ↦ literal_of widest (decimal_value (before_w run)) (literal_value (after_w run))
    ]

-- ---- what a text begins with

-- a prefix of a text and how many bytes it has: no token, or a token; or a fault
pub data Prefix : Type 0 where
  gap : (size : ℕ) → Prefix
  piece : (kind : Kind) (size : ℕ) → Prefix
  faulty : (ℕ → LexFault) → Prefix

-- how many bytes there are up to and with the next `*/`
abbrev pub comment_end : List ℕ → Option ℕ
comment_end [] = None
comment_end (b ∷ rest) = if begins (codes "*/") (b ∷ rest) then Some 2 else option_map suc (comment_end rest)

abbrev pub comment_prefix : Option ℕ → Prefix
comment_prefix None = faulty open_comment
comment_prefix (Some n) = gap (2 + n)

abbrev pub number_prefix : Option Kind → ℕ → Prefix
number_prefix None size = faulty bad_number
number_prefix (Some kind) size = piece kind size

abbrev pub mark_prefix : Option (List ℕ) → Prefix
mark_prefix None = faulty bad_byte
mark_prefix (Some m) = piece (mark m) (length m)

-- a run is a mark where it is one, as `_` is, and else a reserved word or a name
abbrev pub run_kind : Lexicon → List ℕ → Kind
run_kind lexicon run =
    if is_one_of lexicon.marks run then mark run
    else if is_one_of lexicon.reserved run then keyword run
    else a_name run

abbrev pub run_prefix : Lexicon → List ℕ → Prefix
run_prefix lexicon run = piece (run_kind lexicon run) (length run)

abbrev pub line_prefix : List ℕ → Prefix
line_prefix text = gap (length (leading (λ b. not (b == 10)) text))

abbrev pub block_prefix : List ℕ → Prefix
block_prefix text = comment_prefix (comment_end (drop 2 text))

abbrev pub digit_prefix : Lexicon → List ℕ → Prefix
digit_prefix lexicon text =
    number_prefix (number_kind lexicon.widest (leading is_run_byte text)) (length (leading is_run_byte text))

abbrev pub letter_prefix : Lexicon → List ℕ → Prefix
letter_prefix lexicon text = run_prefix lexicon (leading is_run_byte text)

abbrev pub prefix : Lexicon → ℕ → List ℕ → Prefix
prefix lexicon b text =
    if is_blank b then gap 1
    else if begins (codes "//") text then line_prefix text
    else if begins (codes "/*") text then block_prefix text
    else if is_digit b then digit_prefix lexicon text
    else if is_letter b then letter_prefix lexicon text
    else mark_prefix (beginning lexicon.marks text)

-- ---- all tokens

abbrev pub Lexed : Type 0
Lexed = Result (List Token) LexFault

abbrev pub with_token : Token → Lexed → Lexed
with_token t (Ok ts) = Ok (t ∷ ts)
with_token t (Err e) = Err e

-- from the prefix at an offset, and the tokens after so many further bytes
abbrev pub by_prefix : ℕ → Prefix → (ℕ → Lexed) → Lexed
by_prefix at (gap size) next = next (size - 1)
by_prefix at (piece kind size) next =
    with_token (record { kind = kind; start = at; stop = at + size }) (next (size - 1))
by_prefix at (faulty fault) next = Err (fault at)

-- the tokens of a text from an offset on, whose first bytes, so many, belong to what came before
abbrev pub lex_from : Lexicon → ℕ → ℕ → List ℕ → Lexed
lex_from lexicon at covered [] = Ok (record { kind = finish; start = at; stop = at } ∷ [])
lex_from lexicon at (suc covered) (b ∷ rest) = lex_from lexicon (suc at) covered rest
lex_from lexicon at zero (b ∷ rest) =
    by_prefix at (prefix lexicon b (b ∷ rest)) (λ covered. lex_from lexicon (suc at) covered rest)

abbrev pub lex : Lexicon → List ℕ → Lexed
lex lexicon text = lex_from lexicon 0 0 text

abbrev pub kinds : List Token → List Kind
kinds ts = map (λ (t : Token). t.kind) ts

-- ---- fixed pieces of text

-- the tokens before the end
abbrev pub without_finish : List Kind → List Kind
without_finish [] = []
without_finish (finish ∷ ks) = []
without_finish (k ∷ ks) = k ∷ without_finish ks

-- the tokens of a fixed piece of text, by a lexicon
abbrev pub kinds_in : Lexicon → List ℕ → List Kind
kinds_in lexicon text = elim (lex lexicon text) [ Ok ts ↦ without_finish (kinds ts) | Err e ↦ [] ]

-- ---- designs and definitions

abbrev pub language : Lexicon
language = record {
  reserved =
      codes "packet" ∷ codes "header" ∷ codes "function" ∷ codes "assume" ∷ codes "role" ∷ codes "host"
      ∷ codes "switch" ∷ codes "refine" ∷ codes "within" ∷ codes "ports" ∷ codes "let" ∷ codes "if" ∷ codes "else"
      ∷ codes "filter" ∷ codes "havoc" ∷ codes "fork" ∷ codes "send" ∷ codes "pkt" ∷ codes "bit" ∷ codes "bool"
      ∷ codes "true" ∷ codes "false" ∷ codes "and" ∷ codes "or" ∷ codes "not" ∷ codes "default" ∷ codes "define" ∷ [];
  marks =
      codes "&&&" ∷ codes "<=" ∷ codes ">=" ∷ codes "==" ∷ codes "!=" ∷ codes "=>" ∷ codes "++" ∷ codes "{" ∷ codes "}"
      ∷ codes "(" ∷ codes ")" ∷ codes "[" ∷ codes "]" ∷ codes "<" ∷ codes ">" ∷ codes "=" ∷ codes "+" ∷ codes "-"
      ∷ codes "&" ∷ codes "|" ∷ codes "^" ∷ codes "~" ∷ codes "," ∷ codes ";" ∷ codes ":" ∷ codes "." ∷ codes "?"
      ∷ codes "_" ∷ [];
  widest = 64;
}

-- ---- depth

-- which tokens count for the depth, and up to which numbers they may
pub record Bounds : Type 0 where
  pub operators : List Kind
  pub open_most : ℕ
  pub operators_most : ℕ

abbrev pub same_kind : Kind → Kind → Bool
same_kind (mark a) (mark b) = same_name a b
same_kind (keyword a) (keyword b) = same_name a b
same_kind (a_name a) (a_name b) = same_name a b
same_kind _ _ = false

abbrev pub is_kind_of : List Kind → Kind → Bool
is_kind_of xs k = list_any (λ x. same_kind x k) xs

abbrev pub brackets_after : ℕ → Kind → ℕ
brackets_after n k =
    if is_kind_of (mark (codes "(") ∷ mark (codes "[") ∷ mark (codes "{") ∷ []) k then suc n
    else if is_kind_of (mark (codes ")") ∷ mark (codes "]") ∷ mark (codes "}") ∷ []) k then n - 1
    else n

abbrev pub operators_after : List Kind → ℕ → Kind → ℕ
operators_after operators n k =
    if is_kind_of (mark (codes ";") ∷ mark (codes "{") ∷ mark (codes "}") ∷ []) k then 0
    else if is_kind_of operators k then suc n
    else n

-- no token is deep: at each, itself counted, at most so many brackets are open, and at most so many operators have
-- come since the last `;`, `{` or `}`
abbrev pub none_deep : Bounds → ℕ → ℕ → List Kind → Bool
none_deep bounds brackets operators [] = true
none_deep bounds brackets operators (k ∷ ks) =
    nat_le (brackets_after brackets k) bounds.open_most
    && nat_le (operators_after bounds.operators operators k) bounds.operators_most
    && none_deep bounds (brackets_after brackets k) (operators_after bounds.operators operators k) ks

abbrev pub is_shallow : Bounds → List Kind → Bool
is_shallow bounds ks = none_deep bounds 0 0 ks

abbrev pub language_bounds : Bounds
language_bounds = record {
  operators =
      mark (codes "+") ∷ mark (codes "-") ∷ mark (codes "&") ∷ mark (codes "|") ∷ mark (codes "^")
      ∷ mark (codes "++") ∷ mark (codes "~") ∷ mark (codes "==") ∷ mark (codes "!=") ∷ mark (codes "<")
      ∷ mark (codes "<=") ∷ mark (codes ">") ∷ mark (codes ">=") ∷ keyword (codes "and") ∷ keyword (codes "or")
      ∷ keyword (codes "not") ∷ mark (codes "=>") ∷ mark (codes "?") ∷ mark (codes ":") ∷ mark (codes "[") ∷ [];
  open_most = 64;
  operators_most = 128;
}
