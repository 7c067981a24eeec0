-- The prefixes of a text: which ones begin with a run, and that each stands in the text.
use Rattle.std.specs.Prelude.{◌≡◌, ℕ, suc, ◌^◌, ◌≤◌, ◌==◌, ◌&&◌, ◌||◌, nat_lt, Bool, true, false, not, List, [], ◌∷◌, length, take, drop, Option, Some, None, codes, option_map, if◌then◌else◌, refl}
use Rattle.std.proofs.Common.{ap, sym, ◌∙◌, arith, length-drop}
use Rattle.std.proofs.lemmas.Bool.Decides.{nat_tests}
use Rattle.cocoon_num.specs.Lists.{each, is_one_of}
use Rattle.cocoon_num.specs.Tokens as tokens
use Rattle.lexing.specs.Lexed.{IsSpelled}
use Rattle.lexing.specs.Prefixes.{Fits, first_prefix, has_bytes}
use Rattle.lexing.proofs.Runs.{take_run}

-- the letters, digits and `_` that a text begins with
abbrev run_of : List ℕ → List ℕ
run_of text = tokens.leading tokens.is_run_byte text

-- a run is what its length takes
run_is : (text : List ℕ) (n : ℕ) → n ≡ length (run_of text) → run_of text ≡ take n text
run_is text n e = sym (take_run tokens.is_run_byte text) ∙ ap (λ k. take k text) (sym e)

-- a number as the prefix, by what was read of it
pub digit_is : (x : tokens.Lexicon) (text run : List ℕ) (n widest : ℕ) (o : Option tokens.Kind) → run ≡ take n text → n ≡ length (run_of text) → widest ≡ x.widest → o ≡ tokens.number_kind widest run
    → tokens.digit_prefix x text ≡ tokens.number_prefix o n
digit_is x text run n widest o e size w k =
    ap (λ r. tokens.number_prefix (tokens.number_kind x.widest r) (length (run_of text))) (run_is text n size ∙ sym e)
    ∙ ap (λ m. tokens.number_prefix (tokens.number_kind x.widest run) m) (sym size)
    ∙ ap (λ w. tokens.number_prefix (tokens.number_kind w run) n) (sym w)
    ∙ ap (λ q. tokens.number_prefix q n) (sym k)

-- a name or a reserved word as the prefix, by what was read of it
pub letter_is : (x : tokens.Lexicon) (text : List ℕ) (n : ℕ) (kind : tokens.Kind) → n ≡ length (run_of text) → kind ≡ tokens.run_kind x (take n text)
    → tokens.letter_prefix x text ≡ tokens.piece kind n
letter_is x text n kind e k =
    ap (λ run. tokens.piece (tokens.run_kind x run) (length (run_of text))) (run_is text n e)
    ∙ ap (λ m. tokens.piece (tokens.run_kind x (take n text)) m) (sym e)
    ∙ ap (λ o. tokens.piece o n) (sym k)

-- ---- tests

-- both parts of a test hold
both : (p q : Bool) → (p && q) ≡ true → (p ≡ true) × (q ≡ true)
both true q e = (refl, e)
both false q e = absurd cc

-- one part of a test holds
or_true : (p : Bool) → (p || true) ≡ true
or_true true = refl
or_true false = refl

-- a text is no shorter than what it begins with
begins_within : (p s : List ℕ) → tokens.begins p s ≡ true → length p ≤ length s
begins_within [] s h = omega arith
begins_within (x ∷ p) [] h = absurd cc
begins_within (x ∷ p) (y ∷ s) h = let rest : length p ≤ length s = begins_within p s (both (x == y) (tokens.begins p s) h).1 in omega arith

-- ---- runs

-- one byte more of those that pass a test, or their end
one_within : (test : ℕ → Bool) (x : ℕ) (xs : List ℕ) (b : Bool) → test x ≡ b → length (tokens.leading test xs) ≤ length xs → length (tokens.leading test (x ∷ xs)) ≤ length (x ∷ xs)
one_within test x xs true e h = rw e (omega (arith, h))
one_within test x xs false e h = rw e (omega arith)

-- those that pass a test are not more than there are
leading_within : (test : ℕ → Bool) (xs : List ℕ) → length (tokens.leading test xs) ≤ length xs
leading_within test [] = omega arith
leading_within test (x ∷ xs) = one_within test x xs (test x) refl (leading_within test xs)

-- one byte more of a run passes the test of runs
all_pass_at : (b : ℕ) (bs : List ℕ) (p : Bool) → tokens.is_run_byte b ≡ p → each tokens.is_run_byte (run_of bs) ≡ true → each tokens.is_run_byte (run_of (b ∷ bs)) ≡ true
all_pass_at b bs true e h = rw (e, e) h
all_pass_at b bs false e h = rw e refl

-- all bytes of a run pass the test of runs
all_pass : (bs : List ℕ) → each tokens.is_run_byte (run_of bs) ≡ true
all_pass [] = refl
all_pass (b ∷ bs) = all_pass_at b bs (tokens.is_run_byte b) refl (all_pass bs)

-- one byte or more, all of a run
abbrev IsRun : List ℕ → Type 0
IsRun bytes = (1 ≤ length bytes) × (tokens.is_run bytes ≡ true)

-- a run from its first byte on
run_at : (b : ℕ) (bs : List ℕ) → tokens.is_run_byte b ≡ true → IsRun (run_of (b ∷ bs))
run_at b bs e = rw e (omega arith, rw e (all_pass bs))

-- ---- numbers and words

-- a number, or a fault
abbrev SomeSpelled : Option tokens.Kind → Type 0
SomeSpelled None = Unit {0}
SomeSpelled (Some kind) = IsSpelled kind

kept_spelled : (t : Bool) (kind : tokens.Kind) → IsSpelled kind → SomeSpelled (tokens.kept_if t kind)
kept_spelled true kind h = h
kept_spelled false kind h = tt

literal_spelled : (widest : ℕ) (width n : Option ℕ) → SomeSpelled (tokens.literal_of widest width n)
literal_spelled widest None n = tt
literal_spelled widest (Some w) None = tt
literal_spelled widest (Some w) (Some n) = kept_spelled _ (tokens.literal w n) tt

number_spelled : (widest : ℕ) (run : List ℕ) → SomeSpelled (tokens.number_kind widest run)
number_spelled widest run = elim (tokens.decimal_value run) as (λ o. SomeSpelled (elim o [
  | Some n ↦ tokens.kept_if (nat_lt n (2 ^ 32)) (tokens.plain n)
  | None ↦ tokens.literal_of widest (tokens.decimal_value (tokens.before_w run)) (tokens.literal_value (tokens.after_w run))
])) [
  | Some n ↦ kept_spelled (nat_lt n (2 ^ 32)) (tokens.plain n) tt
  | None ↦ literal_spelled widest (tokens.decimal_value (tokens.before_w run)) (tokens.literal_value (tokens.after_w run))
]

number_fits : (text : List ℕ) (o : Option tokens.Kind) (size : ℕ) → SomeSpelled o → 1 ≤ size → size ≤ length text → Fits text (tokens.number_prefix o size)
number_fits text None size h some within = tt
number_fits text (Some kind) size h some within = (some, within, h)

digit_fits : (x : tokens.Lexicon) (b : ℕ) (bs : List ℕ) → tokens.is_digit b ≡ true → Fits (b ∷ bs) (tokens.digit_prefix x (b ∷ bs))
digit_fits x b bs e =
    let text : List ℕ = b ∷ bs in
    let run : IsRun (run_of text) = run_at b bs (rw e (or_true (tokens.is_letter b))) in
    number_fits text (tokens.number_kind x.widest (run_of text)) (length (run_of text)) (number_spelled x.widest (run_of text)) run.0 (leading_within tokens.is_run_byte text)

-- by whether it is a mark, or reserved
run_spelled : (run : List ℕ) (m r : Bool) → tokens.is_run run ≡ true → IsSpelled (if m then tokens.mark run else if r then tokens.keyword run else tokens.a_name run)
run_spelled run true r h = tt
run_spelled run false true h = tt
run_spelled run false false h = h

letter_fits : (x : tokens.Lexicon) (b : ℕ) (bs : List ℕ) → tokens.is_letter b ≡ true → Fits (b ∷ bs) (tokens.letter_prefix x (b ∷ bs))
letter_fits x b bs e =
    let text : List ℕ = b ∷ bs in
    let run : IsRun (run_of text) = run_at b bs (rw e refl) in
    (run.0, leading_within tokens.is_run_byte text, run_spelled (run_of text) (is_one_of x.marks (run_of text)) (is_one_of x.reserved (run_of text)) run.1)

-- ---- comments

line_fits : (text : List ℕ) → tokens.begins (codes "//") text ≡ true → Fits text (tokens.line_prefix text)
line_fits [] h = absurd cc
line_fits (b ∷ bs) h =
    let slash : (47 == b) ≡ true = (both (47 == b) (tokens.begins (codes "/") bs) h).0 in
    let goes : not (b == 10) ≡ true = grind (arith, nat_tests) in
    let some : 1 ≤ length (tokens.leading (λ b. not (b == 10)) (b ∷ bs)) = rw goes (omega arith) in
    (some, leading_within (λ b. not (b == 10)) (b ∷ bs))

-- a comment ends within so many bytes, or not at all
abbrev EndsWithin : ℕ → Option ℕ → Type 0
EndsWithin size None = Unit {0}
EndsWithin size (Some n) = n ≤ size

one_later : (size : ℕ) (o : Option ℕ) → EndsWithin size o → EndsWithin (suc size) (option_map suc o)
one_later size None h = tt
one_later size (Some n) h = omega (arith, h)

end_at : (b : ℕ) (rest : List ℕ) (t : Bool) → tokens.begins (codes "*/") (b ∷ rest) ≡ t → EndsWithin (length rest) (tokens.comment_end rest) → EndsWithin (suc (length rest)) (tokens.comment_end (b ∷ rest))
end_at b rest true e h = let size : 2 ≤ length (b ∷ rest) = begins_within (codes "*/") (b ∷ rest) e in rw e size
end_at b rest false e h = rw e (one_later (length rest) (tokens.comment_end rest) h)

end_within : (text : List ℕ) → EndsWithin (length text) (tokens.comment_end text)
end_within [] = tt
end_within (b ∷ rest) = end_at b rest (tokens.begins (codes "*/") (b ∷ rest)) refl (end_within rest)

comment_fits : (text : List ℕ) (o : Option ℕ) → 2 ≤ length text → EndsWithin (length (drop 2 text)) o → Fits text (tokens.comment_prefix o)
comment_fits text None two h = tt
comment_fits text (Some n) two h = (omega arith, omega (arith, length-drop 2 text, h))

block_fits : (text : List ℕ) → tokens.begins (codes "/*") text ≡ true → Fits text (tokens.block_prefix text)
block_fits text h = comment_fits text (tokens.comment_end (drop 2 text)) (begins_within (codes "/*") text h) (end_within (drop 2 text))

-- ---- marks

-- a mark that stands in a text
abbrev Stands : List ℕ → List ℕ → Type 0
Stands text m = (1 ≤ length m) × (length m ≤ length text)

some_bytes : (m : List ℕ) → has_bytes m ≡ true → 1 ≤ length m
some_bytes [] h = absurd cc
some_bytes (b ∷ bs) h = omega arith

-- the first of some with which a text begins, or one of the others
first_stands : (m : List ℕ) (ms : List (List ℕ)) (text : List ℕ) (t : Bool) → tokens.begins m text ≡ t → has_bytes m ≡ true
    → Fits text (tokens.mark_prefix (tokens.beginning ms text)) → Fits text (tokens.mark_prefix (tokens.beginning (m ∷ ms) text))
first_stands m ms text true e some others = rw e (some_bytes m some, begins_within m text e, tt)
first_stands m ms text false e some others = rw e others

mark_fits : (ms : List (List ℕ)) (text : List ℕ) → each has_bytes ms ≡ true → Fits text (tokens.mark_prefix (tokens.beginning ms text))
mark_fits [] text some = tt
mark_fits (m ∷ ms) text some =
    let all = both (has_bytes m) (each has_bytes ms) some in
    first_stands m ms text (tokens.begins m text) refl all.0 (mark_fits ms text all.1)

-- ---- any prefix

-- one of two, by a test
either : (text : List ℕ) (t : Bool) (p q : tokens.Prefix) → (t ≡ true → Fits text p) → (t ≡ false → Fits text q) → Fits text (if t then p else q)
either text true p q f g = f refl
either text false p q f g = g refl

-- the prefix of a text that begins with no comment, and with no blank
abbrev of_word : tokens.Lexicon → ℕ → List ℕ → tokens.Prefix
of_word x b text = if tokens.is_letter b then tokens.letter_prefix x text else tokens.mark_prefix (tokens.beginning x.marks text)

abbrev of_number : tokens.Lexicon → ℕ → List ℕ → tokens.Prefix
of_number x b text = if tokens.is_digit b then tokens.digit_prefix x text else of_word x b text

abbrev of_block : tokens.Lexicon → ℕ → List ℕ → tokens.Prefix
of_block x b text = if tokens.begins (codes "/*") text then tokens.block_prefix text else of_number x b text

abbrev of_line : tokens.Lexicon → ℕ → List ℕ → tokens.Prefix
of_line x b text = if tokens.begins (codes "//") text then tokens.line_prefix text else of_block x b text

-- a prefix stands in its text
at_byte : (x : tokens.Lexicon) (b : ℕ) (bs : List ℕ) → each has_bytes x.marks ≡ true → Fits (b ∷ bs) (tokens.prefix x b (b ∷ bs))
at_byte x b bs some =
    let text : List ℕ = b ∷ bs in
    either text (tokens.is_blank b) (tokens.gap 1) (of_line x b text) (λ e. (omega arith, omega arith))
    (λ e. either text (tokens.begins (codes "//") text) (tokens.line_prefix text) (of_block x b text) (line_fits text)
    (λ e. either text (tokens.begins (codes "/*") text) (tokens.block_prefix text) (of_number x b text) (block_fits text)
    (λ e. either text (tokens.is_digit b) (tokens.digit_prefix x text) (of_word x b text) (digit_fits x b bs)
    (λ e. either text (tokens.is_letter b) (tokens.letter_prefix x text) (tokens.mark_prefix (tokens.beginning x.marks text)) (letter_fits x b bs) (λ e. mark_fits x.marks text some)))))

pub prefix_fits : (x : tokens.Lexicon) (text : List ℕ) → each has_bytes x.marks ≡ true → 1 ≤ length text → Fits text (first_prefix x text)
prefix_fits x [] some h = absurd (omega arith)
prefix_fits x (b ∷ bs) some h = at_byte x b bs some
