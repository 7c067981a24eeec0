-- The tokens of a text without comments, apart from their offsets, under any lexicon. Texts that may stand side by side
-- have the tokens of both.
use Rattle.std.proofs.Common.{◌≡◌, ℕ, zero, suc, ◌+◌, ◌-◌, ◌≤◌, List, [], ◌∷◌, ◌++◌, Bool, true, false, cond, not, ◌&&◌, ◌||◌, Option, Some, None, Ok, refl, ap, ap₂, sym, subst, ◌∙◌, arith, length, inl, inr}
use Rattle.std.specs.Prelude.{◌==◌, codes, if◌then◌else◌}
use Rattle.std.proofs.lemmas.Bool.{cases_Bool, cond-true, cond-false, cond_both, eqb-true, and_parts, or_cases, not-true, false≢true, not_from_true}
use Rattle.std.proofs.lemmas.Bool.Decides.{nat_tests}
use Rattle.cocoon_num.specs.Lists.{each}
use Rattle.cocoon_num.specs.Tokens.{Kind, Lexicon, run_kind, leading, lex, finish, Token, Prefix, gap, piece, faulty, is_blank, is_digit, is_letter, is_run_byte, begins, beginning, number_kind, number_prefix, run_prefix, line_prefix, block_prefix, digit_prefix, letter_prefix, mark_prefix, prefix, by_prefix, with_token, lex_from, kinds, Lexed}

pub leading_cons : (p : ℕ → Bool) (b : ℕ) (bs : List ℕ) → leading p (b ∷ bs) ≡ cond (p b) (b ∷ leading p bs) []
leading_cons p b bs = refl

run_short : (p : ℕ → Bool) (s : List ℕ) → length (leading p s) ≤ length s
run_short p [] = omega arith
run_short p (b ∷ s) = let ih = run_short p s in cond_both (p b) (b ∷ leading p s) [] (λ xs. length xs ≤ length (b ∷ s)) (λ h. omega arith) (λ h. omega arith)

abbrev pub bare_start : Lexicon → ℕ → List ℕ → Prefix
bare_start x b text =
    if is_blank b then gap 1
    else if is_digit b then digit_prefix x text
    else if is_letter b then letter_prefix x text
    else mark_prefix (beginning x.marks text)

abbrev pub onto : Kind → Option (List Kind) → Option (List Kind)
onto k None = None
onto k (Some ks) = Some (k ∷ ks)

abbrev pub by_bare : Prefix → (ℕ → Option (List Kind)) → Option (List Kind)
by_bare (gap size) next = next (size - 1)
by_bare (piece kind size) next = onto kind (next (size - 1))
by_bare (faulty f) next = None

-- the tokens of a text, of which so many bytes belong to what came before
abbrev pub bare_from : Lexicon → ℕ → List ℕ → Option (List Kind)
bare_from x covered [] = Some []
bare_from x (suc covered) (b ∷ rest) = bare_from x covered rest
bare_from x zero (b ∷ rest) = by_bare (bare_start x b (b ∷ rest)) (λ covered. bare_from x covered rest)

abbrev pub bare : Lexicon → List ℕ → Option (List Kind)
bare x text = bare_from x 0 text

-- ---- which texts may stand side by side

abbrev pub starts_open : List ℕ → Bool
starts_open [] = true
starts_open (b ∷ rest) = not (is_run_byte b)

-- the last byte is of no word, or there is none and the one before was such
abbrev pub open_after : Bool → List ℕ → Bool
open_after o [] = o
open_after o (b ∷ rest) = open_after (not (is_run_byte b)) rest

-- ---- what a text begins with stays what it is

run_stable : (s t : List ℕ) → (open_after false s || starts_open t) ≡ true → leading is_run_byte (s ++ t) ≡ leading is_run_byte s
run_stable [] [] h = refl
run_stable [] (b ∷ t) h = leading_cons is_run_byte b t ∙ cond-false (is_run_byte b) _ _ (not-true (is_run_byte b) h)
run_stable (b ∷ s) t h =
    elim (cases_Bool (is_run_byte b)) as (λ _. leading is_run_byte (b ∷ (s ++ t)) ≡ leading is_run_byte (b ∷ s)) [
      | inl e ↦
          let h' : (open_after false s || starts_open t) ≡ true = subst (λ o. (open_after o s || starts_open t) ≡ true) (not_from_true (is_run_byte b) e) h in
          leading_cons is_run_byte b (s ++ t) ∙ cond-true (is_run_byte b) _ _ e ∙ ap (λ xs. b ∷ xs) (run_stable s t h') ∙ sym (leading_cons is_run_byte b s ∙ cond-true (is_run_byte b) _ _ e)
      | inr e ↦ leading_cons is_run_byte b (s ++ t) ∙ cond-false (is_run_byte b) _ _ e ∙ sym (leading_cons is_run_byte b s ∙ cond-false (is_run_byte b) _ _ e)
    ]

-- a mark whose bytes after the first extend a mark
abbrev pub all_extend : (ℕ → Bool) → List ℕ → Bool
all_extend more [] = true
all_extend more (b ∷ m) = more b && all_extend more m

abbrev pub short : (ℕ → Bool) → List ℕ → Bool
short more [] = false
short more (c ∷ m) = all_extend more m

-- no mark begins with this byte
abbrev pub none_begin : ℕ → List (List ℕ) → Bool
none_begin b [] = true
none_begin b ([] ∷ ms) = false
none_begin b ((c ∷ m) ∷ ms) = not (c == b) && none_begin b ms

-- no later mark begins as this one
abbrev pub lone : List ℕ → List (List ℕ) → Bool
lone [] ms = false
lone (c ∷ m) ms = none_begin c ms

abbrev pub steady : (ℕ → Bool) → List (List ℕ) → Bool
steady more [] = true
steady more (m ∷ ms) = (short more m || lone m ms) && steady more ms

-- a lexicon, and the bytes that extend a mark
pub record Seams : Type 0 where
  pub lexicon : Lexicon
  pub extends : ℕ → Bool
  pub marks_steady : steady extends lexicon.marks ≡ true
  pub no_slash : none_begin 47 lexicon.marks ≡ true
  pub line_parts : extends 10 ≡ false
  pub word_parts : (b : ℕ) → is_run_byte b ≡ true → not (extends b) ≡ true

abbrev pub is_clear : Seams → List ℕ → Bool
is_clear x [] = true
is_clear x (b ∷ rest) = not (x.extends b)

abbrev NotFaulty : Prefix → Type 0
NotFaulty (gap n) = Unit {0}
NotFaulty (piece k n) = Unit {0}
NotFaulty (faulty f) = ⊥

differs : (x : Seams) (d e : ℕ) (v : Bool) → x.extends d ≡ true → not (x.extends e) ≡ true → ((d == e) && v) ≡ false
differs x d e v h g = elim (cases_Bool (d == e)) as (λ _. ((d == e) && v) ≡ false) [
  | inl s ↦ let h' : x.extends e ≡ true = subst (λ n. x.extends n ≡ true) (eqb-true d e s) h in let y : false ≡ true = ap not (sym h') ∙ g in absurd (false≢true y)
  | inr s ↦ ap (λ u. u && v) s
]

rest_stable : (x : Seams) (m rest t : List ℕ) → all_extend x.extends m ≡ true → is_clear x t ≡ true → begins m (rest ++ t) ≡ begins m rest
rest_stable x [] rest t h g = refl
rest_stable x (d ∷ m) [] [] h g = refl
rest_stable x (d ∷ m) [] (e ∷ t) h g = differs x d e (begins m t) (and_parts (x.extends d) (all_extend x.extends m) h).0 g
rest_stable x (d ∷ m) (r ∷ rest) t h g = ap (λ v. (d == r) && v) (rest_stable x m rest t (and_parts (x.extends d) (all_extend x.extends m) h).1 g)

begins_stable : (x : Seams) (m : List ℕ) (b : ℕ) (rest t : List ℕ) → short x.extends m ≡ true → is_clear x t ≡ true → begins m (b ∷ (rest ++ t)) ≡ begins m (b ∷ rest)
begins_stable x [] b rest t h g = cc
begins_stable x (c ∷ m) b rest t h g = ap (λ v. (c == b) && v) (rest_stable x m rest t h g)

begins_more : (m s t : List ℕ) → begins m s ≡ true → begins m (s ++ t) ≡ true
begins_more [] s t h = refl
begins_more (c ∷ m) [] t h = cc
begins_more (c ∷ m) (b ∷ s) t h =
    let hs = and_parts (c == b) (begins m s) h in
    ap₂ (λ v o. v && o) hs.0 (begins_more m s t hs.1)

none_there : (ms : List (List ℕ)) (b : ℕ) (rest : List ℕ) → none_begin b ms ≡ true → beginning ms (b ∷ rest) ≡ None
none_there [] b rest h = refl
none_there ([] ∷ ms) b rest h = cc
none_there ((c ∷ m) ∷ ms) b rest h =
    let hs = and_parts (not (c == b)) (none_begin b ms) h in
    ap₂ (λ v o. cond (v && begins m rest) (Some (c ∷ m)) o) (not-true (c == b) hs.0) (none_there ms b rest hs.1)

-- where a lone mark is not there, and another is, it is not there in the longer text
lone_stable : (m : List ℕ) (ms : List (List ℕ)) (b : ℕ) (rest t : List ℕ) → lone m ms ≡ true → begins m (b ∷ rest) ≡ false → NotFaulty (mark_prefix (beginning ms (b ∷ rest))) → begins m (b ∷ (rest ++ t)) ≡ false
lone_stable [] ms b rest t l f h = cc
lone_stable (c ∷ m) ms b rest t l f h = elim (cases_Bool (c == b)) as (λ _. ((c == b) && begins m (rest ++ t)) ≡ false) [
  | inl e ↦
      let none : beginning ms (b ∷ rest) ≡ None = none_there ms b rest (subst (λ n. none_begin n ms ≡ true) (eqb-true c b e) l) in
      absurd (subst (λ o. NotFaulty (mark_prefix o)) none h)
  | inr e ↦ ap (λ v. v && begins m (rest ++ t)) e
]

beginning_stable : (x : Seams) (ms : List (List ℕ)) (b : ℕ) (rest t : List ℕ) → steady x.extends ms ≡ true → is_clear x t ≡ true → NotFaulty (mark_prefix (beginning ms (b ∷ rest))) → beginning ms (b ∷ (rest ++ t)) ≡ beginning ms (b ∷ rest)
beginning_stable x [] b rest t s g h = refl
beginning_stable x (m ∷ ms) b rest t s g h =
    let hs = and_parts (short x.extends m || lone m ms) (steady x.extends ms) s in
    elim (cases_Bool (begins m (b ∷ rest))) as (λ _. beginning (m ∷ ms) (b ∷ (rest ++ t)) ≡ beginning (m ∷ ms) (b ∷ rest)) [
      | inl f ↦ cond-true (begins m (b ∷ (rest ++ t))) _ _ (begins_more m (b ∷ rest) t f) ∙ sym (cond-true (begins m (b ∷ rest)) _ _ f)
      | inr f ↦
          let h' : NotFaulty (mark_prefix (beginning ms (b ∷ rest))) = subst (λ v. NotFaulty (mark_prefix (cond v (Some m) (beginning ms (b ∷ rest))))) f h in
          let f' : begins m (b ∷ (rest ++ t)) ≡ false = elim (or_cases (short x.extends m) (lone m ms) hs.0) as (λ _. begins m (b ∷ (rest ++ t)) ≡ false) [
            | inl e ↦ begins_stable x m b rest t e g ∙ f
            | inr e ↦ lone_stable m ms b rest t e f h'
          ] in
          cond-false (begins m (b ∷ (rest ++ t))) _ _ f' ∙ beginning_stable x ms b rest t hs.1 g h' ∙ sym (cond-false (begins m (b ∷ rest)) _ _ f)
    ]

-- four choices by what the first byte is, of which two runs and a mark change with the text
by_class : (c1 c2 c3 : Bool) (g x x' y y' z z' : Prefix) → x' ≡ x → y' ≡ y → (NotFaulty z → z' ≡ z) → NotFaulty (cond c1 g (cond c2 x (cond c3 y z))) → cond c1 g (cond c2 x' (cond c3 y' z')) ≡ cond c1 g (cond c2 x (cond c3 y z))
by_class true c2 c3 g x x' y y' z z' ex ey ez h = refl
by_class false true c3 g x x' y y' z z' ex ey ez h = ex
by_class false false true g x x' y y' z z' ex ey ez h = ey
by_class false false false g x x' y y' z z' ex ey ez h = ez h

start_stable : (x : Seams) → (b : ℕ) (rest t : List ℕ) → (open_after false (b ∷ rest) || starts_open t) ≡ true → is_clear x t ≡ true → NotFaulty (bare_start x.lexicon b (b ∷ rest)) → bare_start x.lexicon b (b ∷ (rest ++ t)) ≡ bare_start x.lexicon b (b ∷ rest)
start_stable x b rest t o g h =
    let run : leading is_run_byte (b ∷ (rest ++ t)) ≡ leading is_run_byte (b ∷ rest) = run_stable (b ∷ rest) t o in
    by_class (is_blank b) (is_digit b) (is_letter b) (gap 1) _ _ _ _ _ _
    (ap (λ run. number_prefix (number_kind x.lexicon.widest run) (length run)) run) (ap (λ run. run_prefix x.lexicon run) run)
    (λ nf. ap mark_prefix (beginning_stable x x.lexicon.marks b rest t x.marks_steady g nf)) h

-- ---- what a text begins with is within it

abbrev EndsWithin : ℕ → Prefix → Type 0
EndsWithin n (gap size) = size ≤ n
EndsWithin n (piece k size) = size ≤ n
EndsWithin n (faulty f) = Unit {0}

run_within : (s : List ℕ) → length (leading is_run_byte s) ≤ length s
run_within s = run_short is_run_byte s

number_within : (k : Option Kind) (size n : ℕ) → size ≤ n → EndsWithin n (number_prefix k size)
number_within None size n h = tt
number_within (Some k) size n h = h

begins_within : (m s : List ℕ) → begins m s ≡ true → length m ≤ length s
begins_within [] s h = omega arith
begins_within (c ∷ m) [] h = cc
begins_within (c ∷ m) (b ∷ s) h = let ih = begins_within m s (and_parts (c == b) (begins m s) h).1 in omega arith

mark_within : (ms : List (List ℕ)) (s : List ℕ) → EndsWithin (length s) (mark_prefix (beginning ms s))
mark_within [] s = tt
mark_within (m ∷ ms) s = cond_both (begins m s) (Some m) (beginning ms s) (λ o. EndsWithin (length s) (mark_prefix o)) (λ h. begins_within m s h) (λ h. mark_within ms s)

start_within : (x : Seams) → (b : ℕ) (rest : List ℕ) → EndsWithin (length rest + 1) (bare_start x.lexicon b (b ∷ rest))
start_within x b rest =
    let n = length rest + 1 in
    let long : length (b ∷ rest) ≡ length rest + 1 = omega arith in
    let fits : length (leading is_run_byte (b ∷ rest)) ≤ length rest + 1 = omega (arith, run_within (b ∷ rest)) in
    cond_both (is_blank b) (gap 1) _ (EndsWithin n) (λ h. omega arith)
    (λ h. cond_both (is_digit b) _ _ (EndsWithin n) (λ h. number_within (number_kind x.lexicon.widest (leading is_run_byte (b ∷ rest))) _ n fits)
    (λ h. cond_both (is_letter b) _ _ (EndsWithin n) (λ h. fits) (λ h. subst (λ k. EndsWithin k (mark_prefix (beginning x.lexicon.marks (b ∷ rest)))) long (mark_within x.lexicon.marks (b ∷ rest)))))

-- ---- two texts side by side

not_faulty : (f : Prefix) (next : ℕ → Option (List Kind)) (ks : List Kind) → by_bare f next ≡ Some ks → NotFaulty f
not_faulty (gap n) next ks h = tt
not_faulty (piece k n) next ks h = tt
not_faulty (faulty f) next ks h = cc

onto_join : (k : Kind) (o o' : Option (List Kind)) (ks ls : List Kind) → onto k o ≡ Some ks → ((ms : List Kind) → o ≡ Some ms → o' ≡ Some (ms ++ ls)) → onto k o' ≡ Some (ks ++ ls)
onto_join k None o' ks ls h ih = cc
onto_join k (Some ms) o' ks ls h ih =
    let same : k ∷ ms ≡ ks = cc in
    ap (onto k) (ih ms refl) ∙ ap (λ xs. Some (xs ++ ls)) same

start_join : (f : Prefix) (n : ℕ) (next next' : ℕ → Option (List Kind)) (ks ls : List Kind) → EndsWithin (n + 1) f → ((m : ℕ) (ms : List Kind) → m ≤ n → next m ≡ Some ms → next' m ≡ Some (ms ++ ls)) → by_bare f next ≡ Some ks → by_bare f next' ≡ Some (ks ++ ls)
start_join (gap size) n next next' ks ls w ih h = ih (size - 1) ks (omega arith) h
start_join (piece k size) n next next' ks ls w ih h = onto_join k (next (size - 1)) (next' (size - 1)) ks ls h (λ ms e. ih (size - 1) ms (omega arith) e)
start_join (faulty f) n next next' ks ls w ih h = cc

join_from : (x : Seams) → (n : ℕ) (o : Bool) (s t : List ℕ) (ks ls : List Kind) → (open_after o s || starts_open t) ≡ true → is_clear x t ≡ true → n ≤ length s → bare_from x.lexicon n s ≡ Some ks → bare_from x.lexicon 0 t ≡ Some ls → bare_from x.lexicon n (s ++ t) ≡ Some (ks ++ ls)
join_from x n o [] t ks ls so g w h k =
    let none : n ≡ 0 = omega arith in
    let empty : [] ≡ ks = cc in
    ap (λ m. bare_from x.lexicon m t) none ∙ k ∙ ap (λ xs. Some (xs ++ ls)) empty
join_from x (suc n) o (b ∷ s) t ks ls so g w h k = join_from x n (not (is_run_byte b)) s t ks ls so g (omega arith) h k
join_from x zero o (b ∷ s) t ks ls so g w h k =
    let stable : bare_start x.lexicon b (b ∷ (s ++ t)) ≡ bare_start x.lexicon b (b ∷ s) = start_stable x b s t so g (not_faulty (bare_start x.lexicon b (b ∷ s)) _ ks h) in
    ap (λ f. by_bare f (λ covered. bare_from x.lexicon covered (s ++ t))) stable
    ∙ start_join (bare_start x.lexicon b (b ∷ s)) (length s) (λ covered. bare_from x.lexicon covered s) (λ covered. bare_from x.lexicon covered (s ++ t)) ks ls (start_within x b s)
    (λ m ms le e. join_from x m (not (is_run_byte b)) s t ms ls so g le e k) h

-- ---- the tokens with their offsets

not_slash : (x : Seams) → (b : ℕ) (rest : List ℕ) → NotFaulty (bare_start x.lexicon b (b ∷ rest)) → (47 == b) ≡ false
not_slash x b rest h = elim (cases_Bool (47 == b)) as (λ _. (47 == b) ≡ false) [
  | inl e ↦
      let at_slash : NotFaulty (bare_start x.lexicon 47 (47 ∷ rest)) = subst (λ n. NotFaulty (bare_start x.lexicon n (n ∷ rest))) (sym (eqb-true 47 b e)) h in
      absurd (subst (λ o. NotFaulty (mark_prefix o)) (none_there x.lexicon.marks 47 rest x.no_slash) at_slash)
  | inr e ↦ e
]

start_is_bare : (x : Seams) → (b : ℕ) (rest : List ℕ) → NotFaulty (bare_start x.lexicon b (b ∷ rest)) → prefix x.lexicon b (b ∷ rest) ≡ bare_start x.lexicon b (b ∷ rest)
start_is_bare x b rest h =
    ap (λ c. cond (is_blank b) (gap 1) (cond (c && begins (codes "/") rest) (line_prefix (b ∷ rest)) (cond (c && begins (codes "*") rest) (block_prefix (b ∷ rest)) (cond (is_digit b) (digit_prefix x.lexicon (b ∷ rest)) (cond (is_letter b) (letter_prefix x.lexicon (b ∷ rest)) (mark_prefix (beginning x.lexicon.marks (b ∷ rest)))))))) (not_slash x b rest h)

-- some tokens at their offsets, of these kinds, and the end
pub record Lexes (ks : List Kind) (r : Lexed) : Type 0 where
  pub tokens : List Token
  pub are : r ≡ Ok tokens
  pub of_kinds : kinds tokens ≡ ks ++ finish ∷ []

onto_lexes : (k : Kind) (at stop : ℕ) (o : Option (List Kind)) (r : Lexed) (ks : List Kind) → onto k o ≡ Some ks → ((ms : List Kind) → o ≡ Some ms → Lexes ms r) → Lexes ks (with_token (record { kind = k; start = at; stop = stop }) r)
onto_lexes k at stop None r ks h ih = cc
onto_lexes k at stop (Some ms) r ks h ih =
    let t : Token = record { kind = k; start = at; stop = stop } in
    let same : k ∷ ms ≡ ks = cc in
    let l = ih ms refl in
    record { tokens = t ∷ l.tokens; are = ap (with_token t) l.are; of_kinds = ap (λ xs. k ∷ xs) l.of_kinds ∙ ap (λ xs. xs ++ finish ∷ []) same }

start_lexes : (f : Prefix) (at : ℕ) (next : ℕ → Option (List Kind)) (next' : ℕ → Lexed) (ks : List Kind) → by_bare f next ≡ Some ks → ((m : ℕ) (ms : List Kind) → next m ≡ Some ms → Lexes ms (next' m)) → Lexes ks (by_prefix at f next')
start_lexes (gap size) at next next' ks h ih = ih (size - 1) ks h
start_lexes (piece k size) at next next' ks h ih = onto_lexes k at (at + size) (next (size - 1)) (next' (size - 1)) ks h (λ ms e. ih (size - 1) ms e)
start_lexes (faulty f) at next next' ks h ih = cc

lexes_from : (x : Seams) → (n at : ℕ) (s : List ℕ) (ks : List Kind) → bare_from x.lexicon n s ≡ Some ks → Lexes ks (lex_from x.lexicon at n s)
lexes_from x n at [] ks h = let same : [] ≡ ks = cc in record { tokens = record { kind = finish; start = at; stop = at } ∷ []; are = refl; of_kinds = ap (λ xs. xs ++ finish ∷ []) same }
lexes_from x (suc n) at (b ∷ s) ks h = lexes_from x n (suc at) s ks h
lexes_from x zero at (b ∷ s) ks h =
    let e : prefix x.lexicon b (b ∷ s) ≡ bare_start x.lexicon b (b ∷ s) = start_is_bare x b s (not_faulty (bare_start x.lexicon b (b ∷ s)) _ ks h) in
    let l : Lexes ks (by_prefix at (bare_start x.lexicon b (b ∷ s)) (λ covered. lex_from x.lexicon (suc at) covered s)) =
    start_lexes (bare_start x.lexicon b (b ∷ s)) at (λ covered. bare_from x.lexicon covered s) (λ covered. lex_from x.lexicon (suc at) covered s) ks h (λ m ms e. lexes_from x m (suc at) s ms e) in
    subst (λ f. Lexes ks (by_prefix at f (λ covered. lex_from x.lexicon (suc at) covered s))) (sym e) l

-- ---- how texts are put together

-- a text that may stand after any other, and one that may stand before any clear one
abbrev pub is_apart : Seams → List ℕ → Bool
is_apart x t = is_clear x t && starts_open t

abbrev pub ends_open : List ℕ → Bool
ends_open s = open_after true s

-- a text has these tokens
pub record Spells (x : Seams) (text : List ℕ) (ks : List Kind) : Type 0 where
  pub are : bare x.lexicon text ≡ Some ks

or_true : (a b : Bool) → b ≡ true → (a || b) ≡ true
or_true true b h = refl
or_true false b h = h

pub then_apart : {x : Seams} {s t : List ℕ} {ks ls : List Kind} → Spells x s ks → is_apart x t ≡ true → Spells x t ls → Spells x (s ++ t) (ks ++ ls)
then_apart {x} {s} {t} {ks} {ls} a h b =
    let hs = and_parts (is_clear x t) (starts_open t) h in
    record { are = join_from x 0 true s t ks ls (or_true (open_after true s) (starts_open t) hs.1) hs.0 (omega arith) a.are b.are }

pub then_clear : {x : Seams} {s t : List ℕ} {ks ls : List Kind} → Spells x s ks → ends_open s ≡ true → is_clear x t ≡ true → Spells x t ls → Spells x (s ++ t) (ks ++ ls)
then_clear {x} {s} {t} {ks} {ls} a e h b = record { are = join_from x 0 true s t ks ls (ap (λ v. v || starts_open t) e) h (omega arith) a.are b.are }

pub spells_lexes : {x : Seams} {s : List ℕ} {ks : List Kind} → Spells x s ks → Lexes ks (lex x.lexicon s)
spells_lexes {x} {s} {ks} h = lexes_from x 0 0 s ks h.are

-- ---- words and numbers

abbrev pub all_word_bytes : List ℕ → Bool
all_word_bytes bs = each is_run_byte bs

whole_run : (s : List ℕ) → all_word_bytes s ≡ true → leading is_run_byte s ≡ s
whole_run [] h = refl
whole_run (b ∷ s) h =
    let hs = and_parts (is_run_byte b) (all_word_bytes s) h in
    leading_cons is_run_byte b s ∙ cond-true (is_run_byte b) _ _ hs.0 ∙ ap (λ xs. b ∷ xs) (whole_run s hs.1)

all_covered : (x : Seams) → (s : List ℕ) → bare_from x.lexicon (length s) s ≡ Some []
all_covered x [] = refl
all_covered x (b ∷ s) = all_covered x s

one_piece : (x : Seams) → (k : Kind) (b : ℕ) (rest : List ℕ) → bare_start x.lexicon b (b ∷ rest) ≡ piece k (length (b ∷ rest)) → bare x.lexicon (b ∷ rest) ≡ Some (k ∷ [])
one_piece x k b rest e =
    let less : length (b ∷ rest) - 1 ≡ length rest = omega arith in
    ap (λ f. by_bare f (λ covered. bare_from x.lexicon covered rest)) e ∙ ap (onto k) (ap (λ n. bare_from x.lexicon n rest) less ∙ all_covered x rest)

digit_no_blank : (b : ℕ) → is_digit b ≡ true → is_blank b ≡ false
digit_no_blank b h = grind (arith, nat_tests)

letter_no_blank : (b : ℕ) → is_letter b ≡ true → is_blank b ≡ false
letter_no_blank b h = grind (arith, nat_tests)

letter_no_digit : (b : ℕ) → is_letter b ≡ true → is_digit b ≡ false
letter_no_digit b h = grind (arith, nat_tests)

pub number_spells : (x : Seams) → (b : ℕ) (rest : List ℕ) (k : Kind) → is_digit b ≡ true → all_word_bytes (b ∷ rest) ≡ true → number_kind x.lexicon.widest (b ∷ rest) ≡ Some k → Spells x (b ∷ rest) (k ∷ [])
number_spells x b rest k d h e =
    record {
      are = one_piece x k b rest
          (cond-false (is_blank b) (gap 1) _ (digit_no_blank b d) ∙ cond-true (is_digit b) _ _ d
          ∙ ap (λ run. number_prefix (number_kind x.lexicon.widest run) (length run)) (whole_run (b ∷ rest) h) ∙ ap (λ o. number_prefix o (length (b ∷ rest))) e);
    }

abbrev pub is_name : List ℕ → Bool
is_name [] = false
is_name (b ∷ bs) = is_letter b && all_word_bytes bs

pub word_spells : (x : Seams) → (w : List ℕ) → is_name w ≡ true → Spells x w (run_kind x.lexicon w ∷ [])
word_spells x [] h = cc
word_spells x (b ∷ rest) h =
    let hs = and_parts (is_letter b) (all_word_bytes rest) h in
    let all : all_word_bytes (b ∷ rest) ≡ true = ap₂ (λ u v. (u || is_digit b) && v) hs.0 hs.1 in
    record {
      are = one_piece x (run_kind x.lexicon (b ∷ rest)) b rest
          (cond-false (is_blank b) (gap 1) _ (letter_no_blank b hs.0) ∙ cond-false (is_digit b) _ _ (letter_no_digit b hs.0) ∙ cond-true (is_letter b) _ _ hs.0
          ∙ ap (λ run. run_prefix x.lexicon run) (whole_run (b ∷ rest) all));
    }

letter_in_word : (b : ℕ) → is_letter b ≡ true → is_run_byte b ≡ true
letter_in_word b h = ap (λ v. v || is_digit b) h

pub word_clear : (x : Seams) (w : List ℕ) → is_name w ≡ true → is_clear x w ≡ true
word_clear x [] h = refl
word_clear x (b ∷ w) h = x.word_parts b (letter_in_word b (and_parts (is_letter b) (all_word_bytes w) h).0)
