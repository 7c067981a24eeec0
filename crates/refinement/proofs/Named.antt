-- In a design that was read no parameter of a role has an empty name.
use Rattle.std.proofs.Common.{◌≡◌, ◌⊎◌, inl, inr, ℕ, zero, suc, ◌+◌, ◌-◌, ◌^◌, List, [], ◌∷◌, ◌++◌, map, length, Bool, true, false, ◌&&◌, ◌||◌, Option, Some, None, Ok, Err, if◌then◌else◌, option_map, refl, sym, ap, subst, ◌∙◌, arith}
use Rattle.std.specs.Prelude.{codes, nat_le, nat_lt, slice_get, take}
use Rattle.std.proofs.lemmas.Bool.{cond_both}
use Rattle.cocoon_num.specs.Lists.{is_one_of}
use Rattle.cocoon_num.specs.Names.{same_name}
use Rattle.cocoon_num.specs.Reads.{Commas, DeclAt, last, Many, Named, one_more, ParamAt, Reads, RefineAt, the_block, the_role, then_comma}
use Rattle.cocoon_num.specs.Tokens.{Kind, a_name, keyword, plain, literal, mark, Token, Prefix, gap, piece, faulty, Lexed, begins, beginning, is_blank, is_digit, is_letter, is_run_byte, leading, kinds, kept_if, language, lex, lex_from, literal_of, number_kind, number_prefix, comment_prefix, run_kind, line_prefix, block_prefix, digit_prefix, letter_prefix, mark_prefix, prefix, with_token, by_prefix, decimal_value, before_w, after_w, literal_value}
use Rattle.cocoon_num.specs.Tree.{a_function, a_host, a_role, a_switch, an_assumption, Decl, Design, Param, Refine, Role}
use Rattle.cocoon_num.specs.Values.{number, Value}
use Rattle.cocoon_types.specs.Design.{as_role, decls_to, role_at}
use Rattle.cocoon_types.specs.Val.{bind, bound, Env, variable}
use Rattle.sound_types.proofs.Levels.{block_decls, role_in}
use Rattle.sound_types.proofs.Members.{In, in_either, in_filter}

-- it is no name without a letter
abbrev KindNamed : Kind → Type 0
KindNamed (a_name []) = ⊥
KindNamed _ = Unit {0}

abbrev AllNamed : List Kind → Type 0
AllNamed [] = Unit {0}
AllNamed (k ∷ ks) = KindNamed k × AllNamed ks

abbrev PieceNamed : Prefix → Type 0
PieceNamed (gap n) = Unit {0}
PieceNamed (piece k n) = KindNamed k
PieceNamed (faulty f) = Unit {0}

comment_named : (o : Option ℕ) → PieceNamed (comment_prefix o)
comment_named None = tt
comment_named (Some n) = tt

mark_named : (o : Option (List ℕ)) → PieceNamed (mark_prefix o)
mark_named None = tt
mark_named (Some m) = tt

abbrev MaybeNamed : Option Kind → Type 0
MaybeNamed None = Unit {0}
MaybeNamed (Some k) = KindNamed k

number_piece : (o : Option Kind) (size : ℕ) → MaybeNamed o → PieceNamed (number_prefix o size)
number_piece None size h = tt
number_piece (Some k) size h = h

kept_literal : (w n : ℕ) (b : Bool) → MaybeNamed (kept_if b (literal w n))
kept_literal w n false = tt
kept_literal w n true = tt

literal_named : (w n : Option ℕ) → MaybeNamed (literal_of 64 w n)
literal_named None n = tt
literal_named (Some w) None = tt
literal_named (Some w) (Some n) = kept_literal w n (nat_le 1 w && nat_le w 64 && nat_lt n (2 ^ w))

kept_plain : (b : Bool) (n : ℕ) → MaybeNamed (kept_if b (plain n))
kept_plain true n = tt
kept_plain false n = tt

by_value : (run : List ℕ) (o : Option ℕ)
    → MaybeNamed (elim o as (λ _. Option Kind) [ Some n ↦ kept_if (nat_lt n (2 ^ 32)) (plain n) | None ↦ literal_of 64 (decimal_value (before_w run)) (literal_value (after_w run)) ])
by_value run None = literal_named (decimal_value (before_w run)) (literal_value (after_w run))
by_value run (Some n) = kept_plain (nat_lt n (2 ^ 32)) n

number_named : (run : List ℕ) → MaybeNamed (number_kind 64 run)
number_named run = by_value run (decimal_value run)

word_named : (x : ℕ) (w : List ℕ) → KindNamed (run_kind language (x ∷ w))
word_named x w = cond_both (is_one_of language.marks (x ∷ w)) (mark (x ∷ w)) _ KindNamed (λ m. tt) (λ m. cond_both (is_one_of language.reserved (x ∷ w)) (keyword (x ∷ w)) (a_name (x ∷ w)) KindNamed (λ r. tt) (λ r. tt))

letter_run : (a d : Bool) → a ≡ true → (a || d) ≡ true
letter_run true d h = refl
letter_run false d h = absurd (cc)

run_by : (b : ℕ) (rest : List ℕ) (t : Bool) → t ≡ true → KindNamed (run_kind language (if t then b ∷ leading is_run_byte rest else []))
run_by b rest true h = word_named b (leading is_run_byte rest)
run_by b rest false h = absurd (cc)

letter_named : (b : ℕ) (rest : List ℕ) → is_letter b ≡ true → PieceNamed (letter_prefix language (b ∷ rest))
letter_named b rest h = run_by b rest (is_run_byte b) (letter_run (is_letter b) (is_digit b) h)

prefix_named : (b : ℕ) (rest : List ℕ) → PieceNamed (prefix language b (b ∷ rest))
prefix_named b rest =
    let s = b ∷ rest in
    cond_both (is_blank b) (gap 1) _ PieceNamed (λ h. tt)
    (λ h. cond_both (begins (codes "//") s) (line_prefix s) _ PieceNamed (λ h. tt)
    (λ h. cond_both (begins (codes "/*") s) (block_prefix s) _ PieceNamed (λ h. comment_named _)
    (λ h. cond_both (is_digit b) (digit_prefix language s) _ PieceNamed (λ h. number_piece _ _ (number_named (leading is_run_byte s)))
    (λ h. cond_both (is_letter b) (letter_prefix language s) (mark_prefix (beginning language.marks s)) PieceNamed (λ k. letter_named b rest k) (λ k. mark_named _)))))

abbrev LexedNamed : Lexed → Type 0
LexedNamed (Ok ts) = AllNamed (kinds ts)
LexedNamed (Err e) = Unit {0}

with_named : (t : Token) (r : Lexed) → KindNamed t.kind → LexedNamed r → LexedNamed (with_token t r)
with_named t (Ok ts) k h = (k, h)
with_named t (Err e) k h = tt

by_named : (at : ℕ) (p : Prefix) (next : ℕ → Lexed) → PieceNamed p → ((n : ℕ) → LexedNamed (next n)) → LexedNamed (by_prefix at p next)
by_named at (gap size) next k h = h (size - 1)
by_named at (piece kind size) next k h = with_named (record { kind = kind; start = at; stop = at + size }) (next (size - 1)) k (h (size - 1))
by_named at (faulty f) next k h = tt

lexed_named : (at covered : ℕ) (s : List ℕ) → LexedNamed (lex_from language at covered s)
lexed_named at covered [] = (tt, tt)
lexed_named at (suc covered) (b ∷ rest) = lexed_named (suc at) covered rest
lexed_named at zero (b ∷ rest) =
    by_named at (prefix language b (b ∷ rest)) (λ covered. lex_from language (suc at) covered rest) (prefix_named b rest) (λ covered. lexed_named (suc at) covered rest)

named_there : (ks : List Kind) → AllNamed ks → (i : ℕ) (x : List ℕ) → slice_get ks i ≡ Some (a_name x) → same_name [] x ≡ false
named_there [] h i x e = absurd (cc)
named_there (k ∷ ks) h zero x e = let same : k ≡ a_name x = cc in of_name x (subst KindNamed same h.0)
  where
    of_name : (x : List ℕ) → KindNamed (a_name x) → same_name [] x ≡ false
    of_name [] h = absurd h
    of_name (b ∷ x) h = refl
named_there (k ∷ ks) h (suc i) x e = named_there ks h.1 i x e

-- ---- parameters

-- none of these has an empty name
abbrev pub AreNamed : List Param → Type 0
AreNamed [] = Unit {0}
AreNamed (p ∷ ps) = (same_name [] p.name.text ≡ false) × AreNamed ps

params_named : (ts : List Kind) → AllNamed ts → {i j : ℕ} (ps : List Param) → Commas ts (ParamAt ts) i ps j → AreNamed ps
params_named ts h ps (last {i} {x = p} a) = (named_there ts h i p.name.text a.0.0, tt)
params_named ts h ps (then_comma {i} {x = p} {xs} a m more) = (named_there ts h i p.name.text a.0.0, params_named ts h xs more)

abbrev RoleNamed : Decl → Type 0
RoleNamed x = (r : Role) → as_role x ≡ Some r → AreNamed r.params

role_named : (ts : List Kind) → AllNamed ts → {i j : ℕ} (x : Decl) → DeclAt ts i x j → RoleNamed x
role_named ts h (a_function f) d r e = absurd (cc)
role_named ts h (an_assumption a) d r e = absurd (cc)
role_named ts h (a_role q) (the_role s n m p c v g body) r e =
    let same : q ≡ r = cc in
    subst (λ (y : Role). AreNamed y.params) same (params_named ts h q.params p)
role_named ts h (a_host y) d r e = absurd (cc)
role_named ts h (a_switch y) d r e = absurd (cc)

decls_named : (ts : List Kind) → AllNamed ts → {i j : ℕ} (xs : List Decl) → Many (DeclAt ts) i xs j → (x : Decl) → In x xs → RoleNamed x
decls_named ts h [] m x k = absurd k
decls_named ts h (y ∷ xs) (one_more d more) x k = elim k [
  | inl e ↦ subst RoleNamed (sym e) (role_named ts h y d)
  | inr l ↦ decls_named ts h xs more x l
]

block_named : (ts : List Kind) → AllNamed ts → {i j : ℕ} {b : Refine} → RefineAt ts i b j → (x : Decl) → In x b.decls → RoleNamed x
block_named ts h (the_block {d = c} r e names w n m decls close) x k = decls_named ts h c.decls decls x k

blocks_named : (ts : List Kind) → AllNamed ts → {i j : ℕ} (bs : List Refine) → Many (RefineAt ts) i bs j → (n : ℕ) (x : Decl) → In x (block_decls (take n bs)) → RoleNamed x
blocks_named ts h bs m zero x k = absurd k
blocks_named ts h [] m (suc n) x k = absurd k
blocks_named ts h (b ∷ bs) (one_more d more) (suc n) x k = elim (in_either x b.decls (block_decls (take n bs)) k) [
  | inl l ↦ block_named ts h d x l
  | inr l ↦ blocks_named ts h bs more n x l
]

pub roles_named : (text : List ℕ) (d : Design) → Reads text d → (level : ℕ) (name : List ℕ) (r : Role) → role_at level d name ≡ Some r → AreNamed r.params
roles_named text d reads level name r at =
    let named : AllNamed (kinds reads.tokens) = subst LexedNamed reads.tokens_are (lexed_named 0 0 text) in
    let x = in_filter as_role (decls_to level d) r (role_in level d name r at).0 in
    elim (in_either x.0 d.decls (block_decls (take level d.refines)) x.1) [
      | inl k ↦ decls_named (kinds reads.tokens) named d.decls reads.reads.decls x.0 k r x.2
      | inr k ↦ blocks_named (kinds reads.tokens) named d.refines reads.reads.refines level x.0 k r x.2
    ]

-- no variable with an empty name is bound
pub none_bound : (ps : List Param) (ns : List ℕ) (env : Env) → AreNamed ps → bind ps ns ≡ Some env → variable env [] ≡ None
none_bound [] [] env h e = ap (λ (o : Option Env). elim o as (λ _. Option Value) [ Some x ↦ variable x [] | None ↦ None ]) (sym e)
none_bound [] (n ∷ ns) env h e = absurd (cc)
none_bound (p ∷ ps) [] env h e = absurd (cc)
none_bound (p ∷ ps) (n ∷ ns) env h e = by (nat_lt n (2 ^ p.width)) (bind ps ns) p n env h.0 (λ x q. none_bound ps ns x h.1 q) e
  where
    skip : (b : Bool) (v : Value) (o : Option Value) → b ≡ false → o ≡ None → (if b then Some v else o) ≡ None
    skip true v o h k = absurd (cc)
    skip false v o h k = k

    by : (b : Bool) (o : Option Env) (p : Param) (n : ℕ) (env : Env) → same_name [] p.name.text ≡ false → ((x : Env) → o ≡ Some x → variable x [] ≡ None)
        → (if b then option_map (bound p.name.text (number p.width n)) o else None) ≡ Some env → variable env [] ≡ None
    by false o p n env h k e = absurd (cc)
    by true None p n env h k e = absurd (cc)
    by true (Some x) p n env h k e =
        let same : bound p.name.text (number p.width n) x ≡ env = cc in
        subst (λ z. variable z [] ≡ None) same (skip (same_name [] p.name.text) (number p.width n) (variable x []) h (k x refl))
