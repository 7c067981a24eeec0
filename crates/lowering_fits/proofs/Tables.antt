-- The tables of a program keep the kind rules: they have keys, over meta fields that are there, and ascending numbers.
use Rattle.std.proofs.Common.{◌≡◌, inl, inr, ℕ, zero, suc, ◌+◌, ◌-◌, ◌<◌, ◌≤◌, ◌^◌, ◌==◌, ◌&&◌, ◌||◌, not, nat_lt, List, [], ◌∷◌, ◌++◌, length, reverse, Bool, true, false, Option, Some, None, option_and_then, refl, sym, ap, subst, ◌∙◌, arith}
use Rattle.std.specs.Prelude.{slice_get}
use Rattle.cocoon_num.specs.Lists.{ascend, each, is_one_of}
use Rattle.cocoon_num.specs.Names.{same_name, named}
use Rattle.cocoon_num.specs.Tree.{Param, Expr, Stmt, let_, set_field, if_, filter, havoc_var, havoc_field, assume, fork, send, Block, no_stmts, stmt, FunctionDecl, Design}
use Rattle.cocoon_types.specs.DefsRules.{fork_calls}
use Rattle.cocoon_types.specs.Design.{functions, last_level}
use Rattle.cocoon_types.specs.LastLevel.{called, into_stmts}
use Rattle.cocoon_types.specs.Sites.{StmtSite, after_stmt, stmt_ends, stmts_at, stmts_in}
use Rattle.cocoon_types.specs.Typing.{Scope, with_var}
use Rattle.p4_ir.specs.P4Kinds.{numbers_of, table_fits}
use Rattle.p4_ir.specs.P4Tree.{P4Table, Program}
use Rattle.lowering.specs.Log.{Placed, tables_in}
use Rattle.lowering.specs.Lower.{Made, a_field, a_table, a_group, params_before_last}
use Rattle.lowering_fits.specs.WideLiterals.{has_params}
use Rattle.lowering_correct.specs.Logs.{AllOf, KeysAre}
use Rattle.sound_types.specs.WellTyped.{scope_at}
use Rattle.sound_types.proofs.Bodies.{after_vars}
use Rattle.sound_types.proofs.Functions.{NamesDiffer}
use Rattle.sound_types.proofs.Members.{In, all_at, flat_in, in_either, in_reverse, named_there}
use Rattle.sound_types.proofs.Options.{true_both, same_text}
use Rattle.lowering_correct.proofs.ForkCalls.{IsForkCall}
use Rattle.lowering_correct.proofs.Formed.{Formed, FormedStmt, one_more}

-- ---- the functions of forks have parameters before the choice

abbrev pub HasBeforeLast : Design → List ℕ → Type 0
HasBeforeLast d f = (g : FunctionDecl) × (named (λ (x : FunctionDecl). x.name) f (reverse (functions d)) ≡ Some g) × (0 < length (params_before_last g.params))

abbrev fork_names : StmtSite → List (List ℕ)
fork_names site = elim site.s [ fork at x w e b ↦ called e ∷ [] | _ ↦ [] ]

fork_before_last : (d : Design) (x : List ℕ) (w : ℕ) (e : Expr) → IsForkCall (reverse (functions d)) x w e → HasBeforeLast d (called e)
fork_before_last d x w e h = (h.function, subst (λ c. named (λ (y : FunctionDecl). y.name) (called c) (reverse (functions d)) ≡ Some h.function) (sym h.call_is) h.function_is, h.has_before_last)

mutual
  stmt_before_last : (d : Design) (own exit : List ℕ) (inside : Bool) (s : Stmt) (ps : List Param) → FormedStmt (reverse (functions d)) own exit inside ps s → (a : Scope) (ended : Bool) (x : StmtSite) → In x (stmts_at a ended s)
      → (f : List ℕ) → In f (fork_names x) → HasBeforeLast d f
  stmt_before_last d own exit inside (let_ at y w e) ps h a ended x i f j = elim i [ inl k ↦ absurd (subst (λ z. In f (fork_names z)) k j) | inr k ↦ absurd k ]
  stmt_before_last d own exit inside (set_field at y g e) ps h a ended x i f j = elim i [ inl k ↦ absurd (subst (λ z. In f (fork_names z)) k j) | inr k ↦ absurd k ]
  stmt_before_last d own exit inside (if_ at e p q) ps h a ended x i f j = elim i [
    | inl k ↦ absurd (subst (λ z. In f (fork_names z)) k j)
    | inr k ↦ elim (in_either x (stmts_in a false p) (stmts_in a false q) k) [
      | inl l ↦ block_before_last d own exit inside p ps h.0 a false x l f j
      | inr l ↦ block_before_last d own exit inside q ps h.1 a false x l f j
    ]
  ]
  stmt_before_last d own exit inside (filter at e) ps h a ended x i f j = elim i [ inl k ↦ absurd (subst (λ z. In f (fork_names z)) k j) | inr k ↦ absurd k ]
  stmt_before_last d own exit inside (havoc_var at y w) ps h a ended x i f j = absurd h
  stmt_before_last d own exit inside (havoc_field at y g) ps h a ended x i f j = absurd h
  stmt_before_last d own exit inside (assume at e) ps h a ended x i f j = absurd h
  stmt_before_last d own exit inside (fork at y w e b) ps h a ended x i f j = elim i [
    | inl k ↦ elim (subst (λ z. In f (fork_names z)) k j) [ inl l ↦ subst (HasBeforeLast d) (sym l) (fork_before_last d y.text w e h.2) | inr l ↦ absurd l ]
    | inr k ↦ block_before_last d own exit true b (one_more y w ps) h.3 (with_var y w a) false x k f j
  ]
  stmt_before_last d own exit inside (send at r es) ps h a ended x i f j = elim i [ inl k ↦ absurd (subst (λ z. In f (fork_names z)) k j) | inr k ↦ absurd k ]

  block_before_last : (d : Design) (own exit : List ℕ) (inside : Bool) (b : Block) (ps : List Param) → Formed (reverse (functions d)) own exit inside ps b → (a : Scope) (ended : Bool) (x : StmtSite) → In x (stmts_in a ended b)
      → (f : List ℕ) → In f (fork_names x) → HasBeforeLast d f
  block_before_last d own exit inside no_stmts ps h a ended x i f j = absurd i
  block_before_last d own exit inside (stmt first rest) ps h a ended x i f j = elim (in_either x (stmts_at a ended first) (stmts_in (after_stmt first a) (ended || stmt_ends first) rest) i) [
    | inl k ↦ stmt_before_last d own exit inside first ps h.0 a ended x k f j
    | inr k ↦ block_before_last d own exit inside rest (after_vars first ps) h.1 (after_stmt first a) (ended || stmt_ends first) x k f j
  ]

one_in : (f : List ℕ) (ys : List (List ℕ)) → is_one_of ys f ≡ true → In f ys
one_in f [] h = absurd (cc)
one_in f (y ∷ ys) h = by_test (one_in f ys) (same_name y f) refl
  where
    by_test : (is_one_of ys f ≡ true → In f ys) → (b : Bool) → same_name y f ≡ b → In f (y ∷ ys)
    by_test rest true is = inl (sym (same_text y f is))
    by_test rest false is = inr (rest (ap (λ b. b || is_one_of ys f) (sym is) ∙ h))

pub forked_before_last : (d : Design) (own exit : List ℕ) (b : Block) (ps : List Param) → Formed (reverse (functions d)) own exit false ps b → into_stmts d ≡ stmts_in (scope_at d (last_level d) ps true) false b
    → (f : List ℕ) → is_one_of (fork_calls d) f ≡ true → HasBeforeLast d f
forked_before_last d own exit b ps h are f is =
    let t = flat_in fork_names f (into_stmts d) (one_in f (fork_calls d) is) in
    block_before_last d own exit false b ps h (scope_at d (last_level d) ps true) false t.0 (subst (In t.0) are t.1) f t.2

-- ---- numbers

abbrev upto : ℕ → ℕ → List ℕ
upto a zero = []
upto a (suc n) = a ∷ upto (suc a) n

counted : (i a j b : ℕ) (ms : List Made) → Placed i a ms j b → numbers_of (tables_in ms) ≡ upto a (length (tables_in ms))
counted i a j b [] h = refl
counted i a j b (a_field x k w ∷ ms) h = counted (suc i) a j b ms h.1
counted i a j b (a_table t f ps ∷ ms) h = (λ k. h.0 k ∷ counted i (suc a) j b ms h.1 k)
counted i a j b (a_group t f ps ∷ ms) h = (λ k. h.0 k ∷ counted i (suc a) j b ms h.1 k)

rising : (a n : ℕ) → ascend (upto a n) ≡ true
rising a zero = refl
rising a (suc zero) = refl
rising a (suc (suc n)) = let l : nat_lt a (suc a) ≡ true = grind arith in true_both (nat_lt a (suc a)) (ascend (upto (suc a) (suc n))) l (rising (suc a) (suc n))

pub numbers_ascend : (i j b : ℕ) (ms : List Made) → Placed i 0 ms j b → ascend (numbers_of (tables_in ms)) ≡ true
numbers_ascend i j b ms h = ap ascend (counted i 0 j b ms h) ∙ rising 0 (length (tables_in ms))

pub tables_both : (xs ys : List Made) → tables_in (xs ++ ys) ≡ tables_in xs ++ tables_in ys
tables_both [] ys = refl
tables_both (a_field x k w ∷ xs) ys = tables_both xs ys
tables_both (a_table t f ps ∷ xs) ys = ap (λ ts. t ∷ ts) (tables_both xs ys)
tables_both (a_group t f ps ∷ xs) ys = ap (λ ts. t ∷ ts) (tables_both xs ys)

-- ---- keys

within : (ws : List ℕ) (i w : ℕ) → slice_get ws i ≡ Some w → nat_lt i (length ws) ≡ true
within [] i w h = absurd (cc)
within (x ∷ ws) zero w h = grind arith
within (x ∷ ws) (suc i) w h = let k : nat_lt i (length ws) ≡ true = within ws i w h in grind (arith, k)

keys_within : (ws keys : List ℕ) (ps : List Param) → KeysAre ws keys ps → each (λ i. nat_lt i (length ws)) keys ≡ true
keys_within ws [] [] h = refl
keys_within ws [] (p ∷ ps) h = absurd h
keys_within ws (i ∷ keys) [] h = absurd h
keys_within ws (i ∷ keys) (p ∷ ps) h = true_both (nat_lt i (length ws)) (each (λ j. nat_lt j (length ws)) keys) (within ws i p.width h.0) (keys_within ws keys ps h.1)

keys_some : (ws keys : List ℕ) (ps : List Param) → KeysAre ws keys ps → 0 < length ps → not (length keys == 0) ≡ true
keys_some ws [] [] h l = absurd (omega (arith, l))
keys_some ws [] (p ∷ ps) h l = absurd h
keys_some ws (i ∷ keys) ps h l = grind arith

table_ok : (p : Program) (ws : List ℕ) → length p.meta ≡ length ws → (t : P4Table) (ps : List Param) (w : ℕ) → KeysAre ws t.keys ps → 0 < length ps → slice_get ws t.result ≡ Some w → t.number < 256 → table_fits p t ≡ true
table_ok p ws size t ps w keys some result small =
    let number : nat_lt t.number (2 ^ 32 - 1) ≡ true = grind (arith, small) in
    true_both (not (length t.keys == 0) && each (λ i. nat_lt i (length p.meta)) t.keys && nat_lt t.result (length p.meta)) (nat_lt t.number (2 ^ 32 - 1))
    (true_both (not (length t.keys == 0) && each (λ i. nat_lt i (length p.meta)) t.keys) (nat_lt t.result (length p.meta))
    (true_both (not (length t.keys == 0)) (each (λ i. nat_lt i (length p.meta)) t.keys) (keys_some ws t.keys ps keys some) (ap (λ n. each (λ i. nat_lt i n) t.keys) size ∙ keys_within ws t.keys ps keys))
    (ap (nat_lt t.result) size ∙ within ws t.result w result)) number

runtime_is : (o : Option FunctionDecl) (h : FunctionDecl) → option_and_then (λ (x : FunctionDecl). elim x.body as (λ b. Option FunctionDecl) [ None ↦ Some x | Some e ↦ None ]) o ≡ Some h → o ≡ Some h
runtime_is None h e = absurd (cc)
runtime_is (Some x) h e = by_body x.body e
  where
    by_body : (b : Option Expr) → (elim b as (λ c. Option FunctionDecl) [ None ↦ Some x | Some y ↦ None ]) ≡ Some h → Some x ≡ Some h
    by_body None k = k
    by_body (Some y) k = absurd (cc)

some_params : (g : FunctionDecl) → not (length g.params == 0) ≡ true → 0 < length g.params
some_params g h = by_list g.params h
  where
    by_list : (ps : List Param) → not (length ps == 0) ≡ true → 0 < length ps
    by_list [] k = absurd (cc)
    by_list (p ∷ ps) k = omega arith

-- all tables of a log
pub tables_ok : (d : Design) → NamesDiffer d → has_params d ≡ true → ((f : List ℕ) → is_one_of (fork_calls d) f ≡ true → HasBeforeLast d f) → (p : Program) (ws : List ℕ) → length p.meta ≡ length ws
    → (i a j b : ℕ) (ms : List Made) → Placed i a ms j b → AllOf d ws ms → a + length (tables_in ms) ≤ 256 → each (table_fits p) (tables_in ms) ≡ true
tables_ok d differ params all_before_last p ws size i a j b [] h of few = refl
tables_ok d differ params all_before_last p ws size i a j b (a_field x k w ∷ ms) h of few = tables_ok d differ params all_before_last p ws size (suc i) a j b ms h.1 of.1 few
tables_ok d differ params all_before_last p ws size i a j b (a_table t f ps ∷ ms) h of few =
    let g = of.0.function in
    let at = named_there (λ (x : FunctionDecl). x.name) f (functions d) g (runtime_is (named (λ (x : FunctionDecl). x.name) f (functions d)) g of.0.named) in
    let some : 0 < length ps = subst (λ qs. 0 < length qs) (sym of.0.params) (some_params g (all_at (λ (x : FunctionDecl). not (length x.params == 0)) (functions d) params g at.0)) in
    true_both (table_fits p t) (each (table_fits p) (tables_in ms)) (table_ok p ws size t ps _ of.0.keys some of.0.result (omega (arith, h.0, few)))
    (tables_ok d differ params all_before_last p ws size i (suc a) j b ms h.1 of.1 (omega (arith, few)))
tables_ok d differ params all_before_last p ws size i a j b (a_group t f ps ∷ ms) h of few =
    let g = of.0.function in
    let at = named_there (λ (x : FunctionDecl). x.name) f (functions d) g (runtime_is (named (λ (x : FunctionDecl). x.name) f (functions d)) g of.0.named) in
    let before_last = all_before_last f of.0.forked in
    let there = named_there (λ (x : FunctionDecl). x.name) f (reverse (functions d)) before_last.0 before_last.1 in
    let same : before_last.0 ≡ g = differ before_last.0 g (in_reverse before_last.0 (functions d) there.0) at.0 (sym there.1 ∙ at.1) in
    let some : 0 < length ps = subst (λ qs. 0 < length qs) (sym of.0.params) (subst (λ (x : FunctionDecl). 0 < length (params_before_last x.params)) same before_last.2) in
    true_both (table_fits p t) (each (table_fits p) (tables_in ms)) (table_ok p ws size t ps 16 of.0.keys some of.0.result (omega (arith, h.0, few)))
    (tables_ok d differ params all_before_last p ws size i (suc a) j b ms h.1 of.1 (omega (arith, few)))
