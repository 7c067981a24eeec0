-- The tokens that the goals take are those of trees, and each list of goals can be met.
use Rattle.std.specs.Prelude.{◌≡◌, ℕ, ◌==◌, Bool, true, false, List, [], ◌∷◌, Some, None, codes, refl, if◌then◌else◌}
use Rattle.std.proofs.Common.{sym, ◌∙◌, ap, subst, rules}
use Rattle.std.proofs.lemmas.Slice.Eq.{compares_Decides}
use Rattle.std.proofs.lemmas.Bool.{eqb-true, and_parts}
use Rattle.cocoon_num.specs.Names.{same_name}
use Rattle.cocoon_num.specs.Values.{flip, not_}
use Rattle.cocoon_num.specs.Tokens.{Kind, a_name, keyword, plain, literal, mark, finish}
use Rattle.p4_ir.specs.declared.program.P4Binary.{P4Binary}
use Rattle.p4_ir.specs.declared.program.P4Binary.TheVariants.{Add, Sub, BitAnd, BitOr, BitXor, Concat, Equal, Unequal, Less, LessEqual, Greater, GreaterEqual, And, Or}
use Rattle.p4_texts.specs.Machine.{Follow, to_semicolon, to_close, to_operator, to_colon, Goal, exactly, any_name, any_plain, any_literal, an_expr, after_expr, opened, stmts, stmts_or_else, after_else, after_first, dotted, after_meta, after_header, Goals, Leaves, Way, by_text, same_token, the_mark, binary_ways, follow_ways, after_ways, primary_ways, open_ways, unary_ways, assigned_ways, tested_ways, returned_ways, applied, applied_ways, opened_ways, next_ways, dotted_name, takes}
use Rattle.p4_texts.specs.Written.{ExprText, w_lit, w_truth, w_meta, w_field, w_port, w_rid, w_unary, w_binary, w_pick, w_set_meta, w_set_field, w_apply, w_if, w_if_else, w_verdict, w_egress_port, w_group, w_return, BlockText, w_done, w_then, expr_then, block_then, condition_then}
use Rattle.p4_texts.proofs.Spells.{slices_then, with_slices, sliced, Operation, with_right, with_sides, operation_then, after_then, Otherwise, goes_on, has_else, otherwise_then, RestOfBlock, SlicesAndAfter, Tree, spell, Trees, spells}

-- ---- what a token and the trees of what it leaves make

pub record Makes (g : Goal) (k : Kind) (more : Goals) (ts : Trees more) : Type 0 where
  pub tree : Tree g
  pub is : (ks : List Kind) → spell g tree ks ≡ k ∷ spells more ts ks

abbrev pub Leads : Goal → Kind → Goals → Type 0
Leads g k more = (ts : Trees more) → Makes g k more ts

-- each way of a text leads there
abbrev pub Ways : Goal → (List ℕ → Kind) → List Way → Type 0
Ways g to [] = Unit {0}
Ways g to (w ∷ ws) = Leads g (to w.text) w.leaves × Ways g to ws

same_text : (x y : List ℕ) → same_name x y ≡ true → x ≡ y
same_text x y = (compares_Decides same_name (search rules) x y).0

one_way : (g : Goal) (to : List ℕ → Kind) (w : Way) (ws : List Way) (x : List ℕ) (more : Goals) (b : Bool) → same_name w.text x ≡ b
    → Leads g (to w.text) w.leaves → (by_text ws x ≡ Some more → Leads g (to x) more) → by_text (w ∷ ws) x ≡ Some more → Leads g (to x) more
one_way g to w ws x more true e here others h =
    let found : Some w.leaves ≡ Some more = rw e at h in
    let leaves : w.leaves ≡ more = cc in
    subst (λ y. Leads g (to y) more) (same_text w.text x e) (subst (λ m. Leads g (to w.text) m) leaves here)
one_way g to w ws x more false e here others h = others (rw e at h)

pub by_ways : (g : Goal) (to : List ℕ → Kind) (ws : List Way) (x : List ℕ) (more : Goals) → Ways g to ws → by_text ws x ≡ Some more → Leads g (to x) more
by_ways g to [] x more p h = absurd cc
by_ways g to (w ∷ ws) x more p h = one_way g to w ws x more (same_name w.text x) refl p.0 (by_ways g to ws x more p.1) h

-- what is left without a look at the token
pub only : (g : Goal) (k : Kind) (rest more : Goals) → Some rest ≡ Some more → Leads g k rest → Leads g k more
only g k rest more h l = let e : rest ≡ more = cc in subst (λ m. Leads g k m) e l

-- a test between two
either_way : (g : Goal) (to : List ℕ → Kind) (m x : List ℕ) (b : Bool) (p q : Leaves) (more : Goals) → same_name m x ≡ b
    → (p ≡ Some more → Leads g (to m) more) → (q ≡ Some more → Leads g (to x) more) → (if same_name m x then p else q) ≡ Some more → Leads g (to x) more
either_way g to m x true p q more e here others h = subst (λ y. Leads g (to y) more) (same_text m x e) (here (rw e at h))
either_way g to m x false p q more e here others h = others (rw e at h)

-- ---- fixed tokens

same_tokens : (j k : Kind) → same_token j k ≡ true → j ≡ k
same_tokens (a_name x) (a_name y) h = ap a_name (same_text x y h)
same_tokens (keyword x) (keyword y) h = ap keyword (same_text x y h)
same_tokens (plain n) (plain m) h = ap plain (eqb-true n m h)
same_tokens (literal w n) (literal v m) h =
    let p = and_parts (w == v) (n == m) h in
    ap (λ x. literal x n) (eqb-true w v p.0) ∙ ap (λ y. literal v y) (eqb-true n m p.1)
same_tokens (mark x) (mark y) h = ap mark (same_text x y h)
same_tokens finish finish h = refl
same_tokens j k h = absurd cc

pub exactly_leads : (j k : Kind) (more : Goals) (b : Bool) → same_token j k ≡ b → takes (exactly j) k ≡ Some more → Leads (exactly j) k more
exactly_leads j k more true e h =
    let found : Some [] ≡ Some more = rw e at h in
    only (exactly j) k [] more found (λ ts. record { tree = tt; is = λ ks. ap (λ z. z ∷ ks) (same_tokens j k e) })
exactly_leads j k more false e h = let none : None ≡ Some more = rw e at h in absurd cc

-- ---- expressions

-- an expression from its first tokens on, with slices
sliced_makes : (f : Follow) (k : Kind) (e : ExprText) (t : SlicesAndAfter f) (more : Goals) (ts : Trees more)
    → ((ks : List Kind) → expr_then e (slices_then t.slices (after_then f t.then ks)) ≡ k ∷ spells more ts ks) → Makes (an_expr f) k more ts
sliced_makes f k e t more ts h = record {
  tree = record { expr = with_slices e t.slices; then = t.then };
  is = λ ks. sliced e t.slices (after_then f t.then ks) ∙ h ks;
}

primary_words : (f : Follow) → Ways (an_expr f) a_name (primary_ways f)
primary_words f = (
  λ ts. sliced_makes f _ (w_truth true) ts.0 _ ts (λ ks. refl),
  (
    λ ts. sliced_makes f _ (w_truth false) ts.0 _ ts (λ ks. refl),
    (
      λ ts. sliced_makes f _ w_port ts.0 _ ts (λ ks. refl),
      (
        λ ts. sliced_makes f _ w_rid ts.0 _ ts (λ ks. refl),
        (
          λ ts. sliced_makes f _ (w_meta ts.1.0) ts.1.1.0 _ ts (λ ks. refl),
          (
            λ ts. sliced_makes f _ (w_field ts.1.0 ts.1.1.1.0) ts.1.1.1.1.0 _ ts (λ ks. refl),
            (tt),
          ),
        ),
      ),
    ),
  ),
)

open_marks : (f : Follow) → Ways (an_expr f) mark (open_ways f)
open_marks f = (
  λ ts. sliced_makes f _ ts.0.whole ts.1.0 _ ts (λ ks. sym (ts.0.is (slices_then ts.1.0.slices (after_then f ts.1.0.then ks)))),
  tt,
)

pub expr_leads : (f : Follow) (k : Kind) (more : Goals) → takes (an_expr f) k ≡ Some more → Leads (an_expr f) k more
expr_leads f (literal w n) more h = only (an_expr f) (literal w n) (after_expr f ∷ []) more h (λ ts. sliced_makes f (literal w n) (w_lit w n) ts.0 (after_expr f ∷ []) ts (λ ks. refl))
expr_leads f (a_name x) more h = by_ways (an_expr f) a_name (primary_ways f) x more (primary_words f) h
expr_leads f (mark m) more h = by_ways (an_expr f) mark (open_ways f) m more (open_marks f) h
expr_leads f k more h = absurd cc

binary_makes : (op : P4Binary) (k : Kind) → ((ks : List Kind) (b : ExprText) → operation_then (with_right op b) ks ≡ k ∷ expr_then b (mark (codes ")") ∷ ks)) → Leads (after_expr to_operator) k (an_expr to_close ∷ [])
binary_makes op k h = λ ts. record { tree = record { slices = []; then = with_right op ts.0.expr }; is = λ ks. h ks ts.0.expr }

binary_marks : Ways (after_expr to_operator) mark binary_ways
binary_marks = (
  binary_makes Add _ (λ ks b. refl),
  (
    binary_makes Sub _ (λ ks b. refl),
    (
      binary_makes BitAnd _ (λ ks b. refl),
      (
        binary_makes BitOr _ (λ ks b. refl),
        (
          binary_makes BitXor _ (λ ks b. refl),
          (
            binary_makes Concat _ (λ ks b. refl),
            (
              binary_makes Equal _ (λ ks b. refl),
              (
                binary_makes Unequal _ (λ ks b. refl),
                (
                  binary_makes Less _ (λ ks b. refl),
                  (
                    binary_makes LessEqual _ (λ ks b. refl),
                    (
                      binary_makes Greater _ (λ ks b. refl),
                      (
                        binary_makes GreaterEqual _ (λ ks b. refl),
                        (
                          binary_makes And _ (λ ks b. refl),
                          (
                            binary_makes Or _ (λ ks b. refl),
                            (
                              λ ts. record { tree = record { slices = []; then = with_sides ts.0.expr ts.1.0.expr }; is = λ ks. refl },
                              (tt),
                            ),
                          ),
                        ),
                      ),
                    ),
                  ),
                ),
              ),
            ),
          ),
        ),
      ),
    ),
  ),
)

follow_marks : (f : Follow) → Ways (after_expr f) mark (follow_ways f)
follow_marks to_semicolon = (λ ts. record { tree = record { slices = []; then = tt }; is = λ ks. refl }, tt)
follow_marks to_close = (λ ts. record { tree = record { slices = []; then = tt }; is = λ ks. refl }, tt)
follow_marks to_colon = (λ ts. record { tree = record { slices = []; then = tt }; is = λ ks. refl }, tt)
follow_marks to_operator = binary_marks

slice_leads : (f : Follow) → Leads (after_expr f) (mark (codes "[")) (any_plain ∷ the_mark (codes ":") ∷ any_plain ∷ the_mark (codes "]") ∷ after_expr f ∷ [])
slice_leads f = λ ts. record {
  tree = record { slices = record { high = ts.0; low = ts.1.1.0 } ∷ ts.1.1.1.1.0.slices; then = ts.1.1.1.1.0.then };
  is = λ ks. refl;
}

pub after_leads : (f : Follow) (k : Kind) (more : Goals) → takes (after_expr f) k ≡ Some more → Leads (after_expr f) k more
after_leads f (mark m) more h = by_ways (after_expr f) mark (after_ways f) m more (slice_leads f, follow_marks f) h
after_leads f k more h = absurd cc

-- an operand and its operation, or two sides
abbrev operated : ExprText → Operation → ExprText
operated a (with_right op b) = w_binary op a b
operated c (with_sides a b) = w_pick c a b

operated_is : (a : ExprText) (o : Operation) (ks : List Kind) → mark (codes "(") ∷ expr_then a (operation_then o ks) ≡ expr_then (operated a o) ks
operated_is a (with_right op b) ks = refl
operated_is c (with_sides a b) ks = refl

-- what stands in brackets, by its first operand
opened_makes : (k : Kind) (e : ExprText) (t : SlicesAndAfter to_operator) (more : Goals) (ts : Trees more)
    → ((ks : List Kind) → expr_then e (slices_then t.slices (operation_then t.then ks)) ≡ k ∷ spells more ts ks) → Makes opened k more ts
opened_makes k e t more ts h = record {
  tree = record {
    whole = operated (with_slices e t.slices) t.then;
    part = λ ks. k ∷ spells more ts ks;
    is = λ ks. ap (λ z. mark (codes "(") ∷ z) (sym (h ks)) ∙ ap (λ z. mark (codes "(") ∷ z) (sym (sliced e t.slices (operation_then t.then ks))) ∙ operated_is (with_slices e t.slices) t.then ks;
  };
  is = λ ks. refl;
}

opened_words : Ways opened a_name (primary_ways to_operator)
opened_words = (
  λ ts. opened_makes _ (w_truth true) ts.0 _ ts (λ ks. refl),
  (
    λ ts. opened_makes _ (w_truth false) ts.0 _ ts (λ ks. refl),
    (
      λ ts. opened_makes _ w_port ts.0 _ ts (λ ks. refl),
      (
        λ ts. opened_makes _ w_rid ts.0 _ ts (λ ks. refl),
        (
          λ ts. opened_makes _ (w_meta ts.1.0) ts.1.1.0 _ ts (λ ks. refl),
          (
            λ ts. opened_makes _ (w_field ts.1.0 ts.1.1.1.0) ts.1.1.1.1.0 _ ts (λ ks. refl),
            (tt),
          ),
        ),
      ),
    ),
  ),
)

opened_marks : Ways opened mark unary_ways
opened_marks = (
  λ ts. record { tree = record { whole = w_unary flip ts.0.expr; part = λ ks. mark (codes "~") ∷ spells (an_expr to_close ∷ []) ts ks; is = λ ks. refl }; is = λ ks. refl },
  (
    λ ts. record { tree = record { whole = w_unary not_ ts.0.expr; part = λ ks. mark (codes "!") ∷ spells (an_expr to_close ∷ []) ts ks; is = λ ks. refl }; is = λ ks. refl },
    (
      λ ts. opened_makes _ ts.0.whole ts.1.0 _ ts (λ ks. sym (ts.0.is (slices_then ts.1.0.slices (operation_then ts.1.0.then ks)))),
      (tt),
    ),
  ),
)

pub opened_leads : (k : Kind) (more : Goals) → takes opened k ≡ Some more → Leads opened k more
opened_leads (literal w n) more h = only opened (literal w n) (after_expr to_operator ∷ []) more h (λ ts. opened_makes (literal w n) (w_lit w n) ts.0 (after_expr to_operator ∷ []) ts (λ ks. refl))
opened_leads (a_name x) more h = by_ways opened a_name (primary_ways to_operator) x more opened_words h
opened_leads (mark m) more h = by_ways opened mark unary_ways m more opened_marks h
opened_leads k more h = absurd cc

-- ---- statements

-- a part of statements, by the whole
block_makes : (g : Goal) (before : List Kind → List Kind) (k : Kind) (more : Goals) (ts : Trees more) (b : BlockText)
    → ((ks : List Kind) → before (k ∷ spells more ts ks) ≡ block_then b (mark (codes "}") ∷ ks)) → RestOfBlock before
block_makes g before k more ts b h = record { whole = b; part = λ ks. k ∷ spells more ts ks; is = h }

first_makes : (x : List ℕ) (k : Kind) (more : Goals) (b : Trees more → BlockText)
    → ((ts : Trees more) (ks : List Kind) → a_name x ∷ k ∷ spells more ts ks ≡ block_then (b ts) (mark (codes "}") ∷ ks)) → Leads (after_first x) k more
first_makes x k more b h = λ ts. record { tree = record { whole = b ts; part = λ ks. k ∷ spells more ts ks; is = h ts }; is = λ ks. refl }

-- by the way of its first name
abbrev FirstWays : (k : Kind) → List Way → Type 0
FirstWays k [] = Unit {0}
FirstWays k (w ∷ ws) = Leads (after_first w.text) k w.leaves × FirstWays k ws

first_way : (k : Kind) (ws : List Way) (x : List ℕ) (more : Goals) → FirstWays k ws → by_text ws x ≡ Some more → Leads (after_first x) k more
first_way k [] x more p h = absurd cc
first_way k (w ∷ ws) x more p h = pick (same_name w.text x) refl (first_way k ws x more p.1)
  where
    pick : (b : Bool) → same_name w.text x ≡ b → (by_text ws x ≡ Some more → Leads (after_first x) k more) → Leads (after_first x) k more
    pick true e others =
        let found : Some w.leaves ≡ Some more = rw e at h in
        let leaves : w.leaves ≡ more = cc in
        subst (λ y. Leads (after_first y) k more) (same_text w.text x e) (subst (λ m. Leads (after_first w.text) k m) leaves p.0)
    pick false e others = others (rw e at h)

assigned_first : FirstWays (mark (codes "=")) assigned_ways
assigned_first = (
  first_makes (codes "verdict") (mark (codes "=")) (any_literal ∷ the_mark (codes ";") ∷ stmts ∷ []) (λ ts. w_then (w_verdict ts.0.width ts.0.n) ts.1.1.0) (λ ts ks. refl),
  (
    first_makes (codes "egress_port") (mark (codes "=")) (an_expr to_semicolon ∷ stmts ∷ []) (λ ts. w_then (w_egress_port ts.0.expr) ts.1.0) (λ ts ks. refl),
    (
      first_makes (codes "group") (mark (codes "=")) (an_expr to_semicolon ∷ stmts ∷ []) (λ ts. w_then (w_group ts.0.expr) ts.1.0) (λ ts ks. refl),
      (tt),
    ),
  ),
)

-- an `if`, its block, and what may come after
abbrev if_block : ExprText → BlockText → Otherwise → BlockText
if_block e a (goes_on b) = w_then (w_if e a) b
if_block e a (has_else c b) = w_then (w_if_else e a c) b

if_is : (e : ExprText) (a : BlockText) (o : Otherwise) (ks : List Kind) → condition_then e (block_then a (mark (codes "}") ∷ otherwise_then o ks)) ≡ block_then (if_block e a o) (mark (codes "}") ∷ ks)
if_is e a (goes_on b) ks = refl
if_is e a (has_else c b) ks = refl

tested_first : FirstWays (mark (codes "(")) tested_ways
tested_first = (
  first_makes (codes "if") (mark (codes "(")) (an_expr to_close ∷ the_mark (codes "{") ∷ stmts ∷ stmts_or_else ∷ []) (λ ts. if_block ts.0.expr ts.1.1.0 ts.1.1.1.0) (λ ts ks. if_is ts.0.expr ts.1.1.0 ts.1.1.1.0 ks),
  tt,
)

returned_first : FirstWays (mark (codes ";")) returned_ways
returned_first = (first_makes (codes "return") (mark (codes ";")) (stmts ∷ []) (λ ts. w_then w_return ts.0) (λ ts ks. refl), tt)

dot_leads : (x : List ℕ) → Leads (after_first x) (mark (codes ".")) (dotted x ∷ [])
dot_leads x = first_makes x (mark (codes ".")) (dotted x ∷ []) (λ ts. ts.0.whole) (λ ts ks. ts.0.is ks)

pub first_leads : (x : List ℕ) (k : Kind) (more : Goals) → takes (after_first x) k ≡ Some more → Leads (after_first x) k more
first_leads x (mark m) more h =
    either_way (after_first x) mark (codes ".") m (same_name (codes ".") m) _ _ more refl (λ e. only (after_first x) _ (dotted x ∷ []) more e (dot_leads x))
    (either_way (after_first x) mark (codes "=") m (same_name (codes "=") m) _ _ more refl (first_way (mark (codes "=")) assigned_ways x more assigned_first)
    (either_way (after_first x) mark (codes "(") m (same_name (codes "(") m) _ _ more refl (first_way (mark (codes "(")) tested_ways x more tested_first)
    (either_way (after_first x) mark (codes ";") m (same_name (codes ";") m) _ _ more refl (first_way (mark (codes ";")) returned_ways x more returned_first)
    (λ e. absurd cc)))) h
first_leads x k more h = absurd cc

-- the rest of an application
applied_leads : (x : List ℕ) → Leads (dotted x) (a_name (codes "apply")) applied
applied_leads x = λ ts. record { tree = record { whole = w_then (w_apply x) ts.1.1.1.0; part = λ ks. a_name (codes "apply") ∷ spells applied ts ks; is = λ ks. refl }; is = λ ks. refl }

meta_leads_on : (y : List ℕ) → Leads (dotted (codes "m")) (a_name y) (after_meta y ∷ [])
meta_leads_on y = λ ts. record { tree = record { whole = ts.0.whole; part = λ ks. a_name y ∷ spells (after_meta y ∷ []) ts ks; is = λ ks. ts.0.is ks }; is = λ ks. refl }

header_leads_on : (y : List ℕ) → Leads (dotted (codes "h")) (a_name y) (after_header y ∷ [])
header_leads_on y = λ ts. record { tree = record { whole = ts.0.whole; part = λ ks. a_name y ∷ spells (after_header y ∷ []) ts ks; is = λ ks. ts.0.is ks }; is = λ ks. refl }

dotted_by : (x y : List ℕ) (more : Goals) (b c : Bool) → same_name (codes "m") x ≡ b → same_name (codes "h") x ≡ c → dotted_name x y ≡ Some more → Leads (dotted x) (a_name y) more
dotted_by x y more true c p q h = subst (λ z. Leads (dotted z) (a_name y) more) (same_text (codes "m") x p) (only (dotted (codes "m")) (a_name y) (after_meta y ∷ []) more (rw p at h) (meta_leads_on y))
dotted_by x y more false true p q h = subst (λ z. Leads (dotted z) (a_name y) more) (same_text (codes "h") x q) (only (dotted (codes "h")) (a_name y) (after_header y ∷ []) more (rw (p, q) at h) (header_leads_on y))
dotted_by x y more false false p q h = by_ways (dotted x) a_name applied_ways y more (applied_leads x, tt) (rw (p, q) at h)

pub dotted_leads : (x : List ℕ) (k : Kind) (more : Goals) → takes (dotted x) k ≡ Some more → Leads (dotted x) k more
dotted_leads x (a_name y) more h = dotted_by x y more (same_name (codes "m") x) (same_name (codes "h") x) refl refl h
dotted_leads x k more h = absurd cc

-- `m.apply();`, and `h.apply();`
abbrev after_apply : Goals
after_apply = the_mark (codes ")") ∷ the_mark (codes ";") ∷ stmts ∷ []

meta_applied : Leads (after_meta (codes "apply")) (mark (codes "(")) after_apply
meta_applied = λ ts. record { tree = record { whole = w_then (w_apply (codes "m")) ts.1.1.0; part = λ ks. mark (codes "(") ∷ spells after_apply ts ks; is = λ ks. refl }; is = λ ks. refl }

header_applied : Leads (after_header (codes "apply")) (mark (codes "(")) after_apply
header_applied = λ ts. record { tree = record { whole = w_then (w_apply (codes "h")) ts.1.1.0; part = λ ks. mark (codes "(") ∷ spells after_apply ts ks; is = λ ks. refl }; is = λ ks. refl }

-- the name that is applied is `apply`
apply_name : (y : List ℕ) (more : Goals) (P : List ℕ → Goals → Type 0) (b : Bool) → same_name (codes "apply") y ≡ b → P (codes "apply") after_apply → by_text opened_ways y ≡ Some more → P y more
apply_name y more P true e p h =
    let found : Some after_apply ≡ Some more = rw e at h in
    let leaves : after_apply ≡ more = cc in
    subst (λ z. P z more) (same_text (codes "apply") y e) (subst (λ m. P (codes "apply") m) leaves p)
apply_name y more P false e p h = let none : None ≡ Some more = rw e at h in absurd cc

pub meta_leads : (y : List ℕ) (k : Kind) (more : Goals) → takes (after_meta y) k ≡ Some more → Leads (after_meta y) k more
meta_leads y (mark m) more h =
    either_way (after_meta y) mark (codes "(") m (same_name (codes "(") m) _ _ more refl (apply_name y more (λ z ms. Leads (after_meta z) (mark (codes "(")) ms) (same_name (codes "apply") y) refl meta_applied)
    (either_way (after_meta y) mark (codes "=") m (same_name (codes "=") m) _ _ more refl
    (λ e. only (after_meta y) _ (an_expr to_semicolon ∷ stmts ∷ []) more e (λ ts. record { tree = record { whole = w_then (w_set_meta y ts.0.expr) ts.1.0; part = λ ks. mark (codes "=") ∷ spells (an_expr to_semicolon ∷ stmts ∷ []) ts ks; is = λ ks. refl }; is = λ ks. refl }))
    (λ e. absurd cc)) h
meta_leads y k more h = absurd cc

abbrev after_field : Goals
after_field = any_name ∷ the_mark (codes "=") ∷ an_expr to_semicolon ∷ stmts ∷ []

pub header_leads : (y : List ℕ) (k : Kind) (more : Goals) → takes (after_header y) k ≡ Some more → Leads (after_header y) k more
header_leads y (mark m) more h =
    either_way (after_header y) mark (codes "(") m (same_name (codes "(") m) _ _ more refl (apply_name y more (λ z ms. Leads (after_header z) (mark (codes "(")) ms) (same_name (codes "apply") y) refl header_applied)
    (either_way (after_header y) mark (codes ".") m (same_name (codes ".") m) _ _ more refl
    (λ e. only (after_header y) _ after_field more e (λ ts. record { tree = record { whole = w_then (w_set_field y ts.0 ts.1.1.0.expr) ts.1.1.1.0; part = λ ks. mark (codes ".") ∷ spells after_field ts ks; is = λ ks. refl }; is = λ ks. refl }))
    (λ e. absurd cc)) h
header_leads y k more h = absurd cc

pub stmts_leads : (k : Kind) (more : Goals) → takes stmts k ≡ Some more → Leads stmts k more
stmts_leads (a_name x) more h = only stmts (a_name x) (after_first x ∷ []) more h (λ ts. record { tree = ts.0.whole; is = λ ks. sym (ts.0.is ks) })
stmts_leads (mark m) more h = by_ways stmts mark next_ways m more (λ ts. record { tree = w_done; is = λ ks. refl }, tt) h
stmts_leads k more h = absurd cc

or_else_by : (x : List ℕ) (more : Goals) (b : Bool) → same_name (codes "else") x ≡ b → takes stmts_or_else (a_name x) ≡ Some more → Leads stmts_or_else (a_name x) more
or_else_by x more true e h =
    subst (λ y. Leads stmts_or_else (a_name y) more) (same_text (codes "else") x e)
    (only stmts_or_else (a_name (codes "else")) (after_else ∷ []) more (rw e at h) (λ ts. record { tree = ts.0.whole; is = λ ks. sym (ts.0.is ks) }))
or_else_by x more false e h = only stmts_or_else (a_name x) (after_first x ∷ []) more (rw e at h) (λ ts. record { tree = goes_on ts.0.whole; is = λ ks. sym (ts.0.is ks) })

pub or_else_leads : (k : Kind) (more : Goals) → takes stmts_or_else k ≡ Some more → Leads stmts_or_else k more
or_else_leads (a_name x) more h = or_else_by x more (same_name (codes "else") x) refl h
or_else_leads (mark m) more h = by_ways stmts_or_else mark next_ways m more (λ ts. record { tree = goes_on w_done; is = λ ks. refl }, tt) h
or_else_leads k more h = absurd cc

pub else_leads : (k : Kind) (more : Goals) → takes after_else k ≡ Some more → Leads after_else k more
else_leads (mark m) more h =
    either_way after_else mark (codes "{") m (same_name (codes "{") m) _ _ more refl
    (λ e. only after_else _ (stmts ∷ stmts ∷ []) more e (λ ts. record { tree = record { whole = has_else ts.0 ts.1.0; part = λ ks. mark (codes "{") ∷ spells (stmts ∷ stmts ∷ []) ts ks; is = λ ks. refl }; is = λ ks. refl }))
    (either_way after_else mark (codes ".") m (same_name (codes ".") m) _ _ more refl
    (λ e. only after_else _ (dotted (codes "else") ∷ []) more e (λ ts. record { tree = record { whole = goes_on ts.0.whole; part = λ ks. mark (codes ".") ∷ spells (dotted (codes "else") ∷ []) ts ks; is = λ ks. ts.0.is ks }; is = λ ks. refl }))
    (λ e. absurd cc)) h
else_leads k more h = absurd cc
