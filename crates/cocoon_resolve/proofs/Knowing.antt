-- Nodes by the forms that are known: numbers that stop at the last of 64 bits at each step, and not only at the end.
use Rattle.std.specs.Prelude.{◌≡◌, ℕ, zero, suc, ◌+◌, ◌*◌, Bool, true, false, List, [], ◌∷◌, ◌++◌, length, drop, map, slice_index, cond, Option, Some, None, refl}
use Rattle.std.proofs.Common.{sym, ◌∙◌, ap}
use Rattle.cocoon_num.specs.Tree.{Expr, name, field, lit, true_or_false, call, unary, binary, slice, pick, Exprs, no_exprs, expr, Param, FunctionDecl}
use Rattle.cocoon_num.specs.Names.{same_name}
use Rattle.cocoon_num.specs.Packets.{total}
use Rattle.cocoon_types.specs.Limits.{reported, nodes, nodes_of, argument_nodes, call_nodes, expr_nodes}
use Rattle.cocoon_resolve.specs.declared.forms.Known.{Known}
use Rattle.cocoon_resolve.specs.Forms.{weight, weights, argument_weight, call_weight, slot_weight, CallForm, plain, of_body, own_nodes, times, each_times, form_weight, reported_form, form_of, known_form, known_weight, table, slot_of_body, body_form, form_at, Knows, known_body_form, body_known, declared_form}
use Rattle.cocoon_resolve.proofs.Saturation.{sum_left, sum_right, product_left, product_right, reported_again}
use Rattle.cocoon_resolve.proofs.Weighing.{Relation, Each, Sums, body_weight, related}
use Rattle.cocoon_resolve.proofs.Forming.{weighs_form, form_of_body}

-- ---- alike: the same as far as is reported

plus_alike : (a b d e : ℕ) → reported a ≡ reported b → reported d ≡ reported e → reported (a + d) ≡ reported (b + e)
plus_alike a b d e h g =
    sym (sum_right a d) ∙ sym (sum_left a (reported d)) ∙ ap (λ x. reported (x + reported d)) h ∙ ap (λ x. reported (reported b + x)) g ∙ sum_left b (reported e) ∙ sum_right b e

times_alike : (a b d e : ℕ) → reported a ≡ reported b → reported d ≡ reported e → reported (a * d) ≡ reported (b * e)
times_alike a b d e h g =
    sym (product_right a d) ∙ sym (product_left a (reported d)) ∙ ap (λ x. reported (x * reported d)) h ∙ ap (λ x. reported (reported b * x)) g ∙ product_left b (reported e) ∙ product_right b e

abbrev Alike : Relation
Alike a b c = reported a ≡ reported b

alike_sums : Sums Alike
alike_sums a b c d e f h g = plus_alike a b d e h g

each_alike : (t s : ℕ → ℕ) → ((i : ℕ) → reported (t i) ≡ reported (s i)) → (ns ms ls : List ℕ) → Each Alike ns ms ls → reported (each_times t ns) ≡ reported (each_times s ms)
each_alike t s k [] [] [] h = refl
each_alike t s k [] [] (l ∷ ls) h = absurd h
each_alike t s k [] (m ∷ ms) ls h = absurd h
each_alike t s k (n ∷ ns) [] ls h = absurd h
each_alike t s k (n ∷ ns) (m ∷ ms) [] h = absurd h
each_alike t s k (n ∷ ns) (m ∷ ms) (l ∷ ls) h =
    plus_alike (n * t 0) (m * s 0) (each_times (λ i. t (suc i)) ns) (each_times (λ i. s (suc i)) ms) (times_alike n m (t 0) (s 0) h.0 (k 0)) (each_alike (λ i. t (suc i)) (λ i. s (suc i)) (λ i. k (suc i)) ns ms ls h.1)

as_long : (ns ms ls : List ℕ) → Each Alike ns ms ls → length ns ≡ length ms
as_long [] [] [] h = refl
as_long [] [] (l ∷ ls) h = absurd h
as_long [] (m ∷ ms) ls h = absurd h
as_long (n ∷ ns) [] ls h = absurd h
as_long (n ∷ ns) (m ∷ ms) [] h = absurd h
as_long (n ∷ ns) (m ∷ ms) (l ∷ ls) h = ap suc (as_long ns ms ls h.1)

totals_alike : (us : List ℕ) (n : ℕ) → reported (total (drop n (map reported us))) ≡ reported (total (drop n us))
totals_alike [] zero = refl
totals_alike [] (suc n) = refl
totals_alike (u ∷ us) zero = plus_alike (reported u) u (total (map reported us)) (total us) (reported_again u) (totals_alike us zero)
totals_alike (u ∷ us) (suc n) = totals_alike us n

at_alike : (us : List ℕ) (i : ℕ) → reported (slice_index (map reported us) i) ≡ reported (slice_index us i)
at_alike [] i = refl
at_alike (u ∷ us) zero = reported_again u
at_alike (u ∷ us) (suc i) = at_alike us i

own_alike : (form : CallForm) (n : ℕ) → reported (own_nodes (reported_form form) n) ≡ reported (own_nodes form n)
own_alike plain n = refl
own_alike (of_body own uses) n = plus_alike (reported own) own (total (drop n (map reported uses))) (total (drop n uses)) (reported_again own) (totals_alike uses n)

uses_alike : (form : CallForm) (i : ℕ) → reported (times (reported_form form) i) ≡ reported (times form i)
uses_alike plain i = refl
uses_alike (of_body own uses) i = at_alike uses i

form_alike : (one : ℕ) (form : CallForm) (ns ms ls : List ℕ) → Each Alike ns ms ls → reported (form_weight one (reported_form form) ns) ≡ reported (form_weight one form ms)
form_alike one form ns ms ls h =
    plus_alike (one * own_nodes (reported_form form) (length ns)) (one * own_nodes form (length ms)) (each_times (times (reported_form form)) ns) (each_times (times form) ms)
    (times_alike one one (own_nodes (reported_form form) (length ns)) (own_nodes form (length ms)) refl (own_alike form (length ns) ∙ ap (λ n. reported (own_nodes form n)) (as_long ns ms ls h)))
    (each_alike (times (reported_form form)) (times form) (uses_alike form) ns ms ls h)

-- ---- weights by known forms

pub known_alike : (fs : List FunctionDecl) (ks : List Known) → Knows fs ks → (one : ℕ) (v : List ℕ → ℕ) (e : Expr)
    → reported (weight one (known_weight one ks) v e) ≡ reported (weight one (call_weight one fs) v e)
known_alike fs ks k one v e =
    related Alike alike_sums one one one refl (known_weight one ks) (call_weight one fs) (call_weight one fs)
    (λ f ns ms ls h. ap (λ form. reported (form_weight one form ns)) (k.forms f) ∙ form_alike one (form_at fs f) ns ms ls h ∙ ap reported (sym (weighs_form one fs f ms)))
    v v v (λ x. refl) e

-- ---- the definitions' own nodes weigh 1

module _ (c d : List ℕ → List ℕ → ℕ) (calls : (f ns : List ℕ) → c f ns ≡ d f ns) (v w : List ℕ → ℕ) (vars : (x : List ℕ) → v x ≡ w x) where
  mutual
    nodes_weigh : (e : Expr) → nodes c v e ≡ weight 1 d w e
    nodes_weigh (name at x) = vars x
    nodes_weigh (field at h f) = refl
    nodes_weigh (lit at width n) = refl
    nodes_weigh (true_or_false at b) = refl
    nodes_weigh (call at f es) = calls f.text (nodes_of c v es) ∙ ap (d f.text) (all_weigh es)
    nodes_weigh (unary at op a) = rw (nodes_weigh a) refl
    nodes_weigh (binary at op a b) = rw (nodes_weigh a, nodes_weigh b) refl
    nodes_weigh (slice at a high low) = rw (nodes_weigh a) refl
    nodes_weigh (pick at x a b) = rw (nodes_weigh x, nodes_weigh a, nodes_weigh b) refl

    all_weigh : (es : Exprs) → nodes_of c v es ≡ weights 1 d w es
    all_weigh no_exprs = refl
    all_weigh (expr e es) = rw (nodes_weigh e, all_weigh es) refl

same_argument : (ps : List Param) (ns x : List ℕ) → argument_nodes ps ns x ≡ argument_weight 1 ps ns x
same_argument [] ns x = refl
same_argument (p ∷ ps) [] x = refl
same_argument (p ∷ ps) (n ∷ ns) x = ap (cond (same_name x p.name.text) n) (same_argument ps ns x)

abbrev body_nodes : List FunctionDecl → List Param → List ℕ → Option Expr → ℕ
body_nodes fs ps ns b = elim b [ None ↦ 1 + total ns | Some e ↦ nodes (call_nodes fs) (argument_nodes ps ns) e ]

calls_weigh : (fs : List FunctionDecl) (f ns : List ℕ) → call_nodes fs f ns ≡ call_weight 1 fs f ns
calls_weigh [] f ns = refl
calls_weigh (d ∷ fs) f ns = by_name (same_name f d.name.text) (calls_weigh fs)
  where
    by_body : ((f ns : List ℕ) → call_nodes fs f ns ≡ call_weight 1 fs f ns) → (b : Option Expr) → body_nodes fs d.params ns b ≡ body_weight 1 fs d.params ns b
    by_body g None = refl
    by_body g (Some e) = nodes_weigh (call_nodes fs) (call_weight 1 fs) g (argument_nodes d.params ns) (argument_weight 1 d.params ns) (same_argument d.params ns) e

    by_name : (b : Bool) → ((f ns : List ℕ) → call_nodes fs f ns ≡ call_weight 1 fs f ns) → cond b (body_nodes fs d.params ns d.body) (call_nodes fs f ns) ≡ cond b (body_weight 1 fs d.params ns d.body) (call_weight 1 fs f ns)
    by_name true g = by_body g d.body
    by_name false g = g f ns

-- an expression of a body, as the code counts it
pub known_nodes : (fs : List FunctionDecl) (ks : List Known) → Knows fs ks → (e : Expr)
    → reported (weight 1 (known_weight 1 ks) (slot_weight [] 0) e) ≡ reported (expr_nodes fs e)
known_nodes fs ks k e =
    known_alike fs ks k 1 (slot_weight [] 0) e
    ∙ ap reported (sym (nodes_weigh (call_nodes fs) (call_weight 1 fs) (calls_weigh fs) (λ x. 1) (slot_weight [] 0) (λ x. refl) e))

-- ---- one more function

reported_table : (f g : ℕ → ℕ) → ((i : ℕ) → f i ≡ reported (g i)) → (n : ℕ) → table f n ≡ map reported (table g n)
reported_table f g h zero = refl
reported_table f g h (suc n) = rw (reported_table f g h n, h n) (sym (map_end (table g n) (g n)))
  where
    map_end : (xs : List ℕ) (x : ℕ) → map reported (xs ++ (x ∷ [])) ≡ map reported xs ++ (reported x ∷ [])
    map_end [] x = refl
    map_end (y ∷ xs) x = ap (λ ys. reported y ∷ ys) (map_end xs x)

pub known_body : (fs : List FunctionDecl) (ks : List Known) → Knows fs ks → (ps : List Param) (e : Expr) → known_body_form ks ps e ≡ reported_form (body_form fs ps e)
known_body fs ks k ps e =
    ap (λ own. of_body own (table (λ i. reported (weight 0 (known_weight 0 ks) (slot_weight ps i) e)) (length ps))) (known_alike fs ks k 1 (slot_weight ps (length ps)) e)
    ∙ ap (of_body (reported (slot_of_body fs 1 ps e (length ps)))) (reported_table (λ i. reported (weight 0 (known_weight 0 ks) (slot_weight ps i) e)) (slot_of_body fs 0 ps e) (λ i. known_alike fs ks k 0 (slot_weight ps i) e) (length ps))

pub knows_none : Knows [] []
knows_none = record { forms = λ f. refl }

pub knows_more : (fs : List FunctionDecl) (ks : List Known) (d : FunctionDecl) (k : Known) → Knows fs ks → k.name ≡ d.name.text
    → form_of k.form ≡ declared_form ks d → Knows (d ∷ fs) (k ∷ ks)
knows_more fs ks d k h n g = record { forms = λ f. by_name f (ap (same_name f) n) }
  where
    by_body : (b : Option Expr) → body_known ks d.params b ≡ reported_form (form_of_body fs d.params b)
    by_body None = refl
    by_body (Some e) = known_body fs ks h d.params e

    choose : (f : List ℕ) (b : Bool) → cond b (form_of k.form) (known_form ks f) ≡ reported_form (cond b (form_of_body fs d.params d.body) (form_at fs f))
    choose f true = g ∙ by_body d.body
    choose f false = h.forms f

    by_name : (f : List ℕ) → same_name f k.name ≡ same_name f d.name.text → known_form (k ∷ ks) f ≡ reported_form (form_at (d ∷ fs) f)
    by_name f e = ap (λ x. cond x (form_of k.form) (known_form ks f)) e ∙ choose f (same_name f d.name.text)
