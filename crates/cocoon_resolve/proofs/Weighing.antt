-- Weights that are related part by part are related: so a weight is linear in what its nodes and its variables weigh, and
-- it may stop at the last number of 64 bits at each part or at the end.
use Rattle.std.specs.Prelude.{ℕ, ◌+◌, Bool, true, false, List, [], ◌∷◌, cond, Option, Some, None}
use Rattle.cocoon_num.specs.Tree.{Expr, name, field, lit, true_or_false, call, unary, binary, slice, pick, Exprs, no_exprs, expr, Param, FunctionDecl}
use Rattle.cocoon_num.specs.Names.{same_name}
use Rattle.cocoon_num.specs.Packets.{total}
use Rattle.cocoon_resolve.specs.Forms.{weight, weights, argument_weight, call_weight}

-- what three numbers may be to each other
abbrev pub Relation : Type 1
Relation = ℕ → ℕ → ℕ → Type 0

-- three lists, number by number
abbrev pub Each : Relation → List ℕ → List ℕ → List ℕ → Type 0
Each R [] [] [] = Unit {0}
Each R (n ∷ ns) (m ∷ ms) (l ∷ ls) = R n m l × Each R ns ms ls
Each R _ _ _ = ⊥

-- sums of what is related are
abbrev pub Sums : Relation → Type 0
Sums R = (a b c d e f : ℕ) → R a b c → R d e f → R (a + d) (b + e) (c + f)

module _ (R : Relation) (sums : Sums R) (o p q : ℕ) (one : R o p q) (c d e : List ℕ → List ℕ → ℕ)
    (calls : (f ns ms ls : List ℕ) → Each R ns ms ls → R (c f ns) (d f ms) (e f ls))
    (u v w : List ℕ → ℕ) (vars : (x : List ℕ) → R (u x) (v x) (w x)) where
  mutual
    pub related : (x : Expr) → R (weight o c u x) (weight p d v x) (weight q e w x)
    related (name at x) = vars x
    related (field at h f) = one
    related (lit at width n) = one
    related (true_or_false at b) = one
    related (call at f es) = calls f.text _ _ _ (all_related es)
    related (unary at op a) = sums _ _ _ _ _ _ one (related a)
    related (binary at op a b) = sums _ _ _ _ _ _ (sums _ _ _ _ _ _ one (related a)) (related b)
    related (slice at a high low) = sums _ _ _ _ _ _ one (related a)
    related (pick at x a b) = sums _ _ _ _ _ _ (sums _ _ _ _ _ _ (sums _ _ _ _ _ _ one (related x)) (related a)) (related b)

    pub all_related : (es : Exprs) → Each R (weights o c u es) (weights p d v es) (weights q e w es)
    all_related no_exprs = tt
    all_related (expr x es) = (related x, all_related es)

-- the weight of a call, by the function's body
abbrev pub body_weight : ℕ → List FunctionDecl → List Param → List ℕ → Option Expr → ℕ
body_weight one fs ps ns b = elim b [ None ↦ one + total ns | Some e ↦ weight one (call_weight one fs) (argument_weight one ps ns) e ]

by_test : (R : Relation) (b : Bool) (i j k x y z : ℕ) → R i j k → R x y z → R (cond b i x) (cond b j y) (cond b k z)
by_test R true i j k x y z g h = g
by_test R false i j k x y z g h = h

module _ (R : Relation) (sums : Sums R) (none : R 0 0 0) (o p q : ℕ) (one : R o p q) where
  pub totals : (ns ms ls : List ℕ) → Each R ns ms ls → R (total ns) (total ms) (total ls)
  totals [] [] [] h = none
  totals [] [] (l ∷ ls) h = absurd h
  totals [] (m ∷ ms) ls h = absurd h
  totals (n ∷ ns) [] ls h = absurd h
  totals (n ∷ ns) (m ∷ ms) [] h = absurd h
  totals (n ∷ ns) (m ∷ ms) (l ∷ ls) h = sums _ _ _ _ _ _ h.0 (totals ns ms ls h.1)

  arguments : (ps : List Param) (x ns ms ls : List ℕ) → Each R ns ms ls → R (argument_weight o ps ns x) (argument_weight p ps ms x) (argument_weight q ps ls x)
  arguments [] x ns ms ls h = one
  arguments (a ∷ ps) x [] [] [] h = one
  arguments (a ∷ ps) x [] [] (l ∷ ls) h = absurd h
  arguments (a ∷ ps) x [] (m ∷ ms) ls h = absurd h
  arguments (a ∷ ps) x (n ∷ ns) [] ls h = absurd h
  arguments (a ∷ ps) x (n ∷ ns) (m ∷ ms) [] h = absurd h
  arguments (a ∷ ps) x (n ∷ ns) (m ∷ ms) (l ∷ ls) h = by_test R (same_name x a.name.text) n m l (argument_weight o ps ns x) (argument_weight p ps ms x) (argument_weight q ps ls x) h.0 (arguments ps x ns ms ls h.1)

  pub calls_related : (fs : List FunctionDecl) (f ns ms ls : List ℕ) → Each R ns ms ls → R (call_weight o fs f ns) (call_weight p fs f ms) (call_weight q fs f ls)
  calls_related [] f ns ms ls h = sums _ _ _ _ _ _ one (totals ns ms ls h)
  calls_related (d ∷ fs) f ns ms ls h = by_test R (same_name f d.name.text) _ _ _ _ _ _ (by_body (calls_related fs) d.body) (calls_related fs f ns ms ls h)
    where
      by_body : ((f ns ms ls : List ℕ) → Each R ns ms ls → R (call_weight o fs f ns) (call_weight p fs f ms) (call_weight q fs f ls))
          → (b : Option Expr) → R (body_weight o fs d.params ns b) (body_weight p fs d.params ms b) (body_weight q fs d.params ls b)
      by_body g None = sums _ _ _ _ _ _ one (totals ns ms ls h)
      by_body g (Some e) =
          related R sums o p q one (call_weight o fs) (call_weight p fs) (call_weight q fs) g
          (argument_weight o d.params ns) (argument_weight p d.params ms) (argument_weight q d.params ls) (λ x. arguments d.params x ns ms ls h) e
