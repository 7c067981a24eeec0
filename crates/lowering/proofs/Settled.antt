-- From ingress to egress: what a fork's block uses is read alike there.
use Rattle.std.specs.Prelude.{◌≡◌, ◌⊎◌, ℕ, Bool, true, false, List, [], ◌∷◌, ◌++◌, refl}
use Rattle.std.proofs.Common.{sym, ◌∙◌, subst, inl, inr, arith}
use Rattle.cocoon_num.specs.Tree.{Stmt, Block, let_, set_field, if_, filter, havoc_var, havoc_field, assume, fork, send, no_stmts, stmt}
use Rattle.cocoon_types.specs.Val.{Env}
use Rattle.p4_ir.specs.P4Tree.{P4Expr, p_lit, p_meta, p_port}
use Rattle.p4_ir.specs.Switch.{State, p4_value, Running}
use Rattle.lowering.specs.Lower.{Counts, Variable, Lowered, Callees, lower_expr}
use Rattle.lowering.specs.LowerBlock.{Site, forked, in_block, ports_kept, for_port, lower_stmt, lower_block}
use Rattle.lowering.specs.LowerSites.{IsStill, PortOnly, Settled, InSite, AllSettled}
use Rattle.lowering.specs.Agrees.{Keeps, Holds}
use Rattle.lowering.specs.Ends.{IsIn}
use Rattle.lowering.proofs.States.{keeps_both}

still_alike : (at out : Running) (t : State) (e : P4Expr) → out.program ≡ at.program → IsStill e → p4_value out t e ≡ p4_value at t e
still_alike at out t (p_lit w n) h s = refl
still_alike at out t (p_meta i) h s = rw h refl
still_alike at out t e h s = absurd s

pub crosses : (W V : List ℕ → Type 0) (at out : Running) (n : ℕ) (s t : State) (vars : List Variable) (env : Env) → out.program ≡ at.program → ((x : List ℕ) → V x → W x) → Keeps n s t
    → Settled V vars → Holds W n at s vars env → Holds V n out t vars env
crosses W V at out n s t [] [] h w k g x = tt
crosses W V at out n s t (v ∷ vars) (b ∷ env) h w k g x =
    (x.0, (λ r u l. still_alike at out u v.expr h (g.0 (subst V (sym x.0) r)) ∙ x.1 (w b.name r) u (keeps_both n n s t u (omega arith) k l)), crosses W V at out n s t vars env h w k g.1 x.2)
crosses W V at out n s t [] (b ∷ env) h w k g x = x
crosses W V at out n s t (v ∷ vars) [] h w k g x = x

-- ---- what lowering gives

all_both : (xs ys : List Site) → AllSettled xs → AllSettled ys → AllSettled (xs ++ ys)
all_both [] ys h g = g
all_both (x ∷ xs) ys h g = (h.0, all_both xs ys h.1 g)

for_port_still : (j : ℕ) (e : P4Expr) → IsStill e ⊎ (e ≡ p_port) → IsStill (for_port j e)
for_port_still j p_port h = tt
for_port_still j e h = elim h [ inl s ↦ s | inr x ↦ absurd cc ]

kept_settled : (V : List ℕ → Type 0) (port : List ℕ) (j : ℕ) (vars : List Variable) → PortOnly port vars → Settled V (ports_kept j vars)
kept_settled V port j [] h = tt
kept_settled V port j (v ∷ vars) h = ((λ w. elim h.0 [ inl s ↦ for_port_still j v.expr (inl s) | inr x ↦ for_port_still j v.expr (inr x.1) ]), kept_settled V port j vars h.1)

unused_settled : (port : List ℕ) (body : Block) (vars : List Variable) → in_block port body ≡ false → PortOnly port vars → Settled (λ x. in_block x body ≡ true) vars
unused_settled port body [] f h = tt
unused_settled port body (v ∷ vars) f h = ((λ w. elim h.0 [ inl s ↦ s | inr x ↦ absurd (clash v.name x.0 w) ]), unused_settled port body vars f h.1)
  where
    clash : (x : List ℕ) → x ≡ port → in_block x body ≡ true → ⊥
    clash x e g = let k : in_block port body ≡ true = rw e at g in cc

fork_settled : (saves : Bool) (port x : List ℕ) (w : ℕ) (body : Block) (vars : List Variable) (r : Lowered) → in_block port body ≡ saves → PortOnly port vars → AllSettled (forked x w body saves vars r).sites
fork_settled true port x w body vars r h p = (kept_settled _ port r.next.field vars p, tt)
fork_settled false port x w body vars r h p = (unused_settled port body vars h p, tt)

fork_vars : (saves : Bool) (port x : List ℕ) (w : ℕ) (body : Block) (vars : List Variable) (r : Lowered) → PortOnly port vars → PortOnly port (forked x w body saves vars r).vars
fork_vars true port x w body vars r h = h
fork_vars false port x w body vars r h = h

pub stmt_vars : (c : Callees) (s : Stmt) (vars : List Variable) (n : Counts) → PortOnly c.port vars → PortOnly c.port (lower_stmt c vars n s).vars
stmt_vars c (let_ p x w e) vars n h = (inl tt, h)
stmt_vars c (set_field p a f e) vars n h = h
stmt_vars c (if_ p e first second) vars n h = h
stmt_vars c (filter p e) vars n h = h
stmt_vars c (havoc_var p x w) vars n h = h
stmt_vars c (havoc_field p a f) vars n h = h
stmt_vars c (assume p e) vars n h = h
stmt_vars c (fork p x w e body) vars n h = fork_vars (in_block c.port body) c.port x.text w body vars _ h
stmt_vars c (send p r es) vars n h = h

mutual
  pub stmt_settled : (c : Callees) (s : Stmt) (vars : List Variable) (n : Counts) → PortOnly c.port vars → AllSettled (lower_stmt c vars n s).sites
  stmt_settled c (let_ p x w e) vars n h = tt
  stmt_settled c (set_field p a f e) vars n h = tt
  stmt_settled c (if_ p e first second) vars n h =
      all_both (lower_block c vars (lower_expr c vars n e).next first).sites _ (block_settled c first vars (lower_expr c vars n e).next h)
      (block_settled c second vars (lower_block c vars (lower_expr c vars n e).next first).next h)
  stmt_settled c (filter p e) vars n h = tt
  stmt_settled c (havoc_var p x w) vars n h = tt
  stmt_settled c (havoc_field p a f) vars n h = tt
  stmt_settled c (assume p e) vars n h = tt
  stmt_settled c (fork p x w e body) vars n h = fork_settled (in_block c.port body) c.port x.text w body vars _ refl h
  stmt_settled c (send p r es) vars n h = tt

  pub block_settled : (c : Callees) (b : Block) (vars : List Variable) (n : Counts) → PortOnly c.port vars → AllSettled (lower_block c vars n b).sites
  block_settled c no_stmts vars n h = tt
  block_settled c (stmt s rest) vars n h =
      all_both (lower_stmt c vars n s).sites _ (stmt_settled c s vars n h) (block_settled c rest (lower_stmt c vars n s).vars (lower_stmt c vars n s).next (stmt_vars c s vars n h))

pub settled_one : (x : Site) (xs : List Site) → AllSettled xs → IsIn x xs → Settled (InSite x) x.vars
settled_one x [] h i = absurd i
settled_one x (y ∷ ys) h i = elim i [
  | inl e ↦ subst (λ (z : Site). Settled (InSite z) z.vars) (sym e) h.0
  | inr j ↦ settled_one x ys h.1 j
]
