-- Statements and blocks after what was lowered before.
use Rattle.std.proofs.Common.{◌≡◌, ℕ, suc, Bool, true, false, List, [], ◌∷◌, ◌++◌, sym, ap, ◌∙◌}
use Rattle.std.proofs.lemmas.List.{append_assoc, append-nil}
use Rattle.cocoon_num.specs.Tree.{Block}
use Rattle.p4_ir.specs.P4Tree.{P4Expr, P4Stmt, p_meta, p_port, set_meta}
use Rattle.lowering.specs.Lower.{Counts, Lowered, Variable, a_field, var_name}
use Rattle.lowering.specs.LowerBlock.{LoweredBlock, Site, branches, copy_code, effect, forked, if_stmt, let_code, nowhere, then_block}
use Rattle.lower_code.specs.Blocks.{BlockSoFar, in_branch, port_kept, port_vars, with_block, with_effect}
use Rattle.lower_code.specs.Growth.{Counted, SoFar, grown, with_expr, with_variable}
use Rattle.lower_code.proofs.Steps.{grown_none, grown_twice}

pub let_step : (s : BlockSoFar) (z : SoFar) (e : P4Expr) (r : Lowered) (x : List ℕ) (w f : ℕ) (code : List P4Stmt) (c : Counted) (vars : List Variable)
    → (z, e) ≡ with_expr s.lowered r → f ≡ z.next.field → code ≡ z.code ++ set_meta f e ∷ [] → c ≡ with_variable (record { made = z.made; next = z.next }) w
    → vars ≡ record { name = x; expr = p_meta f } ∷ s.vars
    → record { lowered = record { code = code; made = c.made; next = c.next }; vars = vars; sites = s.sites } ≡ with_block s (let_code x w s.vars r)
let_step s z e r x w f code c vars h hf hc hm hv =
    (λ i. record {
      lowered = record { code = (hc ∙ ap (λ k. z.code ++ set_meta k e ∷ []) hf) i; made = (hm i).made; next = (hm i).next };
      vars = (hv ∙ ap (λ k. record { name = x; expr = p_meta k } ∷ s.vars) hf) i;
      sites = s.sites;
    })
    ∙ (λ i. record {
      lowered = grown (h i).0 (set_meta (h i).0.next.field (h i).1 ∷ []) (a_field (var_name (h i).0.next.var) (h i).0.next.field w ∷ [])
          (record { app = (h i).0.next.app; var = suc (h i).0.next.var; field = suc (h i).0.next.field; site = (h i).0.next.site });
      vars = record { name = x; expr = p_meta (h i).0.next.field } ∷ s.vars;
      sites = s.sites;
    })
    ∙ (λ i. record {
      lowered = grown_twice s.lowered r.code (set_meta r.next.field r.expr ∷ []) r.made (a_field (var_name r.next.var) r.next.field w ∷ []) r.next
          (record { app = r.next.app; var = suc r.next.var; field = suc r.next.field; site = r.next.site }) i;
      vars = record { name = x; expr = p_meta r.next.field } ∷ s.vars;
      sites = sym (append-nil s.sites) i;
    })

-- the same with what was made by a fork
abbrev forked_part : (s : BlockSoFar) (x : List ℕ) (w : ℕ) (body : Block) (b : Bool) (z : SoFar) (e : P4Expr) → BlockSoFar
forked_part s x w body b z e =
    let y = port_kept b z in
    record {
      lowered = record { code = y.code ++ copy_code y.next.site e; made = y.made; next = record { app = y.next.app; var = y.next.var; field = y.next.field; site = suc y.next.site } };
      vars = s.vars;
      sites = s.sites ++ record { number = y.next.site; vars = port_vars b z.next.field s.vars; x = x; width = w; body = body } ∷ [];
    }

forked_whole : (s : BlockSoFar) (x : List ℕ) (w : ℕ) (body : Block) (b : Bool) (r : Lowered)
    → forked_part s x w body b (grown s.lowered r.code r.made r.next) r.expr ≡ with_block s (forked x w body b s.vars r)
forked_whole s x w body true r =
    let kept = set_meta r.next.field p_port ∷ [] in
    let n : Counts = record { app = r.next.app; var = suc r.next.var; field = suc r.next.field; site = suc r.next.site } in
    let code = copy_code r.next.site r.expr in
    (λ i. record {
      lowered = record {
        code = (append_assoc (s.lowered.code ++ r.code) kept code ∙ append_assoc s.lowered.code r.code (kept ++ code)) i;
        made = append_assoc s.lowered.made r.made (a_field (var_name r.next.var) r.next.field 16 ∷ []) i;
        next = n;
      };
      vars = s.vars;
      sites = s.sites ++ record { number = r.next.site; vars = port_vars true r.next.field s.vars; x = x; width = w; body = body } ∷ [];
    })
forked_whole s x w body false r =
    (λ i. record {
      lowered = record {
        code = append_assoc s.lowered.code r.code (copy_code r.next.site r.expr) i;
        made = s.lowered.made ++ r.made;
        next = record { app = r.next.app; var = r.next.var; field = r.next.field; site = suc r.next.site };
      };
      vars = s.vars;
      sites = s.sites ++ record { number = r.next.site; vars = s.vars; x = x; width = w; body = body } ∷ [];
    })

pub fork_step : (s : BlockSoFar) (z y : SoFar) (e : P4Expr) (r : Lowered) (x : List ℕ) (w k : ℕ) (body : Block) (b : Bool) (code : List P4Stmt) (vars : List Variable) (sites : List Site)
    → (z, e) ≡ with_expr s.lowered r → y ≡ port_kept b z → vars ≡ port_vars b z.next.field s.vars → code ≡ y.code ++ copy_code y.next.site e
    → sites ≡ s.sites ++ record { number = y.next.site; vars = vars; x = x; width = w; body = body } ∷ [] → k ≡ suc y.next.site
    → record { lowered = record { code = code; made = y.made; next = record { app = y.next.app; var = y.next.var; field = y.next.field; site = k } }; vars = s.vars; sites = sites }
    ≡ with_block s (forked x w body b s.vars r)
fork_step s z y e r x w k body b code vars sites h hy hv hc hs hk =
    (λ i. record { lowered = record { code = hc i; made = y.made; next = record { app = y.next.app; var = y.next.var; field = y.next.field; site = hk i } }; vars = s.vars; sites = hs i })
    ∙ (λ i. record {
      lowered = record {
        code = (hy i).code ++ copy_code (hy i).next.site e;
        made = (hy i).made;
        next = record { app = (hy i).next.app; var = (hy i).next.var; field = (hy i).next.field; site = suc (hy i).next.site };
      };
      vars = s.vars;
      sites = s.sites ++ record { number = (hy i).next.site; vars = hv i; x = x; width = w; body = body } ∷ [];
    })
    ∙ (λ i. forked_part s x w body b (h i).0 (h i).1)
    ∙ forked_whole s x w body b r

pub if_step : (s : BlockSoFar) (z : SoFar) (e : P4Expr) (r : Lowered) (f g : List Variable → Counts → LoweredBlock) (one two : BlockSoFar) (code : List P4Stmt)
    → (z, e) ≡ with_expr s.lowered r
    → one ≡ in_branch (record { lowered = record { code = []; made = z.made; next = z.next }; vars = s.vars; sites = s.sites }) (f s.vars z.next)
    → two ≡ in_branch (record { lowered = record { code = []; made = one.lowered.made; next = one.lowered.next }; vars = one.vars; sites = one.sites }) (g one.vars one.lowered.next)
    → code ≡ z.code ++ if_stmt e one.lowered.code two.lowered.code ∷ []
    → record { lowered = record { code = code; made = two.lowered.made; next = two.lowered.next }; vars = two.vars; sites = two.sites }
    ≡ with_block s (branches s.vars r (f s.vars) (g s.vars))
if_step s z e r f g one two code h h1 h2 hc =
    (λ i. record { lowered = record { code = hc i; made = two.lowered.made; next = two.lowered.next }; vars = two.vars; sites = two.sites })
    ∙ (λ i. record {
      lowered = record { code = z.code ++ if_stmt e one.lowered.code (h2 i).lowered.code ∷ []; made = (h2 i).lowered.made; next = (h2 i).lowered.next };
      vars = (h2 i).vars;
      sites = (h2 i).sites;
    })
    ∙ (λ i. let b = g (h1 i).vars (h1 i).lowered.next in record {
      lowered = record { code = z.code ++ if_stmt e (h1 i).lowered.code b.code ∷ []; made = (h1 i).lowered.made ++ b.made; next = b.next };
      vars = (h1 i).vars;
      sites = (h1 i).sites ++ b.sites;
    })
    ∙ (λ i. let a = f s.vars (h i).0.next in let b = g s.vars a.next in record {
      lowered = record { code = (h i).0.code ++ if_stmt (h i).1 a.code b.code ∷ []; made = ((h i).0.made ++ a.made) ++ b.made; next = b.next };
      vars = s.vars;
      sites = (s.sites ++ a.sites) ++ b.sites;
    })
    ∙ (λ i. let a = f s.vars r.next in let b = g s.vars a.next in record {
      lowered = record {
        code = append_assoc s.lowered.code r.code (if_stmt r.expr a.code b.code ∷ []) i;
        made = (append_assoc (s.lowered.made ++ r.made) a.made b.made ∙ append_assoc s.lowered.made r.made (a.made ++ b.made)) i;
        next = b.next;
      };
      vars = s.vars;
      sites = append_assoc s.sites a.sites b.sites i;
    })

pub effect_step : (s : BlockSoFar) (z : SoFar) (f : P4Expr → List P4Stmt) (r : Lowered) → z ≡ with_effect s.lowered f r
    → record { lowered = z; vars = s.vars; sites = s.sites } ≡ with_block s (effect f s.vars r)
effect_step s z f r h = λ i. record { lowered = h i; vars = s.vars; sites = sym (append-nil s.sites) i }

pub block_step : (s t : BlockSoFar) (b : LoweredBlock) (g : List Variable → Counts → LoweredBlock) → t ≡ with_block s b
    → with_block s (then_block b g) ≡ with_block t (g t.vars t.lowered.next)
block_step s t b g h =
    let c = g b.vars b.next in
    sym ((λ i. with_block (h i) (g (h i).vars (h i).lowered.next))
    ∙ (λ i. record { lowered = grown_twice s.lowered b.code c.code b.made c.made b.next c.next i; vars = c.vars; sites = append_assoc s.sites b.sites c.sites i }))

pub block_end : (s : BlockSoFar) → with_block s (nowhere s.vars s.lowered.next) ≡ s
block_end s = λ i. record { lowered = grown_none s.lowered i; vars = s.vars; sites = append-nil s.sites i }
