-- The code of the blocks of forks, in egress, keeps the kind rules.
use Rattle.std.proofs.Common.{◌≡◌, ℕ, suc, ◌+◌, ◌-◌, ◌≤◌, ◌&&◌, not, nat_le, nat_lt, List, [], ◌∷◌, ◌++◌, reverse, Bool, true, false, Some, None, if◌then◌else◌, option_and_then, refl, sym, ap, subst, ◌∙◌, arith}
use Rattle.cocoon_num.specs.Sorts.{bits_sort, has_sort, truth_sort, slice_sort}
use Rattle.cocoon_num.specs.Tokens.{kept_if}
use Rattle.cocoon_num.specs.Tree.{Param, Stmt, let_, set_field, if_, filter, havoc_var, havoc_field, assume, fork, send, Block, no_stmts, stmt, FunctionDecl, Design}
use Rattle.cocoon_num.specs.Values.{equal}
use Rattle.cocoon_types.specs.Design.{functions}
use Rattle.p4_ir.specs.P4Kinds.{Within, meta_sort, p4_sort, stmt_fits}
use Rattle.p4_ir.specs.P4Tree.{P4Stmt, p_lit, p_meta, p_rid, p_slice, p_binary, p_if, p_return, set_meta}
use Rattle.p4_ir.specs.Program.{block_of}
use Rattle.lowering.specs.Lower.{Callees, Counts, Variable, lower_expr}
use Rattle.lowering.specs.LowerBlock.{Site, in_block, lower_block, lower_stmt}
use Rattle.lowering.specs.LowerSites.{LoweredSites, is_return, lower_site, lower_sites, with_return}
use Rattle.sound_types.proofs.Bodies.{after_vars}
use Rattle.sound_types.proofs.Options.{both_true, true_both}
use Rattle.lowering_fits.proofs.BlockKinds.{SiteOk, SitesOk, SmallSites, Stage, block_kinds, extend}
use Rattle.lowering_fits.proofs.CallKinds.{equal_sort}
use Rattle.lowering_fits.proofs.ExprKinds.{MadeOk, VarsOk, code_both, code_fits, code_one, has_of, lit_sort, made_left, made_right, same_of}
use Rattle.lowering_correct.proofs.ForkCalls.{width_least, width_most}
use Rattle.lowering_correct.proofs.Formed.{Formed, FormedStmt, one_more}
use Rattle.lowering_fits.proofs.Logged.{Logged, logged_both, logged_none}

return_fits : (c : Within) (xs : List P4Stmt) → code_fits c xs ≡ true → code_fits c (with_return xs) ≡ true
return_fits c [] h = refl
return_fits c (x ∷ []) h = by_test (is_return x) h
  where
    by_test : (b : Bool) → code_fits c (x ∷ []) ≡ true → code_fits c (if b then x ∷ [] else x ∷ p_return ∷ []) ≡ true
    by_test true k = k
    by_test false k = code_one c x (p_return ∷ []) (both_true (stmt_fits c x) true k).0 refl
return_fits c (x ∷ y ∷ ys) h =
    let both = both_true (stmt_fits c x) (code_fits c (y ∷ ys)) h in code_one c x (with_return (y ∷ ys)) both.0 (return_fits c (y ∷ ys) both.1)

-- ---- no fork stands in a fork's block

small_both : (xs ys : List Site) → SmallSites xs → SmallSites ys → SmallSites (xs ++ ys)
small_both [] ys h g = g
small_both (x ∷ xs) ys h g = (h.0, small_both xs ys h.1 g)

mutual
  stmt_small : (fs : List FunctionDecl) (own exit : List ℕ) (k : Callees) (s : Stmt) (ps : List Param) (vars : List Variable) (n : Counts) → FormedStmt fs own exit true ps s → SmallSites (lower_stmt k vars n s).sites
  stmt_small fs own exit k (let_ at x w e) ps vars n h = tt
  stmt_small fs own exit k (set_field at x f e) ps vars n h = tt
  stmt_small fs own exit k (if_ at e a b) ps vars n h =
      let x = lower_block k vars (lower_expr k vars n e).next a in
      small_both x.sites (lower_block k vars x.next b).sites (block_small fs own exit k a ps vars (lower_expr k vars n e).next h.0) (block_small fs own exit k b ps vars x.next h.1)
  stmt_small fs own exit k (filter at e) ps vars n h = tt
  stmt_small fs own exit k (havoc_var at x w) ps vars n h = tt
  stmt_small fs own exit k (havoc_field at x f) ps vars n h = tt
  stmt_small fs own exit k (assume at e) ps vars n h = tt
  stmt_small fs own exit k (fork at x w e b) ps vars n h = let c : true ≡ false = h.0 in absurd (cc)
  stmt_small fs own exit k (send at r es) ps vars n h = tt

  block_small : (fs : List FunctionDecl) (own exit : List ℕ) (k : Callees) (b : Block) (ps : List Param) (vars : List Variable) (n : Counts) → Formed fs own exit true ps b → SmallSites (lower_block k vars n b).sites
  block_small fs own exit k no_stmts ps vars n h = tt
  block_small fs own exit k (stmt first rest) ps vars n h =
      let a = lower_stmt k vars n first in
      small_both a.sites (lower_block k a.vars a.next rest).sites (stmt_small fs own exit k first ps vars n h.0) (block_small fs own exit k rest (after_vars first ps) a.vars a.next h.1)

-- ---- one block, and all

pub record SitesPiece (out : Within) (n : Counts) (sites : List Site) (r : LoweredSites) : Type 0 where
  pub logged : Logged n r.made r.next
  pub kinds : MadeOk out r.made → SmallSites sites → code_fits out r.code ≡ true

rid_sort : (out : Within) (w : ℕ) → out.in_ingress ≡ false → 1 ≤ w → w ≤ 64 → p4_sort out (p_slice p_rid (w - 1) 0) ≡ Some (bits_sort w)
rid_sort out w i l m =
    let low : nat_le 0 (w - 1) ≡ true = grind arith in
    let high : nat_lt (w - 1) 64 ≡ true = grind (arith, l, m) in
    let within : (nat_le 0 (w - 1) && nat_lt (w - 1) 64) ≡ true = true_both (nat_le 0 (w - 1)) (nat_lt (w - 1) 64) low high in
    let size : w - 1 - 0 + 1 ≡ w = omega (arith, l) in
    ap (λ b. option_and_then (λ s. slice_sort s (w - 1) 0) (kept_if (not b) (bits_sort 64))) i ∙ ap (λ b. if b then Some (bits_sort (w - 1 - 0 + 1)) else None) within ∙ ap (λ v. Some (bits_sort v)) size

site_kinds : (d : Design) (i : ℕ) (own exit : List ℕ) (out : Within) (k : Callees) → Stage d i own exit out out k → out.in_ingress ≡ false → (site : Site) → SiteOk d i own exit out site → (n : Counts)
    → SitesPiece out n (site ∷ []) (lower_site k n site)
site_kinds d i own exit out k stage ingress site g n =
    let V : List ℕ → Type 0 = λ y. in_block y site.body ≡ true in
    let w = site.width in
    let vars : List Variable = record { name = site.x; expr = p_meta n.field } ∷ site.vars in
    let from : Counts = record { app = n.app; var = suc n.var; field = suc n.field; site = n.site } in
    let b = lower_block k vars from site.body in
    let ps = one_more g.x w g.params in
    let piece = block_kinds d i own exit out out k V stage true site.body ps g.typed g.formed g.wide vars (λ e. absurd (no_inside e)) (λ y j. j) from in
    record {
      logged = record { declared = (g.declared, piece.logged.declared); names = (refl, refl, piece.logged.names) };
      kinds = λ ok small.
          let at = ok.0 in
          let read : VarsOk out ps vars V = subst (λ y. VarsOk out ps (record { name = y; expr = p_meta n.field } ∷ site.vars) V) (sym g.x_is) (extend out g.params site.vars V g.x w (p_meta n.field) at g.read) in
          let inner = piece.kinds ok.1 read (block_small (reverse (functions d)) own exit k site.body ps vars from g.formed) in
          let body = code_one out (set_meta n.field (p_slice p_rid (w - 1) 0)) (with_return b.code)
          (same_of (meta_sort out.program n.field) (p4_sort out (p_slice p_rid (w - 1) 0)) (bits_sort w) at (rid_sort out w ingress (width_least w g.declared) (width_most w g.declared))) (return_fits out b.code inner.0) in
          let test = p_binary equal (p_meta 0) (p_lit 8 site.number) in
          code_one out (p_if test (block_of (set_meta n.field (p_slice p_rid (w - 1) 0) ∷ with_return b.code))) []
          (true_both (has_sort truth_sort (p4_sort out test)) (code_fits out (set_meta n.field (p_slice p_rid (w - 1) 0) ∷ with_return b.code))
          (has_of (p4_sort out test) truth_sort (equal_sort out (p_meta 0) (p_lit 8 site.number) 8 stage.site_field (lit_sort out 8 site.number refl small.0))) body) refl;
    }
  where
    no_inside : true ≡ false → ⊥
    no_inside e = absurd (cc)

pub sites_kinds : (d : Design) (i : ℕ) (own exit : List ℕ) (out : Within) (k : Callees) → Stage d i own exit out out k → out.in_ingress ≡ false → (sites : List Site) → SitesOk d i own exit out sites → (n : Counts)
    → SitesPiece out n sites (lower_sites k n sites)
sites_kinds d i own exit out k stage ingress [] g n = record { logged = logged_none n; kinds = λ ok small. refl }
sites_kinds d i own exit out k stage ingress (x ∷ xs) g n =
    let a = lower_site k n x in
    let b = lower_sites k a.next xs in
    let one = site_kinds d i own exit out k stage ingress x g.0 n in
    let more = sites_kinds d i own exit out k stage ingress xs g.1 a.next in record {
      logged = logged_both n a.next b.next a.made b.made one.logged more.logged;
      kinds = λ ok small. code_both out a.code b.code (one.kinds (made_left out a.made b.made ok) (small.0, tt)) (more.kinds (made_right out a.made b.made ok) small.1);
    }
