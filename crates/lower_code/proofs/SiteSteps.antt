-- The blocks of forks, one by one.
use Rattle.std.proofs.Common.{◌≡◌, ℕ, suc, ◌-◌, Bool, true, false, List, [], ◌∷◌, ◌++◌, if◌then◌else◌, refl, sym, ap, ◌∙◌}
use Rattle.std.proofs.lemmas.List.{append_assoc}
use Rattle.cocoon_num.specs.Values.{equal}
use Rattle.p4_ir.specs.P4Tree.{P4Expr, P4Stmt, p_binary, p_if, p_lit, p_meta, p_return, p_rid, p_slice, set_meta}
use Rattle.p4_ir.specs.Program.{block_of}
use Rattle.lowering.specs.Lower.{Callees, Counts, a_field, var_name}
use Rattle.lowering.specs.LowerBlock.{Site, lower_block}
use Rattle.lowering.specs.LowerSites.{LoweredSites, is_return, lower_site, then_sites, with_return}
use Rattle.lower_code.specs.Blocks.{BlockSoFar, with_block, with_sites}
use Rattle.lower_code.specs.Growth.{Counted, SoFar, with_variable}
use Rattle.lower_code.proofs.Steps.{grown_twice}

choice_at : (b : Bool) (x : P4Stmt) → (if b then x ∷ [] else x ∷ p_return ∷ []) ≡ (if b then x ∷ [] else (x ∷ [] ++ (p_return ∷ [])))
choice_at true x = refl
choice_at false x = refl

choice_under : (b : Bool) (x : P4Stmt) (xs ys : List P4Stmt) → x ∷ (if b then xs else ys) ≡ (if b then x ∷ xs else x ∷ ys)
choice_under true x xs ys = refl
choice_under false x xs ys = refl

pub return_last : (xs : List P4Stmt) (x : P4Stmt) → with_return (xs ++ x ∷ []) ≡ (if is_return x then xs ++ x ∷ [] else ((xs ++ x ∷ []) ++ (p_return ∷ [])))
return_last [] x = choice_at (is_return x) x
return_last (y ∷ []) x = ap (λ (zs : List P4Stmt). y ∷ zs) (return_last [] x) ∙ choice_under (is_return x) y (x ∷ []) (x ∷ p_return ∷ [])
return_last (y ∷ z ∷ xs) x = ap (λ (zs : List P4Stmt). y ∷ zs) (return_last (z ∷ xs) x) ∙ choice_under (is_return x) y (z ∷ xs ++ x ∷ []) ((z ∷ xs ++ x ∷ []) ++ (p_return ∷ []))

set_before : (i : ℕ) (e : P4Expr) (xs : List P4Stmt) → with_return (set_meta i e ∷ xs) ≡ set_meta i e ∷ with_return xs
set_before i e [] = refl
set_before i e (x ∷ xs) = refl

pub site_step : (c : Callees) (s : SoFar) (site : Site) (f : ℕ) (made : Counted) (inner after : BlockSoFar) (member whole code : List P4Stmt)
    → f ≡ s.next.field → made ≡ with_variable (record { made = s.made; next = s.next }) site.width
    → member ≡ set_meta f (p_slice p_rid (site.width - 1) 0) ∷ []
    → inner ≡ record { lowered = record { code = member; made = made.made; next = made.next }; vars = record { name = site.x; expr = p_meta f } ∷ site.vars; sites = [] }
    → after ≡ with_block inner (lower_block c inner.vars inner.lowered.next site.body)
    → whole ≡ with_return after.lowered.code
    → code ≡ s.code ++ (p_if (p_binary equal (p_meta 0) (p_lit 8 site.number)) (block_of whole) ∷ [])
    → record { code = code; made = after.lowered.made; next = after.lowered.next } ≡ with_sites s (lower_site c s.next site)
site_step c s site f made inner after member whole code hf hm hs hi ha hw hc =
    let test = p_binary equal (p_meta 0) (p_lit 8 site.number) in
    let n : Counts = record { app = s.next.app; var = suc s.next.var; field = suc s.next.field; site = s.next.site } in
    let cut = λ (k : ℕ). set_meta k (p_slice p_rid (site.width - 1) 0) ∷ [] in
    let vars = λ (k : ℕ). record { name = site.x; expr = p_meta k } ∷ site.vars in
    let start : inner ≡ record { lowered = record { code = cut s.next.field; made = s.made ++ a_field (var_name s.next.var) s.next.field site.width ∷ []; next = n }; vars = vars s.next.field; sites = [] } =
    hi ∙ (λ i. record { lowered = record { code = (hs ∙ ap cut hf) i; made = (hm i).made; next = (hm i).next }; vars = vars (hf i); sites = [] }) in
    let b = lower_block c (vars s.next.field) n site.body in
    let done : after ≡ with_block (record { lowered = record { code = cut s.next.field; made = s.made ++ a_field (var_name s.next.var) s.next.field site.width ∷ []; next = n }; vars = vars s.next.field; sites = [] }) b =
    ha ∙ (λ i. with_block (start i) (lower_block c (start i).vars (start i).lowered.next site.body)) in
    (λ i. record {
      code = (hc ∙ ap (λ xs. s.code ++ (p_if test (block_of xs) ∷ [])) hw) i;
      made = after.lowered.made;
      next = after.lowered.next;
    })
    ∙ (λ i. record { code = s.code ++ (p_if test (block_of (with_return (done i).lowered.code)) ∷ []); made = (done i).lowered.made; next = (done i).lowered.next })
    ∙ (λ i. record {
      code = s.code ++ (p_if test (block_of (set_before s.next.field (p_slice p_rid (site.width - 1) 0) b.code i)) ∷ []);
      made = append_assoc s.made (a_field (var_name s.next.var) s.next.field site.width ∷ []) b.made i;
      next = b.next;
    })

pub sites_step : (s t : SoFar) (a : LoweredSites) (g : Counts → LoweredSites) → t ≡ with_sites s a → with_sites s (then_sites a g) ≡ with_sites t (g t.next)
sites_step s t a g h =
    let b = g a.next in
    sym ((λ i. with_sites (h i) (g (h i).next)) ∙ grown_twice s a.code b.code a.made b.made a.next b.next)
