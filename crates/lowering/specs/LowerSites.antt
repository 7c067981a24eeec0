-- Cited by `copy_ends`, `sites_settle` and the clause of `lower_sites`. The blocks of forks, in the egress control:
-- one `if` for each, over the number in `site`.
use Rattle.std.specs.Prelude.{◌≡◌, ◌⊎◌, ℕ, suc, ◌-◌, Bool, true, false, List, [], ◌∷◌, ◌++◌, if◌then◌else◌}
use Rattle.cocoon_num.specs.Values.{equal}
use Rattle.p4_ir.specs.P4Tree.{P4Expr, p_port, p_lit, p_rid, p_meta, p_binary, p_slice, P4Stmt, set_meta, p_if, p_return}
use Rattle.lowering.specs.Lower.{Counts, Made, a_field, var_name, Variable, Callees}
use Rattle.lowering.specs.LowerBlock.{Site, in_block, LoweredBlock, lower_block}
use Rattle.p4_ir.specs.Program.{block_of}

abbrev pub is_return : P4Stmt → Bool
is_return p_return = true
is_return _ = false

-- it ends with `return;`, which never stands twice
abbrev pub with_return : List P4Stmt → List P4Stmt
with_return [] = p_return ∷ []
with_return (x ∷ []) = if is_return x then x ∷ [] else x ∷ p_return ∷ []
with_return (x ∷ y ∷ ys) = x ∷ with_return (y ∷ ys)

pub record LoweredSites : Type 0 where
  pub code : List P4Stmt
  pub made : List Made
  pub next : Counts

abbrev pub site_code : Site → Counts → LoweredBlock → LoweredSites
site_code site n b = record {
  code = p_if (p_binary equal (p_meta 0) (p_lit 8 site.number)) (block_of (set_meta n.field (p_slice p_rid (site.width - 1) 0) ∷ with_return b.code)) ∷ [];
  made = a_field (var_name n.var) n.field site.width ∷ b.made;
  next = b.next;
}

abbrev pub lower_site : Callees → Counts → Site → LoweredSites
lower_site c n site = site_code site n (lower_block c (record { name = site.x; expr = p_meta n.field } ∷ site.vars)
    (record { app = n.app; var = suc n.var; field = suc n.field; site = n.site }) site.body)

abbrev pub more_sites : LoweredSites → LoweredSites → LoweredSites
more_sites a b = record { code = a.code ++ b.code; made = a.made ++ b.made; next = b.next }

abbrev pub then_sites : LoweredSites → (Counts → LoweredSites) → LoweredSites
then_sites a b = more_sites a (b a.next)

abbrev pub lower_sites : Callees → Counts → List Site → LoweredSites
lower_sites c n [] = record { code = []; made = []; next = n }
lower_sites c n (x ∷ xs) = then_sites (lower_site c n x) (λ k. lower_sites c k xs)

-- ---- what is read alike in both controls

abbrev pub IsStill : P4Expr → Type 0
IsStill (p_lit w n) = Unit {0}
IsStill (p_meta i) = Unit {0}
IsStill _ = ⊥

-- each variable is read alike in both controls, but for the port under its own name
abbrev pub PortOnly : List ℕ → List Variable → Type 0
PortOnly port [] = Unit {0}
PortOnly port (v ∷ vars) = (IsStill v.expr ⊎ ((v.name ≡ port) × (v.expr ≡ p_port))) × PortOnly port vars

-- the variables that are wanted are read alike in both controls
abbrev pub Settled : (List ℕ → Type 0) → List Variable → Type 0
Settled V [] = Unit {0}
Settled V (v ∷ vars) = (V v.name → IsStill v.expr) × Settled V vars

-- the names that a fork's block uses
abbrev pub InSite : Site → List ℕ → Type 0
InSite site x = in_block x site.body ≡ true

abbrev pub AllSettled : List Site → Type 0
AllSettled [] = Unit {0}
AllSettled (x ∷ xs) = Settled (InSite x) x.vars × AllSettled xs
