-- Both controls of a program.
use Rattle.std.proofs.Common.{◌≡◌, Bor, ℕ, List, [], take, length, reverse, refl, ap, ◌∙◌}
use Rattle.std.proofs.Math.Seq.{take-length}
use Rattle.cocoon_num.specs.Tree.{Block, Design}
use Rattle.cocoon_syntax.specs.TreeOf.{design_of}
use Rattle.cocoon_syntax.specs.declared.decl.Design.{Design as Syntax}
use Rattle.cocoon_types.specs.Design.{functions}
use Rattle.cocoon_types.specs.Design.{functions as functions_of}
use Rattle.lowering.specs.Lower.{Callees, Counts, Variable, callees}
use Rattle.lowering.specs.LowerBlock.{lower_block}
use Rattle.lower_code.specs.Blocks.{BlockSoFar, with_block}
use Rattle.lower_code.specs.Scopes.{callees_in, design_in, functions_before}
use Rattle.lower_code.specs.declared.functions.Scope.{Scope}
use Rattle.lowering.specs.SwitchProgram.{egress_lowered}
use Rattle.lower_net.specs.Halves.{egress_half, HalfParts, ingress_half, of_block, of_sites, SeesAll}
use Rattle.lower_net.specs.NetDeclarations.{switch_role}
use Rattle.lower_net.specs.declared.net_declarations.Ingress.{Ingress}

-- all functions of a design, the last first
pub all-functions : (d : Design) (n : ℕ) → n ≡ length (functions d) → functions_before d n ≡ reverse (functions d)
all-functions d n h = ap (λ k. reverse (take k (functions d))) h ∙ ap reverse (take-length (functions d))

pub all-callees : (s : Scope) (i : Ingress) → SeesAll s i → callees_in s ≡ callees (design_in s).headers (reverse (functions (design_in s))) i.port.now
all-callees s i h = λ k. callees (design_in s).headers (all-functions (design_in s) s.before h.functions k) (h.port k)

abbrev pub of-so-far : BlockSoFar → HalfParts
of-so-far s = record { code = s.lowered.code; made = s.lowered.made; next = s.lowered.next; sites = s.sites }

-- a half that is lowered from nothing
pub half-step : (c : Callees) (start after : BlockSoFar) (vars : List Variable) (n : Counts) (b : Block)
    → start ≡ record { lowered = record { code = []; made = []; next = n }; vars = vars; sites = [] }
    → after ≡ with_block start (lower_block c start.vars start.lowered.next b)
    → of-so-far after ≡ of_block (lower_block c vars n b)
half-step c start after vars n b hs ha = ap of-so-far (ha ∙ (λ i. with_block (hs i) (lower_block c (hs i).vars (hs i).lowered.next b)))

-- the second half, after the first
pub egress-step : (checked : Bor Syntax) (functions : ℕ) (ingress : Ingress) (s : ℕ) → functions ≡ length (functions_of (design_of checked.now))
    → (into : HalfParts) → into ≡ ingress_half (switch_role (design_of checked.now) ingress) s
    → (out : HalfParts) → out ≡ egress_half (callees_in (record { checked = checked; before = functions; port = ingress.port })) into.next into.sites
    → out ≡ of_sites (egress_lowered (switch_role (design_of checked.now) ingress) s)
egress-step checked functions ingress s all into hi out ho =
    let scope : Scope = record { checked = checked; before = functions; port = ingress.port } in
    let sees : SeesAll scope ingress = record { functions = all; port = refl } in
    ho ∙ (λ i. egress_half (all-callees scope ingress sees i) (hi i).next (hi i).sites)
