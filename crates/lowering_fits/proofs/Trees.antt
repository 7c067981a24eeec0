-- What the switches of a design with a shallow tree run is shallow.
use Rattle.std.proofs.Common.{◌≡◌, inl, inr, ℕ, zero, suc, List, [], ◌∷◌, reverse, take, Option, Some, None, option_and_then, refl, sym, subst}
use Rattle.std.specs.Prelude.{flat_map, filter_map}
use Rattle.cocoon_num.specs.Tree.{Block, Param, FunctionDecl, Role, HostDecl, SwitchDecl, Decl, a_function, an_assumption, a_role, a_host, a_switch, Refine, Design}
use Rattle.cocoon_types.specs.Design.{as_function, as_role, decls_to, functions, host_decl, last_level, role_at, switch_decl}
use Rattle.p4_kinds.specs.Flat.{FlatBlock}
use Rattle.lowering.specs.Lower.{callees}
use Rattle.lowering.specs.Whole.{SwitchRole, role_lowered, role_vars}
use Rattle.lowering.specs.Roles.{NetParts, ingress_role, net_parts, parts_with, role_of_two}
use Rattle.lowering.specs.SwitchProgram.{switch_program}
use Rattle.sound_types.proofs.Members.{In, in_either, in_filter, in_reverse, named_there}
use Rattle.lowering_fits.specs.ShallowTrees.{FewInBody, ShallowBlock, ShallowBody, ShallowDecl, ShallowDecls, ShallowRefines, IsShallowTree}
use Rattle.lowering_fits.proofs.Expressions.{FewFunctions, calls_light}
use Rattle.lowering_fits.proofs.Blocks.{LightBlock, block_light, block_within, sites_flat}

-- ---- declarations

decl_in : (ds : List Decl) → ShallowDecls ds → (x : Decl) → In x ds → ShallowDecl x
decl_in [] h x i = absurd i
decl_in (d ∷ ds) h x i = elim i [ inl e ↦ subst ShallowDecl (sym e) h.0 | inr j ↦ decl_in ds h.1 x j ]

decl_in_blocks : (bs : List Refine) → ShallowRefines bs → (i : ℕ) (x : Decl) → In x (flat_map (λ (b : Refine). b.decls) (take i bs)) → ShallowDecl x
decl_in_blocks bs h zero x i = absurd i
decl_in_blocks [] h (suc n) x i = absurd i
decl_in_blocks (b ∷ bs) h (suc n) x i = elim (in_either x b.decls (flat_map (λ (b : Refine). b.decls) (take n bs)) i) [
  | inl j ↦ decl_in b.decls h.0 x j
  | inr j ↦ decl_in_blocks bs h.1 n x j
]

declared : (d : Design) → IsShallowTree d → (i : ℕ) (x : Decl) → In x (decls_to i d) → ShallowDecl x
declared d h i x j = elim (in_either x d.decls (flat_map (λ (b : Refine). b.decls) (take i d.refines)) j) [
  | inl k ↦ decl_in d.decls h.0 x k
  | inr k ↦ decl_in_blocks d.refines h.1 i x k
]

-- ---- functions

function_few : (x : Decl) (f : FunctionDecl) → as_function x ≡ Some f → ShallowDecl x → FewInBody f.body
function_few (a_function g) f e h = let same : g ≡ f = cc in subst (λ (y : FunctionDecl). FewInBody y.body) same h
function_few (an_assumption a) f e h = absurd cc
function_few (a_role r) f e h = absurd cc
function_few (a_host x) f e h = absurd cc
function_few (a_switch x) f e h = absurd cc

few_of_each : (fs : List FunctionDecl) → ((f : FunctionDecl) → In f fs → FewInBody f.body) → FewFunctions fs
few_of_each [] h = tt
few_of_each (f ∷ fs) h = (h f (inl refl), few_of_each fs (λ g i. h g (inr i)))

functions_few : (d : Design) → IsShallowTree d → FewFunctions (reverse (functions d))
functions_few d h = few_of_each (reverse (functions d)) (λ f i. of_decl f (in_filter as_function (decls_to (last_level d) d) f (in_reverse f (functions d) i)))
  where
    of_decl : (f : FunctionDecl) → (a : Decl) × In a (decls_to (last_level d) d) × (as_function a ≡ Some f) → FewInBody f.body
    of_decl f (a, i, e) = function_few a f e (declared d h (last_level d) a i)

-- ---- roles

role_shallow : (x : Decl) (r : Role) → as_role x ≡ Some r → ShallowDecl x → ShallowBody r.body
role_shallow (a_function g) r e h = absurd cc
role_shallow (an_assumption a) r e h = absurd cc
role_shallow (a_role q) r e h = let same : q ≡ r = cc in subst (λ (y : Role). ShallowBody y.body) same h.1
role_shallow (a_host x) r e h = absurd cc
role_shallow (a_switch x) r e h = absurd cc

declared_role : (d : Design) → IsShallowTree d → (i : ℕ) (x : List ℕ) (r : Role) → role_at i d x ≡ Some r → ShallowBody r.body
declared_role d h i x r e =
    of_decl (in_filter as_role (decls_to i d) r (in_reverse r (filter_map as_role (decls_to i d)) (named_there (λ (y : Role). y.name) x (reverse (filter_map as_role (decls_to i d))) r e).0))
  where
    of_decl : (a : Decl) × In a (decls_to i d) × (as_role a ≡ Some r) → ShallowBody r.body
    of_decl (a, j, f) = role_shallow a r f (declared d h i a j)

-- ---- parts

after_there : {A B : Type 0} (f : A → Option B) (o : Option A) (b : B) → option_and_then f o ≡ Some b → (a : A) × (o ≡ Some a) × (f a ≡ Some b)
after_there f None b h = absurd cc
after_there f (Some a) b h = (a, refl, h)

-- what is asked of a role of switches
record ShallowRole (r : SwitchRole) : Type 0 where
  few : FewFunctions r.functions
  body : ShallowBlock 64 r.body

role_of_two_shallow : (d : Design) (ps : List Param) (b : Option Block) (r : SwitchRole) → FewFunctions (reverse (functions d)) → ShallowBody b → role_of_two d ps b ≡ Some r → ShallowRole r
role_of_two_shallow d (s ∷ p ∷ []) (Some b) r f h e =
    let same : record { headers = d.headers; functions = reverse (functions d); switch = s.name.text; port = p.name.text; body = b } ≡ r = cc in
    subst ShallowRole same (record { few = f; body = h })
role_of_two_shallow d _ _ r f h e = absurd cc

ingress_shallow : (d : Design) → IsShallowTree d → (s : SwitchDecl) (r : SwitchRole) → ingress_role d s ≡ Some r → ShallowRole r
ingress_shallow d h s r e = of_role (after_there (λ (r : Role). role_of_two d r.params r.body) (role_at (last_level d) d s.into.text) r e)
  where
    of_role : (a : Role) × (role_at (last_level d) d s.into.text ≡ Some a) × (role_of_two d a.params a.body ≡ Some r) → ShallowRole r
    of_role (a, i, k) = role_of_two_shallow d a.params a.body r (functions_few d h) (declared_role d h (last_level d) s.into.text a i) k

parts_shallow : (d : Design) → IsShallowTree d → (parts : NetParts) → net_parts d ≡ Some parts → ShallowRole parts.role
parts_shallow d h parts e = by_switch (after_there _ (switch_decl d) parts e)
  where
    by_role : (s : SwitchDecl) (x : HostDecl) → (r : SwitchRole) × (ingress_role d s ≡ Some r) × (Some (parts_with s x r) ≡ Some parts) → ShallowRole parts.role
    by_role s x (r, i, k) = let same : parts_with s x r ≡ parts = cc in subst (λ (p : NetParts). ShallowRole p.role) same (ingress_shallow d h s r i)

    by_host : (s : SwitchDecl) → (x : HostDecl) × (host_decl d ≡ Some x) × (option_and_then (λ role. Some (parts_with s x role)) (ingress_role d s) ≡ Some parts) → ShallowRole parts.role
    by_host s (x, i, k) = by_role s x (after_there _ (ingress_role d s) parts k)

    by_switch : (s : SwitchDecl) × (switch_decl d ≡ Some s) × (option_and_then (λ hosts. option_and_then (λ role. Some (parts_with s hosts role)) (ingress_role d s)) (host_decl d) ≡ Some parts) → ShallowRole parts.role
    by_switch (s, i, k) = by_host s (after_there _ (host_decl d) parts k)

-- ---- programs

role_light : (r : SwitchRole) (s : ℕ) → ShallowRole r → LightBlock 64 (role_lowered r s)
role_light r s h = block_light (callees r.headers r.functions r.port) (calls_light r.headers r.functions r.port h.few) (role_vars r s) (refl, (refl, tt)) _ r.body 64 h.body

-- the two bodies of a switch's program
pub program_flat : (d : Design) → IsShallowTree d → (parts : NetParts) → net_parts d ≡ Some parts → (s : ℕ)
    → FlatBlock 66 (switch_program parts.role s).ingress.body × FlatBlock 66 (switch_program parts.role s).egress.body
program_flat d h parts e s =
    let r = parts.role in
    let c = callees r.headers r.functions r.port in
    let k = parts_shallow d h parts e in
    let g = calls_light r.headers r.functions r.port k.few in
    let more : LightBlock 65 (role_lowered r s) = block_light c g (role_vars r s) (refl, (refl, tt)) _ r.body 65 (block_within r.body 64 k.body) in
    (more.code, sites_flat c g (role_lowered r s).next (role_lowered r s).sites 64 (role_light r s k).sites)
