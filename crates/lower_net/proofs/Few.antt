-- Widths of fields, ports and functions are few, in designs that keep the rules and the limits.
use Rattle.std.proofs.Common.{◌≡◌, ℕ, zero, suc, ◌<◌, ◌≤◌, nat_lt, Bool, true, false, List, [], ◌∷◌, ◌++◌, length, map, get_or, Option, Some, None, if◌then◌else◌, option_and_then, refl, sym, ap, subst, arith}
use Rattle.std.specs.Prelude.{filter_map, flat_map}
use Rattle.std.proofs.lemmas.Bool.Decides.{nat_tests}
use Rattle.cocoon_num.specs.Lists.{first_of}
use Rattle.cocoon_num.specs.Sorts.{is_declared_width}
use Rattle.cocoon_num.specs.Tree.{Param, HostDecl, SwitchDecl, HeaderDecl, Design}
use Rattle.cocoon_resolve.specs.Kept.{AreDeclared}
use Rattle.cocoon_resolve.specs.Readers.{all_widths}
use Rattle.cocoon_types.specs.Design.{all_decls, as_switch, functions, host_decl, switch_decl, widths_of}
use Rattle.cocoon_types.specs.Limits.{WithinLimits, first_above}
use Rattle.cocoon_types.specs.RuleParts.{unless_named}
use Rattle.cocoon_types.specs.Rules.{WellFormed, too_wide}
use Rattle.cocoon_types.specs.TypeRules.{wide_params}
use Rattle.lowering.specs.Roles.{NetParts, ingress_role, net_parts, parts_with}
use Rattle.lowering.specs.Whole.{SwitchRole}
use Rattle.runtime_defs.proofs.ParamWidths.{nil_left, nil_right}

-- ---- counts within their limits

first-below : (m n : ℕ) (ns : List ℕ) → first_above m (n ∷ ns) ≡ None → n ≤ m
first-below m n ns e = by (nat_lt m n) refl e
  where
    by : (b : Bool) → nat_lt m n ≡ b → (if b then Some n else first_above m ns) ≡ None → n ≤ m
    by true l e = absurd cc
    by false l e = grind (arith, nat_tests, l)

pub few-functions : (d : Design) → WithinLimits d → length (functions d) ≤ 128
few-functions d h = first-below 128 (length (functions d)) [] h.1.1.1.1.0

first-has-few : (xs : List SwitchDecl) (s : SwitchDecl) → first_of xs ≡ Some s → first_above 256 (map (λ (x : SwitchDecl). x.ports) xs) ≡ None → s.ports ≤ 256
first-has-few [] s g h = absurd cc
first-has-few (x ∷ xs) s g h =
    let same : x ≡ s = cc in
    subst (λ (y : SwitchDecl). y.ports ≤ 256) same (first-below 256 x.ports (map (λ (y : SwitchDecl). y.ports) xs) h)

-- ---- the switches of the parts

with-role : (s : SwitchDecl) (h : HostDecl) (o : Option SwitchRole) (parts : NetParts) → option_and_then (λ (r : SwitchRole). Some (parts_with s h r)) o ≡ Some parts → s ≡ parts.switches
with-role s h None parts e = absurd cc
with-role s h (Some r) parts e =
    let same : parts_with s h r ≡ parts = cc in
    ap (λ (p : NetParts). p.switches) same

with-hosts : (d : Design) (s : SwitchDecl) (o : Option HostDecl) (parts : NetParts)
    → option_and_then (λ (h : HostDecl). option_and_then (λ (r : SwitchRole). Some (parts_with s h r)) (ingress_role d s)) o ≡ Some parts → s ≡ parts.switches
with-hosts d s None parts e = absurd cc
with-hosts d s (Some h) parts e = with-role s h (ingress_role d s) parts e

with-switches : (d : Design) (o : Option SwitchDecl) (parts : NetParts)
    → option_and_then (λ (s : SwitchDecl). option_and_then (λ (h : HostDecl). option_and_then (λ (r : SwitchRole). Some (parts_with s h r)) (ingress_role d s)) (host_decl d)) o ≡ Some parts
    → o ≡ Some parts.switches
with-switches d None parts e = absurd cc
with-switches d (Some s) parts e = ap Some (with-hosts d s (host_decl d) parts e)

pub few-ports : (d : Design) → WithinLimits d → (parts : NetParts) → net_parts d ≡ Some parts → parts.switches.ports ≤ 256
few-ports d h parts e = first-has-few (filter_map as_switch (all_decls d)) parts.switches (with-switches d (switch_decl d) parts e) h.1.1.0

-- ---- widths of fields

declared : (w : ℕ) (b : Bool) (p : Param) → is_declared_width w ≡ b → unless_named b p.name ≡ [] → w ≤ 64
declared w true p d e = grind (arith, nat_tests, d)
declared w false p d e = absurd cc

params-declared : (ps : List Param) → wide_params ps ≡ [] → AreDeclared (widths_of ps)
params-declared [] e = tt
params-declared (p ∷ ps) e = (
  declared p.width (is_declared_width p.width) p refl (nil_left (unless_named (is_declared_width p.width) p.name) (wide_params ps) e),
  params-declared ps (nil_right (unless_named (is_declared_width p.width) p.name) (wide_params ps) e),
)

both-declared : (xs ys : List ℕ) → AreDeclared xs → AreDeclared ys → AreDeclared (xs ++ ys)
both-declared [] ys h k = k
both-declared (x ∷ xs) ys h k = (h.0, both-declared xs ys h.1 k)

first-part : (xs ys : List ℕ) → AreDeclared (xs ++ ys) → AreDeclared xs
first-part [] ys h = tt
first-part (x ∷ xs) ys h = (h.0, first-part xs ys h.1)

second-part : (xs ys : List ℕ) → AreDeclared (xs ++ ys) → AreDeclared ys
second-part [] ys h = h
second-part (x ∷ xs) ys h = second-part xs ys h.1

headers-declared : (hs : List HeaderDecl) → flat_map (λ (h : HeaderDecl). wide_params h.fields) hs ≡ [] → AreDeclared (all_widths hs)
headers-declared [] e = tt
headers-declared (h ∷ hs) e =
    let rest = flat_map (λ (x : HeaderDecl). wide_params x.fields) hs in
    both-declared (widths_of h.fields) (all_widths hs) (params-declared h.fields (nil_left (wide_params h.fields) rest e)) (headers-declared hs (nil_right (wide_params h.fields) rest e))

-- those of a design
pub fields-declared : (d : Design) → WellFormed d → AreDeclared (all_widths d.headers)
fields-declared d w = headers-declared d.headers (nil_left _ _ (nil_left _ _ (nil_left _ _ (nil_left _ _ (w too_wide)))))

-- those of one header, by its place
pub declared-in : {A : Type 0} (f : A → HeaderDecl) (xs : List A) (i : ℕ) (x : A) → AreDeclared (all_widths (map f xs)) → i < length xs → x ≡ get_or xs i x → AreDeclared (widths_of (f x).fields)
declared-in f [] i x h l e = absurd (omega arith)
declared-in f (y ∷ ys) zero x h l e = subst (λ z. AreDeclared (widths_of (f z).fields)) (sym e) (first-part (widths_of (f y).fields) (all_widths (map f ys)) h)
declared-in f (y ∷ ys) (suc i) x h l e = declared-in f ys i x (second-part (widths_of (f y).fields) (all_widths (map f ys)) h) (omega arith) e
