-- What the rules and the limits say of the fields of a design.
use Rattle.std.proofs.Common.{◌≡◌, ℕ, ◌+◌, ◌≤◌, Bool, true, false, List, [], ◌∷◌, ◌++◌, map, length, Some, None, refl, ap₂, ◌∙◌, arith, nat_lt, if◌then◌else◌, length-append}
use Rattle.std.proofs.lemmas.Bool.Decides.{nat_tests}
use Rattle.std.specs.Prelude.{flat_map}
use Rattle.std.proofs.lemmas.List.{length-map}
use Rattle.cocoon_num.specs.Packets.{total}
use Rattle.cocoon_num.specs.Sorts.{is_declared_width}
use Rattle.cocoon_num.specs.Tree.{Param, HeaderDecl, Design}
use Rattle.cocoon_types.specs.Design.{widths_of}
use Rattle.cocoon_types.specs.Limits.{WithinLimits, first_above}
use Rattle.cocoon_types.specs.RuleParts.{unless}
use Rattle.cocoon_types.specs.Rules.{WellFormed, too_wide}
use Rattle.cocoon_types.specs.Sites.{StmtSite, DeclSite, decl_sites, params_of, bound_by, all_stmts, all_exprs}
use Rattle.cocoon_types.specs.TypeRules.{wide_params, wide_result, wide_in_expr}
use Rattle.cocoon_resolve.specs.Kept.{AreDeclared}
use Rattle.cocoon_resolve.specs.Readers.{all_widths, field_widths}

nothing-before : {A : Type 0} (xs ys : List A) → xs ++ ys ≡ [] → xs ≡ []
nothing-before [] ys e = refl
nothing-before (x ∷ xs) ys e = absurd cc

nothing-behind : {A : Type 0} (xs ys : List A) → xs ++ ys ≡ [] → ys ≡ []
nothing-behind [] ys e = e
nothing-behind (x ∷ xs) ys e = absurd cc

declared : (w : ℕ) (b : Bool) (at : ℕ) → is_declared_width w ≡ b → unless b at ≡ [] → w ≤ 64
declared w true at d e = grind (arith, nat_tests, d)
declared w false at d e = absurd cc

params-declared : (ps : List Param) → wide_params ps ≡ [] → AreDeclared (widths_of ps)
params-declared [] e = tt
params-declared (p ∷ ps) e = (
  declared p.width (is_declared_width p.width) p.name.at refl (nothing-before (unless (is_declared_width p.width) p.name.at) (wide_params ps) e),
  params-declared ps (nothing-behind (unless (is_declared_width p.width) p.name.at) (wide_params ps) e),
)

both-declared : (xs ys : List ℕ) → AreDeclared xs → AreDeclared ys → AreDeclared (xs ++ ys)
both-declared [] ys h k = k
both-declared (x ∷ xs) ys h k = (h.0, both-declared xs ys h.1 k)

headers-declared : (hs : List HeaderDecl) → flat_map (λ (h : HeaderDecl). wide_params h.fields) hs ≡ [] → AreDeclared (all_widths hs)
headers-declared [] e = tt
headers-declared (h ∷ hs) e = both-declared (widths_of h.fields) (all_widths hs)
    (params-declared h.fields (nothing-before (wide_params h.fields) (flat_map (λ (h : HeaderDecl). wide_params h.fields) hs) e))
    (headers-declared hs (nothing-behind (wide_params h.fields) (flat_map (λ (h : HeaderDecl). wide_params h.fields) hs) e))

nothing-first : (a b c d e : List ℕ) → a ++ b ++ c ++ d ++ e ≡ [] → a ≡ []
nothing-first [] b c d e h = refl
nothing-first (x ∷ a) b c d e h = absurd cc

-- the widths of a design's fields
pub fields-declared : (d : Design) → WellFormed d → AreDeclared (field_widths d)
fields-declared d h = headers-declared d.headers (nothing-first (flat_map (λ (h : HeaderDecl). wide_params h.fields) d.headers)
    (flat_map (λ (s : DeclSite). wide_params (params_of s.decl)) (decl_sites d)) (flat_map wide_result (decl_sites d))
    (flat_map (λ (s : StmtSite). wide_params (bound_by s.s)) (all_stmts d)) (flat_map wide_in_expr (all_exprs d)) (h too_wide))

below : (m n : ℕ) → first_above m (n ∷ []) ≡ None → n ≤ m
below m n e = by (nat_lt m n) refl e
  where
    by : (b : Bool) → nat_lt m n ≡ b → (if b then Some n else None) ≡ None → n ≤ m
    by true l e = absurd cc
    by false l e = grind (arith, nat_tests, l)

count-fields : (hs : List HeaderDecl) → length (all_widths hs) ≡ total (map (λ (h : HeaderDecl). length h.fields) hs)
count-fields [] = refl
count-fields (h ∷ hs) = length-append (widths_of h.fields) (all_widths hs) ∙ ap₂ (◌+◌) (length-map h.fields (λ (p : Param). p.width)) (count-fields hs)

-- how many fields a design has
pub few-fields : (d : Design) → WithinLimits d → length (field_widths d) ≤ 64
few-fields d h = by (count-fields d.headers) (below 64 (total (map (λ (h : HeaderDecl). length h.fields) d.headers)) h.1.1.1.1.1.1.1.1.0)
  where
    by : {m n : ℕ} → m ≡ n → n ≤ 64 → m ≤ 64
    by e l = omega arith
