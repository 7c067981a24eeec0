-- The names of roles, and counts as they are reported.
use Rattle.std.proofs.Common.{◌≡◌, ℕ, ◌<◌, ◌≤◌, arith, ◌==◌, ◌&&◌, eqb-true, List, [], ◌∷◌, filter_map, reverse, Bool, true, false, Some, if◌then◌else◌, refl, sym, ap, ◌∙◌}
use Rattle.cocoon_num.specs.Names.{named, same_name}
use Rattle.cocoon_num.specs.Tree.{Role, Design}
use Rattle.cocoon_types.specs.Design.{as_role, decls_to, role_at}
use Rattle.cocoon_types.specs.Limits.{reported}
use Rattle.obligation_gen.specs.CountedTrees.{most_leaves}

both_true : (a b : Bool) → (a && b) ≡ true → (a ≡ true) × (b ≡ true)
both_true true b h = (refl, h)
both_true false b h = absurd (cc)

same_true : (x y : List ℕ) → same_name x y ≡ true → x ≡ y
same_true [] [] h = refl
same_true [] (b ∷ y) h = absurd (cc)
same_true (a ∷ x) [] h = absurd (cc)
same_true (a ∷ x) (b ∷ y) h =
    let t = both_true (a == b) (same_name x y) h in
    λ j. eqb-true a b t.0 j ∷ same_true x y t.1 j

found_name : (x : List ℕ) (rs : List Role) (r : Role) → named (λ (r : Role). r.name) x rs ≡ Some r → r.name.text ≡ x
found_name x [] r e = absurd (cc)
found_name x (q ∷ rs) r e = by (same_name x q.name.text) refl (found_name x rs r) e
  where
    by : (b : Bool) → same_name x q.name.text ≡ b → (named (λ (r : Role). r.name) x rs ≡ Some r → r.name.text ≡ x) → (if b then Some q else named (λ (r : Role). r.name) x rs) ≡ Some r → r.name.text ≡ x
    by true s later h = let e : q ≡ r = cc in ap (λ (z : Role). z.name.text) (sym e) ∙ sym (same_true x q.name.text s)
    by false s later h = later h

-- a role that is found by a name has it
pub role_named : (level : ℕ) (d : Design) (x : List ℕ) (r : Role) → role_at level d x ≡ Some r → r.name.text ≡ x
role_named level d x r e = found_name x (reverse (filter_map as_role (decls_to level d))) r e

-- ---- counts

pub too_many : (n count : ℕ) → n ≡ reported count → 4096 < n → most_leaves < count
too_many n count e l = omega (arith, e, l)

pub few_enough : (n count : ℕ) → n ≡ reported count → n ≤ 4096 → count ≤ most_leaves
few_enough n count e l = omega (arith, e, l)
