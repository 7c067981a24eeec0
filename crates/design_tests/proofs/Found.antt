-- Roles and names that are found.
use Rattle.std.proofs.Common.{◌≡◌, ℕ, zero, suc, ◌<◌, ◌==◌, ◌&&◌, ◌||◌, Bool, true, false, Option, Some, None, IfSome, List, [], ◌∷◌, map, length, get_or, refl, sym, ap, subst, ◌∙◌, arith}
use Rattle.cocoon_num.specs.Names.{same_name}
use Rattle.cocoon_num.specs.Tree.{Design, Role}
use Rattle.cocoon_resolve.specs.Readers.{HasRole}
use Rattle.cocoon_syntax.specs.TreeOf.{name_of}
use Rattle.cocoon_syntax.specs.declared.name.Name.{Name}
use Rattle.cocoon_types.specs.Design.{role_at}
use Rattle.cocoon_types.specs.RuleParts.{has_name}
use Rattle.declarations.specs.Declares.{role_number}
use Rattle.role_meaning.proofs.Guards.{role_name_of}
use Rattle.role_meaning.specs.Located.{role_name}

-- a role that is declared at a level is there by its number
pub has_role : (d : Design) (level : ℕ) (x : List ℕ) (r : Role) (found : Option ℕ) → found ≡ role_number d x → role_at level d x ≡ Some r → IfSome found (λ role. HasRole d role level)
has_role d level x r None e there = tt
has_role d level x r (Some role) e there = record { name = x; number = sym e; latest = r; declared = there }

eq_self : (n : ℕ) → (n == n) ≡ true
eq_self n = grind arith

same_self : (x : List ℕ) → same_name x x ≡ true
same_self [] = refl
same_self (n ∷ ns) = subst (λ b. (b && same_name ns ns) ≡ true) (sym (eq_self n)) (same_self ns)

-- the number of a name has that name
pub is_named : (d : Design) (x : List ℕ) (role : ℕ) → role_number d x ≡ Some role → same_name (role_name d role) x ≡ true
is_named d x role e = ap (λ y. same_name y x) (role_name_of d x role e) ∙ same_self x

second_of : (a b : Bool) → b ≡ true → (a || b) ≡ true
second_of true b h = refl
second_of false b h = h

-- a name that stands at a place is in the list
pub has_at : (x : List ℕ) (ns : List Name) (i : ℕ) (n : Name) → i < length ns → n ≡ get_or ns i n → same_name x (name_of n).text ≡ true → has_name x (map name_of ns) ≡ true
has_at x [] i n l e h = absurd (omega arith)
has_at x (m ∷ ms) zero n l e h = ap (λ b. b || has_name x (map name_of ms)) (subst (λ k. same_name x (name_of k).text ≡ true) e h)
has_at x (m ∷ ms) (suc i) n l e h = second_of (same_name x (name_of m).text) (has_name x (map name_of ms)) (has_at x ms i n (omega arith) e h)
