-- Runs of a case of the code are those of the case that it stands for.
use Rattle.std.proofs.Common.{◌≡◌, ℕ, List, [], Some, slice_get, refl, sym, ap, subst, ◌∙◌}
use Rattle.std.specs.Option.{option_map_or}
use Rattle.cocoon_num.specs.Packets.{Packet}
use Rattle.cocoon_num.specs.Tree.{Design}
use Rattle.cocoon_types.specs.RuleParts.{roles_of}
use Rattle.cocoon_types.specs.Runs.{Go, Loc, World}
use Rattle.declarations.specs.Declares.{role_number, role_texts}
use Rattle.declarations.specs.NameNumbers.{firsts}
use Rattle.declarations.proofs.NameFacts.{index-at}
use Rattle.role_meaning.specs.Located.{loc_of, role_name}
use Rattle.role_meaning.specs.declared.place.Loc as code
use Rattle.role_values.specs.Flat.{packet_of}
use Rattle.step_cases.specs.Agrees.{IsAt, StandsFor}
use Rattle.step_cases.specs.Cases as cases
use Rattle.step_cases.specs.declared.case.Case.{Case}

-- the name of the role of a name's number is that name
pub named : (d : Design) (x : List ℕ) (n : ℕ) → role_number d x ≡ Some n → role_name d n ≡ x
named d x n e = ap (λ o. option_map_or (λ (y : List ℕ). y) o []) (index-at x (firsts (role_texts (roles_of d))) n e)

same_loc : (l : Loc) (x vs : List ℕ) → x ≡ l.role → vs ≡ l.values → record { role = x; values = vs } ≡ l
same_loc l x vs p q = ap (λ (y : List ℕ). record { role = y; values = vs }) p ∙ ap (λ (y : List ℕ). record { role = l.role; values = y }) q

pub located : (d : Design) (at : code.Loc) (role : ℕ) (values : List ℕ) (of : Loc) → at.role ≡ role → at.values ≡ values → IsAt d role values of → loc_of d at ≡ of
located d at role values of p q is = same_loc of (role_name d at.role) at.values (ap (role_name d) p ∙ named d of.role role is.role_is) (q ∙ is.values_are)

pub moved : (w : World) (a b : Loc) (p q : Packet) (cs ds : List ℕ) → a ≡ b → p ≡ q → cs ≡ ds → (to : Loc) (sent : Packet) → Go w a p cs to sent → Go w b q ds to sent
moved w a b p q cs ds e f g to sent h =
    subst (λ (x : List ℕ). Go w b q x to sent) g (subst (λ (x : Packet). Go w b x cs to sent) f (subst (λ (x : Loc). Go w x p cs to sent) e h))
