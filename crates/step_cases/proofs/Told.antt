-- What is told of a location and a packet: the name of a role by its declaration, and as many fields as there are widths.
use Rattle.std.proofs.Common.{◌≡◌, ℕ, suc, Bool, true, false, cond, List, [], ◌∷◌, length, Some, refl, sym, ap, ◌∙◌}
use Rattle.cocoon_num.specs.Names.{named, same_name}
use Rattle.cocoon_num.specs.PacketForms.{FieldsFit}
use Rattle.cocoon_num.specs.Tree.{Design, Role}
use Rattle.cocoon_types.specs.Design.{role_at}
use Rattle.cocoon_resolve.specs.Readers.{HasRole}
use Rattle.declarations.specs.Declares.{role_number}
use Rattle.declarations.proofs.NameFacts.{same-true}
use Rattle.role_meaning.specs.Located.{role_name}
use Rattle.step_cases.proofs.Cased.{named as numbered}

-- the first role of a name has that name
called : (x : List ℕ) (rs : List Role) (r : Role) → named (λ (a : Role). a.name) x rs ≡ Some r → x ≡ r.name.text
called x [] r e = absurd cc
called x (a ∷ rs) r e = by (called x rs r) (same_name x a.name.text) refl e
  where
    by : (named (λ (q : Role). q.name) x rs ≡ Some r → x ≡ r.name.text) → (b : Bool) → same_name x a.name.text ≡ b
        → cond b (Some a) (named (λ (q : Role). q.name) x rs) ≡ Some r → x ≡ r.name.text
    by ih true h f = let same : a ≡ r = cc in same-true x a.name.text h ∙ ap (λ (q : Role). q.name.text) same
    by ih false h f = ih f

-- a role of a level is told by the name that its latest declaration has
pub told_name : (d : Design) (role level : ℕ) → HasRole d role level → (r : Role) → ((x : List ℕ) → role_number d x ≡ Some role → role_at level d x ≡ Some r) → r.name.text ≡ role_name d role
told_name d role level h r latest =
    sym (called h.name _ r (latest h.name h.number)) ∙ sym (numbered d h.name role h.number)

pub as_many : (ws ns : List ℕ) → FieldsFit ws ns → length ns ≡ length ws
as_many [] [] h = refl
as_many (w ∷ ws) (n ∷ ns) h = ap suc (as_many ws ns h.1)
as_many [] (n ∷ ns) h = absurd h
as_many (w ∷ ws) [] h = absurd h
