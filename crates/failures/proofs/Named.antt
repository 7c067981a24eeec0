-- A role is told by the name that its latest declaration has.
use Rattle.std.proofs.Common.{◌≡◌, ℕ, Bool, true, false, cond, List, [], ◌∷◌, Some, refl, sym, ap, ◌∙◌}
use Rattle.cocoon_num.specs.Names.{named, same_name}
use Rattle.cocoon_num.specs.Tree.{Design, Role}
use Rattle.cocoon_types.specs.Design.{role_at}
use Rattle.cocoon_resolve.specs.Readers.{HasRole}
use Rattle.declarations.specs.Declares.{role_number}
use Rattle.role_meaning.proofs.Guards.{role_name_of}
use Rattle.role_meaning.specs.Located.{role_name}
use Rattle.sound_types.proofs.Options.{same_text}

-- the first role of a name has that name
called : (x : List ℕ) (rs : List Role) (r : Role) → named (λ (a : Role). a.name) x rs ≡ Some r → x ≡ r.name.text
called x [] r e = absurd (cc)
called x (a ∷ rs) r e = by (called x rs r) (same_name x a.name.text) refl e
  where
    by : (named (λ (q : Role). q.name) x rs ≡ Some r → x ≡ r.name.text) → (b : Bool) → same_name x a.name.text ≡ b
        → cond b (Some a) (named (λ (q : Role). q.name) x rs) ≡ Some r → x ≡ r.name.text
    by ih true h f = let same : a ≡ r = cc in same_text x a.name.text h ∙ ap (λ (q : Role). q.name.text) same
    by ih false h f = ih f

pub told_name : (d : Design) (role level : ℕ) → HasRole d role level → (r : Role) → ((x : List ℕ) → role_number d x ≡ Some role → role_at level d x ≡ Some r) → r.name.text ≡ role_name d role
told_name d role level h r latest = sym (called h.name _ r (latest h.name h.number)) ∙ sym (role_name_of d h.name role h.number)
