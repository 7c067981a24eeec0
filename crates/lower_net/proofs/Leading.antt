-- Where wires lead, without choices, and the names of roles.
use Rattle.std.proofs.Common.{◌≡◌, ℕ, ◌==◌, Bool, true, false, List, [], ◌∷◌, ◌++◌, Option, Some, None, option_map, refl, sym, ap, ◌∙◌, arith}
use Rattle.cocoon_num.specs.Names.{same_name}
use Rattle.cocoon_num.specs.Packets as packets
use Rattle.std.specs.Prelude.{IfSome}
use Rattle.cocoon_num.specs.Tree.{Design, Role}
use Rattle.cocoon_types.specs.Design.{last_level, layout, role_at}
use Rattle.std.proofs.lemmas.Bool.Decides.{nat_tests}
use Rattle.lowering_correct.specs.Wires as spec
use Rattle.role_values.specs.Worlds.{world_by}
use Rattle.runtime_defs.proofs.Looking.{number-is}
use Rattle.runtime_defs.specs.Places.{Places}
use Rattle.declarations.specs.Declares.{Declares}
use Rattle.declarations.specs.declared.tables.Declarations.{Declarations}
use Rattle.declarations.proofs.NameFacts.{same-refl, same-true}
use Rattle.declarations.proofs.ReaderFacts.{role-none}
use Rattle.lower_net.specs.Led.{IsDeclared}
use Rattle.cocoon_types.specs.Runs as runs
use Rattle.cocoon_types.specs.Runs.{World}
use Rattle.cocoon_types.specs.Taken.{Reached, RunsAreTaken, go}
use Rattle.declarations.specs.Declares.{role_number}
use Rattle.role_meaning.specs.Goings.{all_taken, went_of}
use Rattle.role_meaning.specs.Located.{loc_of, role_name}
use Rattle.role_meaning.specs.declared.place.Loc.{Loc}
use Rattle.role_meaning.specs.declared.place.Packet.{Packet}
use Rattle.role_meaning.proofs.Guards.{role_name_of}

-- whether the number is there
abbrev pub IsSame : Bool → Option ℕ → ℕ → Type 0
IsSame true o n = o ≡ Some n
IsSame false o n = o ≡ Some n → ⊥

none_used : (used cs : List ℕ) (c : ℕ) → [] ≡ used ++ c ∷ cs → ⊥
none_used [] cs c h = cc
none_used (x ∷ used) cs c h = cc

abbrev ends_at : runs.Loc × packets.Packet → runs.Loc
ends_at x = x.0

abbrev led_to : runs.Loc × packets.Packet × List ℕ → runs.Loc
led_to x = x.0

by_reached : (t : RunsAreTaken) (w : World) (at : runs.Loc) (packet : packets.Packet) (r : Reached) → go w at packet [] ≡ r → option_map ends_at (all_taken r) ≡ option_map led_to r
by_reached t w at packet None h = refl
by_reached t w at packet (Some (to, sent, [])) h = refl
by_reached t w at packet (Some (to, sent, c ∷ cs)) h =
    let used = t.gives w at packet [] to sent (c ∷ cs) h in
    absurd (none_used used.0 cs c used.1)

-- a run without choices leaves none
pub all_led : (t : RunsAreTaken) (w : World) (at : runs.Loc) (packet : packets.Packet) → option_map ends_at (all_taken (go w at packet [])) ≡ option_map led_to (go w at packet [])
all_led t w at packet = by_reached t w at packet (go w at packet []) refl

-- the location that was reached
pub located : (d : Design) (r : Option (Loc × Packet)) → option_map (loc_of d) (option_map (λ (x : Loc × Packet). x.0) r) ≡ option_map ends_at (option_map (went_of d) r)
located d None = refl
located d (Some x) = refl

-- ---- roles

pub some_declared : (d : Design) (x : List ℕ) (role : Role) (r : Option ℕ) → r ≡ role_number d x → role_at (last_level d) d x ≡ Some role → IfSome r (λ n. IsDeclared d x n)
some_declared d x role None h k = tt
some_declared d x role (Some n) h k = record { number = sym h; role = role; declared = k }

-- a role that is declared has a number
pub never_none : (d : Design) (x : List ℕ) (t : Declarations) → Declares t d → (role : Role) → role_at (last_level d) d x ≡ Some role → role_number d x ≡ None
    → role_at (last_level d) d x ≡ None
never_none d x t h role k e = role-none t.decls.roles d h.decls.roles (last_level d) x e

-- the number of a role is that of its name alone
role_test : (d : Design) (name x : List ℕ) (role : ℕ) → role_number d name ≡ Some role → (b : Bool) → same_name (role_name d role) x ≡ b
    → (o : Option ℕ) → role_number d x ≡ o → (e : Bool) → IsSame e o role → e ≡ b
role_test d name x role h true s o k true i = refl
role_test d name x role h true s o k false i =
    let same : name ≡ x = sym (role_name_of d name role h) ∙ same-true (role_name d role) x s in
    absurd (i (sym k ∙ ap (role_number d) (sym same) ∙ h))
role_test d name x role h false s o k true i =
    let same : role_name d role ≡ x = role_name_of d x role (k ∙ i) in
    absurd (both (same_name (role_name d role) x) s (ap (λ y. same_name (role_name d role) y) (sym same) ∙ same-refl (role_name d role)))
  where
    both : (a : Bool) → a ≡ false → a ≡ true → ⊥
    both true p q = cc
    both false p q = cc
role_test d name x role h false s o k false i = refl

pub role_same : (d : Design) (name x : List ℕ) (role : ℕ) → role_number d name ≡ Some role → (e : Bool) → IsSame e (role_number d x) role → e ≡ same_name (role_name d role) x
role_same d name x role h e i = role_test d name x role h (same_name (role_name d role) x) refl (role_number d x) refl e i

same-by : (o : Option ℕ) (n role : ℕ) → o ≡ Some n → (b : Bool) → (n == role) ≡ b → IsSame b o role
same-by o n role h true e = h ∙ ap Some (number-is n role e)
same-by o n role h false e = λ k. let same : n ≡ role = cc (h, k) in differs n role same e
  where
    differs : (n role : ℕ) → n ≡ role → (n == role) ≡ false → ⊥
    differs n role s e = grind (arith, nat_tests, s, e)

pub same_number : (o : Option ℕ) (n role : ℕ) → o ≡ Some n → IsSame (n == role) o role
same_number o n role h = same-by o n role h (n == role) refl

-- ---- wires

-- where a wire leads, by its run
pub leads_to : (t : RunsAreTaken) (d : Design) (places : Places) (level : ℕ) (at : runs.Loc) (packet : packets.Packet) (r : Option (Loc × Packet)) → level ≡ last_level d → packet ≡ spec.idle (layout d)
    → option_map (went_of d) r ≡ all_taken (go (world_by places level d) at packet []) → option_map (loc_of d) (option_map (λ (x : Loc × Packet). x.0) r) ≡ spec.led d places at
leads_to t d places level at packet r hl hp h =
    located d r ∙ ap (option_map ends_at) h ∙ all_led t (world_by places level d) at packet
    ∙ (λ i. option_map led_to (go (world_by places (hl i) d) at (hp i) []))
