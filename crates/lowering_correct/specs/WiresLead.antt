-- Cited by the law of wires: the body of a wire leads alike with every packet, and hands on packet and choices. It follows the
-- sections "Levels" and "A body's run" of docs/LANGUAGE.md.
use Rattle.std.specs.Prelude.{◌≡◌, ℕ, true, List, Some, None, option_map}
use Rattle.cocoon_num.specs.Packets.{Packet}
use Rattle.cocoon_num.specs.Tree.{HostDecl, SwitchDecl, Design}
use Rattle.cocoon_types.specs.Design.{last_level, role_at}
use Rattle.cocoon_types.specs.FormRules.{is_wire, wire_send}
use Rattle.cocoon_types.specs.Runs.{Loc, World}
use Rattle.cocoon_types.specs.Taken.{Reached, go}
use Rattle.cocoon_types.specs.Val.{Context}

-- the last level, with expressions that are evaluated so
abbrev pub last_level_in : Design → Context → World
last_level_in d c = record { context = c; role = role_at (last_level d) d }

-- to the same location, with this packet and these choices
abbrev pub carried : Packet → List ℕ → Reached → Reached
carried packet choices r = option_map (λ (x : Loc × Packet × List ℕ). (x.0, packet, choices)) r

-- where something is reached, a wire of this name may send there
abbrev pub MayReach : HostDecl → SwitchDecl → (wire : List ℕ) → Reached → Type 0
MayReach h s wire None = Unit {0}
MayReach h s wire (Some r) = wire_send h s (record { at = 0; text = wire }) (record { at = 0; text = r.0.role }) ≡ true

-- With any two packets and lists of choices a wire leads to one location, with what came, and to one that it may send to.
abbrev pub WiresLead : Design → HostDecl → SwitchDecl → Type 0
WiresLead d h s = (c : Context) (at : Loc) → is_wire h s (record { at = 0; text = at.role }) ≡ true
    → (packet other : Packet) (choices others : List ℕ)
    → (go (last_level_in d c) at packet choices ≡ carried packet choices (go (last_level_in d c) at other others))
    × MayReach h s at.role (go (last_level_in d c) at packet choices)
