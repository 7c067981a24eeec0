-- Cited by the clauses of the functions here: bodies of new roles, one after another.
use Rattle.std.specs.Prelude.{ℕ, zero, suc, ◌-◌, List, [], ◌∷◌, if◌then◌else◌, Option, Some, None, option_and_then}
use Rattle.cocoon_num.specs.Packets.{Packet}
use Rattle.cocoon_num.specs.Tree.{Design}
use Rattle.cocoon_types.specs.Runs as runs
use Rattle.cocoon_types.specs.Runs.{world}
use Rattle.cocoon_types.specs.Tables.{Defs}
use Rattle.cocoon_types.specs.Taken.{go}
use Rattle.refinement.specs.Segments.{is_new}
use Rattle.role_meaning.specs.Located.{loc_of, sent_of}
use Rattle.role_meaning.specs.declared.following.Followed.{Followed}
use Rattle.role_meaning.specs.declared.following.Reached.{Reached}

-- how many bodies have run, where they have led, and the choices that are left
abbrev pub Stop : Type 0
Stop = ℕ × runs.Loc × Packet × List ℕ

-- the bodies of new roles from a location on, at most so many more: to a role that is not new, or until none may run any more
abbrev pub onward : (above : ℕ) → Design → Defs → (more bodies : ℕ) → runs.Loc → Packet → List ℕ → Option Stop
onward above d defs zero bodies at packet cs = Some (bodies, at, packet, cs)
onward above d defs (suc more) bodies at packet cs =
    if is_new above d at.role
    then option_and_then (λ (r : runs.Loc × Packet × List ℕ). onward above d defs more (suc bodies) r.0 r.1 r.2) (go (world (suc above) d defs) at packet cs)
    else Some (bodies, at, packet, cs)

-- the same behind a first body of any role
abbrev pub chain : (above : ℕ) → Design → Defs → (most : ℕ) → runs.Loc → Packet → List ℕ → Option Stop
chain above d defs most at packet cs =
    option_and_then (λ (r : runs.Loc × Packet × List ℕ). onward above d defs (most - 1) 1 r.0 r.1 r.2) (go (world (suc above) d defs) at packet cs)

-- what a value of the code stands for
abbrev pub stop_of : Design → Reached → Stop
stop_of d r = (r.bodies, loc_of d r.led.to, sent_of d r.led.packet, r.led.rest.now)

-- where a segment ends
abbrev pub end_of : Design → Followed → ℕ × runs.Loc × Packet
end_of d f = (f.bodies, loc_of d f.to, sent_of d f.sent)

-- where it stops, if no choice is left
abbrev pub if_none_left : ℕ → runs.Loc → Packet → List ℕ → Option (ℕ × runs.Loc × Packet)
if_none_left n to sent [] = Some (n, to, sent)
if_none_left n to sent (c ∷ cs) = None

abbrev pub if_whole : Option Stop → Option (ℕ × runs.Loc × Packet)
if_whole s = option_and_then (λ (x : Stop). if_none_left x.0 x.1 x.2 x.3) s
