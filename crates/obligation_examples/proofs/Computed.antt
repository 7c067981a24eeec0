-- Runs that are computed, and segments that are put together of them.
use Rattle.std.proofs.Common.{◌≡◌, ℕ, suc, List, [], true, Some, refl, sym, subst, ◌∙◌}
use Rattle.std.proofs.lemmas.List.{append-nil}
use Rattle.cocoon_num.specs.Packets.{Packet}
use Rattle.cocoon_num.specs.Tree.{Refine, Design}
use Rattle.cocoon_types.specs.Runs.{Loc, World, Go, world}
use Rattle.cocoon_types.specs.Tables.{Defs}
use Rattle.cocoon_types.specs.Taken.{RunsAreTaken, Used, go}
use Rattle.refinement.specs.Segments.{IsRefined, Segment, Through, is_new}

-- a run that is computed, and uses all choices
pub computed : RunsAreTaken → (w : World) (from : Loc) (packet : Packet) (cs : List ℕ) (to : Loc) (sent : Packet) → go w from packet cs ≡ Some (to, sent, []) → Go w from packet cs to sent
computed taken w from packet cs to sent h =
    let t : Used cs [] (λ used. Go w from packet used to sent) = taken.gives w from packet cs to sent [] h in
    subst (λ xs. Go w from packet xs to sent) (sym (t.1 ∙ append-nil t.0)) t.2

-- no body
pub stops : (above : ℕ) (d : Design) (defs : Defs) (from : Loc) (packet : Packet) → Through above d defs from packet [] 0 from packet
stops above d defs from packet = (refl, refl, refl)

-- one more body of a new role before others, all without choices
pub passes : RunsAreTaken → (above : ℕ) (d : Design) (defs : Defs) (from mid : Loc) (packet : Packet) (n : ℕ) (to : Loc) (sent : Packet)
    → is_new above d from.role ≡ true → go (world (suc above) d defs) from packet [] ≡ Some (mid, packet, []) → Through above d defs mid packet [] n to sent → Through above d defs from packet [] (suc n) to sent
passes taken above d defs from mid packet n to sent new h t = (new, (mid, packet, [], [], computed taken (world (suc above) d defs) from packet [] mid packet h, t, refl))

-- the body of a refined role before others
pub begins : RunsAreTaken → (above : ℕ) (d : Design) (block : Refine) (defs : Defs) (from mid : Loc) (packet : Packet) (n : ℕ) (to : Loc) (sent : Packet)
    → IsRefined block from → go (world (suc above) d defs) from packet [] ≡ Some (mid, packet, []) → Through above d defs mid packet [] n to sent → Segment above d block defs from packet [] (suc n) to sent
begins taken above d block defs from mid packet n to sent listed h t = (listed, (mid, packet, [], [], computed taken (world (suc above) d defs) from packet [] mid packet h, t, refl))
