-- Bodies run at locations that fit, and keep packets fitting.
use Rattle.std.proofs.Common.{◌≡◌, ℕ, ◌^◌, List, [], ◌∷◌, Bool, true, false, cond, Option, Some, None, option_map, refl, sym, ap, subst, ◌∙◌}
use Rattle.std.proofs.lemmas.Bool.{ltb-true}
use Rattle.std.proofs.lemmas.List.{append-nil}
use Rattle.cocoon_num.specs.PacketForms.{FieldsFit, PacketFits}
use Rattle.cocoon_num.specs.Packets.{Packet}
use Rattle.cocoon_num.specs.Tree.{Param, Design}
use Rattle.cocoon_num.specs.Values.{fits_width, number}
use Rattle.cocoon_types.specs.Design.{layout, widths_of}
use Rattle.cocoon_types.specs.Runs.{Loc, CanStand, Go, world}
use Rattle.cocoon_types.specs.Tables.{Defs}
use Rattle.cocoon_types.specs.Taken.{RunsAreTaken, go}
use Rattle.cocoon_types.specs.Val.{Env, bind, bound}
use Rattle.sound_types.specs.Ends.{LocFits, ReachFits}
use Rattle.sound_types.specs.Soundness.{KeepsTypes}

more_bound : (b : Bool) (f : Env → Env) (o : Option Env) (env : Env) → cond b (option_map f o) None ≡ Some env → (b ≡ true) × ((rest : Env) × (o ≡ Some rest))
more_bound true f None env h = absurd (cc)
more_bound true f (Some rest) env h = (refl, (rest, refl))
more_bound false f o env h = absurd (cc)

-- numbers that are bound to parameters fit them
pub bound_fits : (ps : List Param) (ns : List ℕ) (env : Env) → bind ps ns ≡ Some env → FieldsFit (widths_of ps) ns
bound_fits [] [] env h = tt
bound_fits [] (n ∷ ns) env h = absurd (cc)
bound_fits (p ∷ ps) [] env h = absurd (cc)
bound_fits (p ∷ ps) (n ∷ ns) env h =
    let t = more_bound (fits_width p.width n) (bound p.name.text (number p.width n)) (bind ps ns) env h in
    (ltb-true n (2 ^ p.width) t.0, bound_fits ps ns t.1.0 t.1.1)

-- where a packet can stand fits the level
pub stands_fits : (i : ℕ) (d : Design) (defs : Defs) (at : Loc) → CanStand (world i d defs) at → LocFits i d at
stands_fits i d defs at s = (s.0, s.2, bound_fits s.0.params at.values s.1 s.3)

-- a body that runs leads to what fits
pub reaches_fitting : (i : ℕ) (d : Design) (defs : Defs) → RunsAreTaken → KeepsTypes i d (world i d defs) → (from : Loc) (packet : Packet) (cs : List ℕ) (to : Loc) (sent : Packet)
    → Go (world i d defs) from packet cs to sent → PacketFits (layout d) packet → LocFits i d to × PacketFits (layout d) sent
reaches_fitting i d defs taken keeps from packet cs to sent g fits =
    let runs : go (world i d defs) from packet cs ≡ Some (to, sent, []) =
    ap (go (world i d defs) from packet) (sym (append-nil cs)) ∙ taken.takes (world i d defs) from packet cs to sent g [] in
    subst (ReachFits i d) runs (keeps.bodies from packet cs (stands_fits i d defs from g.stands) fits)
