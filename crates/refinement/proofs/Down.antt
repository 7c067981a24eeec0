-- A walk at a level is one of the level above with at most as many bodies, if the block is contained and bounded: segments
-- are collected body by body until they come to an old role, and as many bodies as the block allows end them.
use Rattle.std.proofs.Common.{◌≡◌, ◌⊎◌, inl, inr, ℕ, zero, suc, ◌≤◌, List, [], ◌++◌, Bool, true, false, Some, refl, sym, subst, arith}
use Rattle.std.specs.Prelude.{slice_get}
use Rattle.std.proofs.lemmas.List.{append_assoc, append-nil}
use Rattle.cocoon_num.specs.PacketForms.{PacketFits}
use Rattle.cocoon_num.specs.Packets.{Packet}
use Rattle.cocoon_num.specs.Tree.{Role, Refine, Design}
use Rattle.cocoon_types.specs.Design.{layout, role_at}
use Rattle.cocoon_types.specs.RuleParts.{has_name}
use Rattle.cocoon_types.specs.Rules.{WellFormed}
use Rattle.cocoon_types.specs.Runs.{Loc, Go, IsSink, Walk, world}
use Rattle.cocoon_types.specs.Tables.{Defs}
use Rattle.cocoon_types.specs.Taken.{RunsAreTaken}
use Rattle.refinement.specs.Delivering.{MayIn}
use Rattle.refinement.proofs.Fitting.{reaches_fitting}
use Rattle.refinement.proofs.Hosts.{sink_stays}
use Rattle.refinement.proofs.Moving.{go_lands, keeps, not_both, old_by, old_or_new}
use Rattle.refinement.specs.Assumptions.{AreDefinitions, Meets}
use Rattle.refinement.specs.Owed.{Contained, Given, Within}
use Rattle.refinement.specs.Segments.{IsNew, IsOld, Segment, Through}
use Rattle.sound_types.specs.Soundness.{KeepsTypes}
use Rattle.sound_types.specs.WellTyped.{IsTypedRole}

-- what the step from a block's level to the level above rests on
pub record Step (above : ℕ) (d : Design) (block : Refine) (defs : Defs) : Type 0 where
  pub rules : WellFormed d
  pub at : slice_get d.refines above ≡ Some block
  pub some : 1 ≤ block.within
  pub taken : RunsAreTaken
  pub typed : (name : List ℕ) (r : Role) → role_at above d name ≡ Some r → IsTypedRole d above r
  pub fitting : KeepsTypes above d (world above d defs)
  pub defined : AreDefinitions d defs
  pub meets : Meets (suc above) d defs
  pub contained : Contained above d block
  pub bounded : Within above d block

module _ (above : ℕ) (d : Design) (block : Refine) (defs : Defs) (l : Step above d block defs) where
  given : (packet : Packet) → PacketFits (layout d) packet → Given (suc above) d defs packet
  given packet p = record { defined = l.defined; meets = l.meets; fits = p }

  -- a sink is old
  sink_old : (at : Loc) → IsSink (world (suc above) d defs) at → IsSink (world above d defs) at × IsOld above d at
  sink_old at s = let t = sink_stays d l.rules (suc above) above defs at s in (t, old_by above d at t.0 t.1)

  -- where a body of the level leads is old or new
  either : (from : Loc) (packet : Packet) (cs : List ℕ) (to : Loc) (sent : Packet) → Go (world (suc above) d defs) from packet cs to sent → IsOld above d to ⊎ IsNew above d to
  either from packet cs to sent g = let s = go_lands (world (suc above) d defs) from packet cs to sent g in old_or_new above d to s.0 s.2

  -- one more body at the end of some
  one_more : (n : ℕ) (from : Loc) (packet : Packet) (cs : List ℕ) (mid : Loc) (between : Packet) (ds : List ℕ) (to : Loc) (sent : Packet)
      → Through above d defs from packet cs n mid between → IsNew above d mid → Go (world (suc above) d defs) mid between ds to sent
      → Through above d defs from packet (cs ++ ds) (suc n) to sent
  one_more zero from packet cs mid between ds to sent t new g =
      rw t.0 (
        subst (λ x. IsNew above d x) t.1 new,
        (to, sent, ds, [], subst (λ (p : Packet). Go (world (suc above) d defs) from p ds to sent) t.2 (subst (λ x. Go (world (suc above) d defs) x between ds to sent) t.1 g), (refl, refl, refl), sym (append-nil ds)),
      )
  one_more (suc n) from packet cs mid between ds to sent t new g = (
    t.0,
    (
      t.1.0,
      t.1.1,
      t.1.2,
      t.1.3 ++ ds,
      t.1.4,
      one_more n t.1.0 t.1.1 t.1.3 mid between ds to sent t.1.5 new g,
      rw t.1.6 (append_assoc t.1.2 t.1.3 ds),
    ),
  )

  -- a walk from an old location, after the next location at which the level above stands too
  pub record Onward (bound : ℕ) (from : Loc) (packet : Packet) (to : Loc) (sent : Packet) : Type 0 where
    pub mid : Loc
    pub between : Packet
    pub choices : List ℕ
    pub rest : List ℕ
    pub bodies : ℕ
    pub go : Go (world above d defs) from packet choices mid between
    pub old : IsOld above d mid
    pub less : bodies ≤ bound
    pub walk : Walk (world (suc above) d defs) bodies mid between rest to sent

  -- a segment with at most as many bodies as the block allows, followed by a walk, comes to an old location
  collect : (n k : ℕ) (from : Loc) (packet : Packet) (cs : List ℕ) (mid : Loc) (between : Packet) (ds : List ℕ) (to : Loc) (sent : Packet)
      → Segment above d block defs from packet cs (suc k) mid between → suc k ≤ block.within → PacketFits (layout d) packet → IsOld above d mid ⊎ IsNew above d mid
      → Walk (world (suc above) d defs) n mid between ds to sent → Onward n from packet to sent
  collect n k from packet cs mid between ds to sent s h p (inl o) w =
      let c : (choices : List ℕ) × Go (world above d defs) from packet choices mid between = l.contained defs from packet cs (suc k) mid between (given packet p) h s o in
      record { mid = mid; between = between; choices = c.0; rest = ds; bodies = n; go = c.1; old = o; less = omega arith; walk = w }
  collect zero k from packet cs mid between ds to sent s h p (inr new) w = absurd (not_both above d mid (sink_old mid w.0).1 new)
  collect (suc n) k from packet cs mid between ds to sent s h p (inr new) w =
      elim w [
        | inl e ↦ absurd (not_both above d mid (sink_old mid e.0).1 new)
        | inr e ↦
            let longer : Segment above d block defs from packet (cs ++ e.2) (suc (suc k)) e.0 e.1 =
            (s.0, (s.1.0, s.1.1, s.1.2, s.1.3 ++ e.2, s.1.4, one_more k s.1.0 s.1.1 s.1.3 mid between e.2 e.0 e.1 s.1.5 new e.4, rw s.1.6 (append_assoc s.1.2 s.1.3 e.2))) in
            let room : suc k ≡ block.within → ⊥ = λ q. l.bounded defs from packet cs mid between (given packet p) (subst (λ x. Segment above d block defs from packet cs x mid between) q s) new in
            let o : Onward n from packet to sent = collect n (suc k) from packet (cs ++ e.2) e.0 e.1 e.3 to sent longer (omega (arith, room)) p (either mid between e.2 e.0 e.1 e.4) e.5 in
            record { mid = o.mid; between = o.between; choices = o.choices; rest = o.rest; bodies = o.bodies; go = o.go; old = o.old; less = omega (arith, o.less); walk = o.walk }
      ]

  -- the next location at which the level above stands too
  next : (n : ℕ) (from : Loc) (packet : Packet) (cs : List ℕ) (mid : Loc) (between : Packet) (ds : List ℕ) (to : Loc) (sent : Packet)
      → PacketFits (layout d) packet → IsOld above d from → Go (world (suc above) d defs) from packet cs mid between → Walk (world (suc above) d defs) n mid between ds to sent → Onward n from packet to sent
  next n from packet cs mid between ds to sent p o g w = by_list (has_name from.role block.roles) refl
    where
      by_list : (b : Bool) → has_name from.role block.roles ≡ b → Onward n from packet to sent
      by_list true e = collect n 0 from packet cs mid between ds to sent (e, (mid, between, cs, [], g, (refl, refl, refl), sym (append-nil cs))) l.some p (either from packet cs mid between g) w
      by_list false e =
          let k : Go (world above d defs) from packet cs mid between × IsOld above d mid = keeps d l.rules above block l.at defs l.typed from packet cs mid between o e g in
          record { mid = mid; between = between; choices = cs; rest = ds; bodies = n; go = k.0; old = k.1; less = omega arith; walk = w }

  -- each delivery of the level is one of the level above, with at most as many bodies
  pub level_down : (bound n : ℕ) → n ≤ bound → (from : Loc) (packet : Packet) (cs : List ℕ) (to : Loc) (sent : Packet) → PacketFits (layout d) packet → IsOld above d from
      → Walk (world (suc above) d defs) n from packet cs to sent → MayIn n above d defs from packet to sent
  level_down bound zero h from packet cs to sent p o w = (0, omega arith, [], ((sink_old from w.0).0, refl, w.2, w.3))
  level_down zero (suc n) h from packet cs to sent p o w = absurd (omega (arith, h))
  level_down (suc bound) (suc n) h from packet cs to sent p o w =
      elim w [
        | inl e ↦ (0, omega arith, [], ((sink_old from e.0).0, refl, e.2, e.3))
        | inr e ↦
            let f : Onward n from packet to sent = next n from packet e.2 e.0 e.1 e.3 to sent p o e.4 e.5 in
            let fits = reaches_fitting above d defs l.taken l.fitting from packet f.choices f.mid f.between f.go p in
            let a : MayIn f.bodies above d defs f.mid f.between to sent = level_down bound f.bodies (omega (arith, f.less, h)) f.mid f.between f.rest to sent fits.1 f.old f.walk in
            (suc a.0, omega (arith, a.1, f.less), f.choices ++ a.2, inr (f.mid, f.between, f.choices, a.2, f.go, a.3, refl))
      ]
