-- From the last level to the topmost specification, level by level.
use Rattle.std.proofs.Common.{◌≡◌, ℕ, zero, suc, ◌+◌, ◌*◌, ◌≤◌, ◌==◌, List, [], ◌∷◌, ◌++◌, length, true, not, Option, Some, refl, sym, ap, subst, ◌∙◌, arith}
use Rattle.std.specs.Prelude.{filter_map, slice_get, All}
use Rattle.std.proofs.lemmas.List.Elements.{All-nil, filter_map-append}
use Rattle.cocoon_num.specs.PacketForms.{PacketFits}
use Rattle.cocoon_num.specs.Packets.{enter, Packet}
use Rattle.cocoon_num.specs.Tree.{AssumeDecl, HostDecl, Role, Refine, Design}
use Rattle.cocoon_resolve.specs.Readers.{assumptions_to}
use Rattle.cocoon_types.specs.Design.{decls_to, last_level, layout, role_at}
use Rattle.cocoon_types.specs.Limits.{as_assumption}
use Rattle.cocoon_types.specs.RuleParts.{unless}
use Rattle.cocoon_types.specs.Rules.{WellFormed, zero_count}
use Rattle.cocoon_types.specs.Runs.{Loc, Walk, LastGo, MayMake, entry_at, sink_at, world}
use Rattle.cocoon_types.specs.Tables.{Defs}
use Rattle.cocoon_types.specs.Taken.{RunsAreTaken}
use Rattle.refinement.specs.Delivering.{MayIn}
use Rattle.refinement.proofs.Down.{Step, level_down}
use Rattle.refinement.proofs.Hosts.{has_hosts}
use Rattle.refinement.proofs.Lists.{all_front}
use Rattle.refinement.proofs.Moving.{old_by}
use Rattle.refinement.proofs.Roles.{next_decls}
use Rattle.refinement.specs.Assumptions.{AreDefinitions, IsMet, Meets}
use Rattle.refinement.specs.Owed.{Refines}
use Rattle.refinement.specs.Segments.{IsOld}
use Rattle.sound_types.specs.Soundness.{KeepsTypes}
use Rattle.sound_types.specs.WellTyped.{IsTypedRole}
use Rattle.sound_types.proofs.Options.{nil_left, passes, some_there}
use Rattle.sound_types.proofs.Members.{at_place, none_at}
use Rattle.sound_types.proofs.Levels.{role_in, role_there, roles_grow}

-- ---- blocks

pub block_there : (bs : List Refine) (i : ℕ) → suc i ≤ length bs → (b : Refine) × (slice_get bs i ≡ Some b)
block_there [] i h = absurd (omega (arith, h))
block_there (b ∷ bs) zero h = (b, refl)
block_there (b ∷ bs) (suc i) h = block_there bs i (omega (arith, h))

not_none : (n : ℕ) → not (n == 0) ≡ true → 1 ≤ n
not_none zero h = absurd (cc)
not_none (suc n) h = omega arith

-- a block allows one body or more
pub one_or_more : (d : Design) → WellFormed d → (i : ℕ) (b : Refine) → slice_get d.refines i ≡ Some b → 1 ≤ b.within
one_or_more d w i b at =
    let one = none_at (λ (c : Refine). unless (not (c.within == 0)) c.at) d.refines (nil_left _ _ (w zero_count)) b (at_place d.refines i b at) in
    not_none b.within (passes (not (b.within == 0)) b.at one)

-- ---- assumptions

-- definitions that meet the assumptions of a level meet those of the level above
pub meets_above : (d : Design) (i : ℕ) (b : Refine) → slice_get d.refines i ≡ Some b → (defs : Defs) → Meets (suc i) d defs → Meets i d defs
meets_above d i b at defs m =
    let apart : assumptions_to (suc i) d ≡ assumptions_to i d ++ filter_map as_assumption b.decls = ap (filter_map as_assumption) (next_decls d i b at) ∙ filter_map-append as_assumption (decls_to i d) b.decls in
    all_front (IsMet d defs) (assumptions_to i d) (filter_map as_assumption b.decls) (subst (λ (xs : List AssumeDecl). All (IsMet d defs) xs) apart m)

-- ---- one level

no_place : (bs : List Refine) → length bs ≡ 0 → (i : ℕ) (b : Refine) → slice_get bs i ≡ Some b → ⊥
no_place [] h i b e = absurd (cc)
no_place (c ∷ bs) h i b e = absurd (omega (arith, h))

-- a design without blocks refines
pub no_blocks : (d : Design) → last_level d ≡ 0 → Refines d
no_blocks d h = record { contained = λ i b at. absurd (no_place d.refines h i b at); bounded = λ i b at. absurd (no_place d.refines h i b at) }

-- definitions meet what there is not
pub none_to_meet : (d : Design) (level : ℕ) → assumptions_to level d ≡ [] → (defs : Defs) → Meets level d defs
none_to_meet d level h defs = subst (λ (xs : List AssumeDecl). All (IsMet d defs) xs) (sym h) (All-nil (IsMet d defs))

-- ---- levels

module _ (d : Design) (defs : Defs) (rules : WellFormed d) (taken : RunsAreTaken) (typed : (i : ℕ) (name : List ℕ) (r : Role) → role_at i d name ≡ Some r → IsTypedRole d i r)
    (fitting : (i : ℕ) → KeepsTypes i d (world i d defs)) (defined : AreDefinitions d defs) (refines : Refines d) where
  -- one block
  step : (i : ℕ) (b : Refine) → slice_get d.refines i ≡ Some b → Meets (suc i) d defs → Step i d b defs
  step i b at m = record {
    rules = rules;
    at = at;
    some = one_or_more d rules i b at;
    taken = taken;
    typed = typed i;
    fitting = fitting i;
    defined = defined;
    meets = m;
    contained = refines.contained i b at;
    bounded = refines.bounded i b at;
  }

  -- a role of level 0 is one of each level
  stays_old : (i : ℕ) (at : Loc) → IsOld 0 d at → IsOld i d at
  stays_old i at o =
      let r = some_there (role_at 0 d at.role) o in
      let t = role_in 0 d at.role r.0 r.1 in
      let q = role_there i d at.role r.0 (roles_grow 0 i d r.0 (omega arith) t.0) t.1 in
      old_by i d at q.0 q.1

  -- a walk of a level from a location of level 0 is one of level 0, with at most as many bodies
  pub to_top : (i : ℕ) → i ≤ last_level d → Meets i d defs → (n : ℕ) (from : Loc) (packet : Packet) (cs : List ℕ) (to : Loc) (sent : Packet) → PacketFits (layout d) packet → IsOld 0 d from
      → Walk (world i d defs) n from packet cs to sent → MayIn n 0 d defs from packet to sent
  to_top zero h m n from packet cs to sent p o w = (n, omega arith, cs, w)
  to_top (suc i) h m n from packet cs to sent p o w =
      let b = block_there d.refines i h in
      let a : MayIn n i d defs from packet to sent = level_down i d b.0 defs (step i b.0 b.1 m) n n (omega arith) from packet cs to sent p (stays_old i from o) w in
      let t : MayIn a.0 0 d defs from packet to sent = to_top i (omega (arith, h)) (meets_above d i b.0 b.1 defs m) a.0 from packet a.2 to sent p o a.3 in
      (t.0, omega (arith, t.1, a.1), t.2, t.3)

  -- what the last level delivers, the topmost specification may make
  pub may_make : ((bytes : List ℕ) (packet : Packet) (payload : List ℕ) → enter (layout d) bytes ≡ Some (packet, payload) → PacketFits (layout d) packet) → Meets (last_level d) d defs
      → (a : ℕ) (bytes cs : List ℕ) (n b : ℕ) (out : List ℕ) → LastGo d defs a bytes cs n b out → MayMake d defs a bytes b out
  may_make entered m a bytes cs n b out g =
      let h = has_hosts d rules in
      let same : h.hosts ≡ g.hosts = some_same h.hosts g.hosts (sym h.are ∙ g.hosts_are) in
      let o : IsOld 0 d (entry_at g.hosts a) = subst (λ (x : HostDecl). IsOld 0 d (entry_at x a)) same (old_by 0 d (entry_at h.hosts a) h.entry h.entry_is) in
      let t : MayIn (2 * n + 1) 0 d defs (entry_at g.hosts a) g.packet (sink_at g.hosts b) g.sent =
      to_top (last_level d) (omega arith) m (2 * n + 1) (entry_at g.hosts a) g.packet cs (sink_at g.hosts b) g.sent (entered bytes g.packet g.payload g.enters) o g.walks in
      record {
        hosts = g.hosts;
        packet = g.packet;
        payload = g.payload;
        sent = g.sent;
        hosts_are = g.hosts_are;
        enters = g.enters;
        may = (t.0, t.2, t.3);
        leaves = g.leaves;
      }
    where
      some_same : (x y : HostDecl) → ◌≡◌ {A = Option HostDecl} (Some x) (Some y) → x ≡ y
      some_same x y e = cc
