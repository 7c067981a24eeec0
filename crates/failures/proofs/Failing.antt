-- What the end of a segment shows of its block, and that no other failure begins as it does.
use Rattle.std.proofs.Common.{◌≡◌, ℕ, suc, ◌-◌, ◌≤◌, ◌++◌, ◌&&◌, Bool, true, false, not, List, [], Option, Some, None, refl, sym, ap, subst, ◌∙◌, arith}
use Rattle.std.specs.Prelude.{slice_get}
use Rattle.cocoon_num.specs.Packets.{Packet}
use Rattle.cocoon_num.specs.Tree.{Design, Refine}
use Rattle.cocoon_num.specs.declared.fun_table.FunTable.{FunTable}
use Rattle.cocoon_resolve.specs.Readers.{HasRole}
use Rattle.cocoon_types.specs.Design.{last_level}
use Rattle.cocoon_types.specs.Rules.{WellFormed}
use Rattle.cocoon_types.specs.Runs.{Loc, world}
use Rattle.cocoon_types.specs.Tables.{Defs}
use Rattle.refinement.specs.Assumptions.{AreDefinitions, Meets}
use Rattle.refinement.specs.Owed.{Given}
use Rattle.refinement.specs.Segments.{IsNew, IsOld, Segment, is_new, is_old}
use Rattle.refinement.specs.Ways.{Arrival, Way, hops_by}
use Rattle.role_meaning.proofs.Bridges.{packet_fits}
use Rattle.role_meaning.specs.Located.{loc_of, role_name, sent_of}
use Rattle.runtime_defs.specs.Stands.{Stands}
use Rattle.role_meaning.specs.Follows.{Stops}
use Rattle.role_meaning.specs.declared.following.Followed.{Followed}
use Rattle.refinement.specs.Sending.{CanSend}
use Rattle.sound_types.specs.Literals.{DesignLiteralsFit}
use Rattle.failures.specs.Ending.{Ends}
use Rattle.failures.specs.Failures.{Failure, IsOver, IsRefuted, OfLevel}
use Rattle.failures.specs.Found.{AreMet, BeginFits, BeginsSo, CanFail, NoneBegins, defined, failure_of}
use Rattle.failures.specs.declared.failure.Begin.{Begin}
use Rattle.failures.specs.declared.failure.Failure as code
use Rattle.failures.proofs.Refinable.{block_there, old_if}

-- ---- definitions

-- the definitions of the text of tables meet the assumptions, if those of each text do for which the tables stand
they_meet : (level : ℕ) (d : Design) (tables : List (Option FunTable)) → WellFormed d → DesignLiteralsFit d
    → AreDefinitions d (defined d tables) → Stands d tables (defined d tables) → AreMet level d tables → Meets level d (defined d tables)
they_meet level d tables rules literals are stands met =
    subst (Meets level d) (sym are.are)
    (met are.entries (record { rules = rules; literals = literals; fits = are.fit; values_fit = are.values_fit }) (subst (Stands d tables) are.are stands))

-- ---- ends

not_both : (above : ℕ) (d : Design) (role : List ℕ) → is_old above d role ≡ true → is_new above d role ≡ true → ⊥
not_both above d role old new = by _ (is_old above d role) old new
  where
    by : (a b : Bool) → b ≡ true → (a && not b) ≡ true → ⊥
    by true true o n = absurd (cc)
    by true false o n = absurd (cc)
    by false b o n = absurd (cc)

-- a segment is computed
abbrev pub Computed : Type 0
Computed =
    (d : Design) (above : ℕ) (block : Refine) (defs : Defs) (from : Loc) (packet : Packet) (choices : List ℕ) (bodies : ℕ) (to : Loc) (sent : Packet)
    → Segment above d block defs from packet choices bodies to sent
    → (most : ℕ) → bodies ≤ most → (IsNew above d to → bodies ≡ most)
    → (rest : List ℕ) → (way : Way) × (hops_by above d defs most from packet (choices ++ rest) ≡ Some (record { to = to; sent = sent; rest = rest; way = way }))

abbrev to_or : Loc → Option Arrival → Loc
to_or x None = x
to_or x (Some a) = a.to

abbrev sent_or : Packet → Option Arrival → Packet
sent_or x None = x
sent_or x (Some a) = a.sent

-- two that begin alike, and stop, end alike
one_end : Computed → (above : ℕ) (d : Design) (block : Refine) (defs : Defs) (from : Loc) (packet : Packet) (choices : List ℕ)
    (m n : ℕ) (to other : Loc) (sent others : Packet)
    → Stops above d block defs from packet choices m to sent → Stops above d block defs from packet choices n other others
    → (to ≡ other) × (sent ≡ others)
one_end law above d block defs from packet choices m n to other sent others a b =
    let p = law d above block defs from packet choices m to sent a.segment block.within a.within a.stops [] in
    let q = law d above block defs from packet choices n other others b.segment block.within b.within b.stops [] in
    let same = sym p.1 ∙ q.1 in
    (ap (to_or to) same, ap (sent_or sent) same)

-- ---- what is known where a failure is sought

pub record Known (level : ℕ) (d : Design) (tables : List (Option FunTable)) : Type 0 where
  pub rules : WellFormed d
  pub literals : DesignLiteralsFit d
  pub are : AreDefinitions d (defined d tables)
  pub stands : Stands d tables (defined d tables)
  pub computed : Computed
  pub one : 1 ≤ level
  pub last : level ≤ last_level d

next : (level : ℕ) → 1 ≤ level → level ≡ suc (level - 1)
next level one = omega (arith, one)

-- the failure of a run that begins and ends so
abbrev pub made : List (Option FunTable) → Begin → Followed → code.Failure
made tables b e = record { defs = tables; at = b.at; packet = b.packet; choices = b.choices; to = e.to; sent = e.sent }

module _ (level : ℕ) (d : Design) (tables : List (Option FunTable)) (known : Known level d tables) (b : Begin) where
  given : CanFail level d tables → BeginFits level d b → Given (suc (level - 1)) d (defined d tables) (sent_of d b.packet)
  given can fits =
      let here : Given level d (defined d tables) (sent_of d b.packet) = record {
        defined = known.are;
        meets = they_meet level d tables known.rules known.literals known.are known.stands can.met;
        fits = packet_fits d.headers b.packet.fields fits.fields;
      } in
      subst (λ l. Given l d (defined d tables) (sent_of d b.packet)) (next level known.one) here

  pub old_end : (e : Followed) → Ends level d tables b (Some e) → HasRole d e.to.role level → e.is_new ≡ false → IsOld (level - 1) d (loc_of d e.to)
  old_end e ends has h =
      let bl = block_there d level known.one known.last in
      old_if d (level - 1) e.to.role (subst (HasRole d e.to.role) (next level known.one) has) (sym (ends bl.0 bl.1).1 ∙ h)

  pub is_refuted : CanFail level d tables → BeginFits level d b → (e : Followed) → Ends level d tables b (Some e) → HasRole d e.to.role level → e.is_new ≡ false
      → (CanSend (world (level - 1) d (defined d tables)) (loc_of d b.at) (sent_of d b.packet) (loc_of d e.to) (sent_of d e.sent) → ⊥)
      → OfLevel IsRefuted level d (failure_of d (made tables b e))
  is_refuted can fits e ends has h unsent =
      let bl = block_there d level known.one known.last in
      let s = (ends bl.0 bl.1).0 in
      record {
        above = level - 1;
        block = bl.0;
        behind = next level known.one;
        there = bl.1;
        fails = record { given = given can fits; bodies = e.bodies; within = s.within; segment = s.segment; old = old_end e ends has h; unsent = unsent };
      }

  pub is_over : CanFail level d tables → BeginFits level d b → (e : Followed) → Ends level d tables b (Some e) → e.is_new ≡ true
      → OfLevel IsOver level d (failure_of d (made tables b e))
  is_over can fits e ends h =
      let bl = block_there d level known.one known.last in
      let f = ends bl.0 bl.1 in
      let new : IsNew (level - 1) d (loc_of d e.to) = sym f.1 ∙ h in
      record {
        above = level - 1;
        block = bl.0;
        behind = next level known.one;
        there = bl.1;
        fails = record {
          given = given can fits;
          segment = subst (λ n. Segment (level - 1) d bl.0 (defined d tables) (loc_of d b.at) (sent_of d b.packet) b.choices n (loc_of d e.to) (sent_of d e.sent)) (f.0.stops new) f.0.segment;
          new = new;
        };
      }

  -- ---- failures that begin so

  -- the segment of one
  record Stopped (f : Failure) : Type 0 where
    block : Refine
    there : slice_get d.refines (level - 1) ≡ Some block
    bodies : ℕ
    stops : Stops (level - 1) d block (defined d tables) (loc_of d b.at) (sent_of d b.packet) b.choices bodies f.to f.sent

  stopped : (f : Failure) → BeginsSo d tables b f → (above : ℕ) (block : Refine) → level ≡ suc above → slice_get d.refines above ≡ Some block
      → (n : ℕ) → Stops above d block f.defs f.at f.packet f.choices n f.to f.sent → Stopped f
  stopped f so above block behind there n s =
      let a : above ≡ level - 1 = omega (arith, behind) in
      let s1 = subst (λ x. Stops x d block f.defs f.at f.packet f.choices n f.to f.sent) a s in
      let s2 = subst (λ x. Stops (level - 1) d block x f.at f.packet f.choices n f.to f.sent) so.defs s1 in
      let s3 = subst (λ x. Stops (level - 1) d block (defined d tables) x f.packet f.choices n f.to f.sent) so.at s2 in
      let s4 = subst (λ x. Stops (level - 1) d block (defined d tables) (loc_of d b.at) x f.choices n f.to f.sent) so.packet s3 in
      let s5 = subst (λ x. Stops (level - 1) d block (defined d tables) (loc_of d b.at) (sent_of d b.packet) x n f.to f.sent) so.choices s4 in
      record { block = block; there = ap (slice_get d.refines) (sym a) ∙ there; bodies = n; stops = s5 }

  refuted_stops : (f : Failure) → BeginsSo d tables b f → OfLevel IsRefuted level d f → Stopped f
  refuted_stops f so of =
      stopped f so of.above of.block of.behind of.there of.fails.bodies
      (record { segment = of.fails.segment; within = of.fails.within; stops = λ new. absurd (not_both of.above d f.to.role of.fails.old new) })

  over_stops : (f : Failure) → BeginsSo d tables b f → OfLevel IsOver level d f → Stopped f
  over_stops f so of =
      stopped f so of.above of.block of.behind of.there of.block.within
      (record { segment = of.fails.segment; within = omega arith; stops = λ new. refl })

  none_stops : Ends level d tables b None → (f : Failure) → Stopped f → ⊥
  none_stops ends f s = ends s.block s.there s.bodies f.to f.sent s.stops

  same_end : (e : Followed) → Ends level d tables b (Some e) → (f : Failure) → Stopped f → (f.to ≡ loc_of d e.to) × (f.sent ≡ sent_of d e.sent)
  same_end e ends f s =
      one_end known.computed (level - 1) d s.block (defined d tables) (loc_of d b.at) (sent_of d b.packet) b.choices
      s.bodies e.bodies f.to (loc_of d e.to) f.sent (sent_of d e.sent) s.stops (ends s.block s.there).0

  -- ---- that there is none

  pub none_refuted : Ends level d tables b None → NoneBegins IsRefuted level d tables b
  none_refuted ends = λ f so of. none_stops ends f (refuted_stops f so of)

  pub none_over : Ends level d tables b None → NoneBegins IsOver level d tables b
  none_over ends = λ f so of. none_stops ends f (over_stops f so of)

  pub none_refuted_new : (e : Followed) → Ends level d tables b (Some e) → e.is_new ≡ true → NoneBegins IsRefuted level d tables b
  none_refuted_new e ends h = λ f so of.
      let s = refuted_stops f so of in
      let t = same_end e ends f s in
      let k = of.behind in
      let a : of.above ≡ level - 1 = omega (arith, k) in
      let old : is_old (level - 1) d (loc_of d e.to).role ≡ true = subst (λ (to : Loc). is_old (level - 1) d to.role ≡ true) t.0 (subst (λ x. is_old x d f.to.role ≡ true) a of.fails.old) in
      not_both (level - 1) d (loc_of d e.to).role old (sym (ends s.block s.there).1 ∙ h)

  pub none_over_old : (e : Followed) → Ends level d tables b (Some e) → e.is_new ≡ false → NoneBegins IsOver level d tables b
  none_over_old e ends h = λ f so of.
      let s = over_stops f so of in
      let t = same_end e ends f s in
      let k = of.behind in
      let a : of.above ≡ level - 1 = omega (arith, k) in
      let new : is_new (level - 1) d (loc_of d e.to).role ≡ true = subst (λ (to : Loc). is_new (level - 1) d to.role ≡ true) t.0 (subst (λ x. is_new x d f.to.role ≡ true) a of.fails.new) in
      apart (e.is_new) h ((ends s.block s.there).1 ∙ new)
    where
      apart : (x : Bool) → x ≡ false → x ≡ true → ⊥
      apart true p q = absurd (cc)
      apart false p q = absurd (cc)

  pub none_refuted_sent : (e : Followed) → Ends level d tables b (Some e)
      → CanSend (world (level - 1) d (defined d tables)) (loc_of d b.at) (sent_of d b.packet) (loc_of d e.to) (sent_of d e.sent)
      → NoneBegins IsRefuted level d tables b
  none_refuted_sent e ends can = λ f so of.
      let t = same_end e ends f (refuted_stops f so of) in
      let k = of.behind in
      let a : level - 1 ≡ of.above = omega (arith, k) in
      let c1 = subst (λ x. CanSend (world x d (defined d tables)) (loc_of d b.at) (sent_of d b.packet) (loc_of d e.to) (sent_of d e.sent)) a can in
      let c2 = subst (λ x. CanSend (world of.above d x) (loc_of d b.at) (sent_of d b.packet) (loc_of d e.to) (sent_of d e.sent)) (sym so.defs) c1 in
      let c3 = subst (λ x. CanSend (world of.above d f.defs) x (sent_of d b.packet) (loc_of d e.to) (sent_of d e.sent)) (sym so.at) c2 in
      let c4 = subst (λ x. CanSend (world of.above d f.defs) f.at x (loc_of d e.to) (sent_of d e.sent)) (sym so.packet) c3 in
      let c5 = subst (λ x. CanSend (world of.above d f.defs) f.at f.packet x (sent_of d e.sent)) (sym t.0) c4 in
      of.fails.unsent (subst (λ x. CanSend (world of.above d f.defs) f.at f.packet f.to x) (sym t.1) c5)

pub is_none : {A : Type 0} (o : Option A) → ((a : A) → o ≡ Some a → ⊥) → o ≡ None
is_none None h = refl
is_none (Some a) h = absurd (h a refl)

pub apart : (b : Bool) → b ≡ true → b ≡ false → ⊥
apart true p q = absurd (cc)
apart false p q = absurd (cc)

pub untrue : (b : Bool) → not b ≡ true → b ≡ false
untrue true h = absurd (cc)
untrue false h = refl

pub not_untrue : (b : Bool) → not b ≡ false → b ≡ true
not_untrue true h = refl
not_untrue false h = absurd (cc)
