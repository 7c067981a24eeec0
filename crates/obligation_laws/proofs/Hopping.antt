-- Each state that bodies lead to comes of the one where they began by a run of those bodies.
use Rattle.std.proofs.Common.{◌≡◌, inl, inr, ℕ, zero, suc, List, [], ◌∷◌, ◌++◌, Bool, true, false, Option, Some, None, if◌then◌else◌, option_and_then, option_map, refl, sym, ap, subst, ◌∙◌}
use Rattle.std.specs.List.{AllZip}
use Rattle.std.proofs.lemmas.List.{append-nil, append_assoc, append_cancel_left}
use Rattle.cocoon_num.specs.Packets.{Packet}
use Rattle.cocoon_num.specs.Tree.{Block, Role, Design}
use Rattle.cocoon_types.specs.Design.{role_at, widths_of}
use Rattle.cocoon_types.specs.Runs.{End, falls, sends, Loc, World, world}
use Rattle.cocoon_types.specs.Tables.{Defs}
use Rattle.refinement.specs.Segments.{is_new}
use Rattle.refinement.specs.Ways.{Arrival, Course, Way, after, arrival, body_by, go_by, hops_by, if_new, on_true, run_all_by}
use Rattle.bv_terms.specs.TermValues.{Functions, Inputs}
use Rattle.sound_types.proofs.Members.{In}
use Rattle.obligation_laws.specs.Shown.{HasNumber, functions_by}
use Rattle.obligation_laws.specs.States.{NewInput, Place, State, term_world}
use Rattle.obligation_laws.specs.Following.{Followed, each, follow_all, has_sent, one, those_sent}
use Rattle.obligation_laws.specs.Leaves.{at_new, entered, follow_body, hops, onward}
use Rattle.obligation_laws.specs.Meant.{AllFit, IsOne, given}
use Rattle.obligation_laws.proofs.Followings.{each_in, passed, some_place}
use Rattle.obligation_laws.proofs.Leading.{Leads, fit_split, given_join, map_there, sent_fits, some_there}
use Rattle.obligation_laws.proofs.Meaning.{Fits, FitsBy, Holds, bound_are, end_by, end_of, env_at, loc_at, packet_at}
use Rattle.obligation_laws.proofs.Statements.{block_vars, block_leads, of_one, runs_all}

abbrev pub arrive : Loc → Packet → List ℕ → Way → Arrival
arrive to sent rest way = record { to = to; sent = sent; rest = rest; way = way }

-- a body, and those of new roles behind it
abbrev pub hops_in : World → (List ℕ → Bool) → (bodies : ℕ) → Loc → Packet → List ℕ → Option Arrival
hops_in w new zero from packet cs = Some (arrive from packet cs [])
hops_in w new (suc n) from packet cs = option_and_then (λ (a : Arrival). if_new (new a.to.role) a (hops_in w new n)) (go_by w from packet cs)

pub hops_are : (above : ℕ) (d : Design) (defs : Defs) (n : ℕ) (from : Loc) (packet : Packet) (cs : List ℕ) → hops_by above d defs n from packet cs ≡ hops_in (world (suc above) d defs) (is_new above d) n from packet cs
hops_are above d defs zero from packet cs = refl
hops_are above d defs (suc n) from packet cs =
    ap (λ (f : Loc → Packet → List ℕ → Option Arrival). option_and_then (λ (a : Arrival). if_new (is_new above d a.to.role) a f) (go_by (world (suc above) d defs) from packet cs))
    (λ k x y z. hops_are above d defs n x y z k)

pub one_body : (w : World) (from : Loc) (packet : Packet) (cs : List ℕ) → hops_in w (λ r. false) 1 from packet cs ≡ go_by w from packet cs
one_body w from packet cs = by (go_by w from packet cs)
  where
    by : (o : Option Arrival) → option_and_then (λ (a : Arrival). Some a) o ≡ o
    by None = refl
    by (Some a) = refl

longer : (b : Bool) (c : Arrival) (more : Loc → Packet → List ℕ → Option Arrival) (a : Arrival) → if_new b c more ≡ Some a → (way : Way) × (a.way ≡ c.way ++ way)
longer true c more a h = let m = map_there (after c.way) (more c.to c.sent c.rest) a h in (m.0.way, ap (λ (x : Arrival). x.way) (sym m.2))
longer false c more a h = let e : c ≡ a = cc in ([], ap (λ (x : Arrival). x.way) (sym e) ∙ sym (append-nil c.way))

-- where an end leads, it leads with the way of its course
arrival_way : (e : End) (c : Course) (a : Arrival) → arrival e c ≡ Some a → a.way ≡ c.way
arrival_way (falls env packet) c a h = absurd (cc)
arrival_way (sends to packet) c a h = let e : arrive to packet c.rest c.way ≡ a = cc in ap (λ (x : Arrival). x.way) (sym e)

pub new_at : (new : List ℕ → Bool) (m : State) (to : Place) → m.sent ≡ Some to → at_new new m ≡ new to.role
new_at new m to p = ap (λ (o : Option Place). elim o as (λ x. Bool) [ None ↦ false | Some at ↦ new at.role ]) p

module _ (d : Design) (defs : Defs) (ins : Inputs) (level : ℕ) where
  abbrev G : Functions
  G = functions_by d defs

  -- bodies lead from a state to another, as `Leads` has it of blocks
  pub record Hops (s t : State) (run : List ℕ → Option Arrival) : Type 0 where
    pub to : Place
    pub sent : t.sent ≡ Some to
    pub way : Way
    pub chosen : List NewInput
    pub way_is : t.way ≡ s.way ++ way
    pub chosen_is : t.choices ≡ s.choices ++ chosen
    pub fits : Fits d defs ins level [] s → AllFit ins chosen → Fits d defs ins level [] t
    pub sound : Fits d defs ins level [] s → AllFit ins chosen → IsOne (functions_by d defs) ins t.cond
        → IsOne (functions_by d defs) ins s.cond × ((rest : List ℕ) → run (given ins chosen ++ rest) ≡ Some (arrive (loc_at d defs ins level to) (packet_at d defs ins level t) rest way))
    pub back : Fits d defs ins level [] s → AllFit ins chosen → IsOne (functions_by d defs) ins s.cond
        → (rest : List ℕ) (c : Arrival) (a b : Way) → run (given ins chosen ++ rest) ≡ Some c → c.way ++ a ≡ way ++ b → IsOne (functions_by d defs) ins t.cond

  -- ---- one body

  at_place : (s : State) (at : Place) → s.sent ≡ Some at → Fits d defs ins level [] s → FitsBy d defs ins level [] (Some at) s
  at_place s at p f = subst (λ o. FitsBy d defs ins level [] o s) p f.place

  same_role : (o : Option Role) (r q : Role) → o ≡ Some r → o ≡ Some q → r ≡ q
  same_role o r q h k = let e : Some r ≡ Some q = sym h ∙ k in cc

  enters : (s : State) (at : Place) (r : Role) → role_at level d at.role ≡ Some r → s.sent ≡ Some at → Fits d defs ins level [] s → Fits d defs ins level r.params (entered r at s)
  enters s at r is p f =
      let k = (at_place s at p f).0 in
      let fit : AllZip (HasNumber G ins) (widths_of r.params) at.values = subst (λ (x : Role). AllZip (HasNumber G ins) (widths_of x.params) at.values) (same_role (role_at level d at.role) k.0 r k.1 is) k.2 in
      record { fields = f.fields; cond = f.cond; place = (bound_are G ins r.params at.values fit).1 }

  -- a body's run is that of its block
  goes_by : (s : State) (at : Place) (r : Role) (b : Block) → role_at level d at.role ≡ Some r → r.body ≡ Some b → s.sent ≡ Some at → Fits d defs ins level [] s → IsOne G ins s.cond → (cs : List ℕ)
      → go_by (world level d defs) (loc_at d defs ins level at) (packet_at d defs ins level s) cs ≡ option_and_then (λ (c : Course). arrival c.end c) (runs_all d defs ins level b (entered r at s) cs)
  goes_by s at r b is body p f one cs =
      let w = world level d defs in
      let from = loc_at d defs ins level at in
      let packet = packet_at d defs ins level s in
      let k = at_place s at p f in
      let fit : AllZip (HasNumber G ins) (widths_of r.params) at.values = subst (λ (x : Role). AllZip (HasNumber G ins) (widths_of x.params) at.values) (same_role (role_at level d at.role) k.0.0 r k.0.1 is) k.0.2 in
      (λ i. on_true (k.1 one i) (option_and_then (λ (x : Role). body_by w x x.body from packet cs) (is i)))
      ∙ ap (λ o. body_by w r o from packet cs) body
      ∙ ap (option_and_then (λ env. option_and_then (λ (c : Course). arrival c.end c) (run_all_by w b env packet cs))) (bound_are G ins r.params at.values fit).0

  -- the body of a role
  of_body : Holds d defs ins level → (s : State) (at : Place) (r : Role) (b : Block) → role_at level d at.role ≡ Some r → r.body ≡ Some b → s.sent ≡ Some at
      → (n : ℕ) (t : State) → In t (those_sent (follow_all (term_world level d) b (one (entered r at s) n))).0 → Hops s t (go_by (world level d defs) (loc_at d defs ins level at) (packet_at d defs ins level s))
  of_body holds s at r b is body p n t i =
      let k = passed has_sent (follow_all (term_world level d) b (one (entered r at s) n)).0 t i in
      let to = some_place t.sent k.1 in
      let after = block_vars b r.params in
      let typed = (holds.roles at.role r is).body b body in
      let l : Leads d defs ins level r.params after (entered r at s) t (runs_all d defs ins level b (entered r at s)) =
      of_one d defs ins level r.params after (entered r at s) t (runs_all d defs ins level b) refl (block_leads d defs ins level holds b r.params typed (entered r at s ∷ []) n t k.0) in
      record {
        to = to.0;
        sent = to.1;
        way = l.way;
        chosen = l.chosen;
        way_is = l.way_is;
        chosen_is = l.chosen_is;
        fits = λ f g. sent_fits d defs ins level after [] t to.0 to.1 (l.fits (enters s at r is p f) g);
        sound = λ f g yes.
            let m = l.sound (enters s at r is p f) g yes in (
              m.0,
              λ rest. goes_by s at r b is body p f m.0 (given ins l.chosen ++ rest)
                  ∙ ap (option_and_then (λ (c : Course). arrival c.end c)) (m.1 rest)
                  ∙ ap (λ o. arrival (end_by d defs ins level o (env_at d defs ins level t) (packet_at d defs ins level t)) (record { end = end_of d defs ins level t; rest = rest; way = l.way })) to.1,
            );
        back = λ f g yes rest c a z ran same.
            let cs = given ins l.chosen ++ rest in
            let m = some_there (λ (x : Course). arrival x.end x) (runs_all d defs ins level b (entered r at s) cs) c (sym (goes_by s at r b is body p f yes cs) ∙ ran) in
            l.back (enters s at r is p f) g yes rest m.0 a z m.1 (ap (λ v. v ++ a) (sym (arrival_way m.0.end m.0 c m.2)) ∙ same);
      }

  body_hops : Holds d defs ins level → (s : State) (at : Place) → s.sent ≡ Some at → (n : ℕ) (t : State) → In t (follow_body (term_world level d) at s n).0
      → Hops s t (go_by (world level d defs) (loc_at d defs ins level at) (packet_at d defs ins level s))
  body_hops holds s at p n t i = by_role (role_at level d at.role) refl i
    where
      by_body : (r : Role) → role_at level d at.role ≡ Some r → (o : Option Block) → r.body ≡ o
          → In t (elim o as (λ x. Followed) [ None ↦ ([], n) | Some b ↦ those_sent (follow_all (term_world level d) b (one (entered r at s) n)) ]).0
          → Hops s t (go_by (world level d defs) (loc_at d defs ins level at) (packet_at d defs ins level s))
      by_body r is None body j = absurd j
      by_body r is (Some b) body j = of_body holds s at r b is body p n t j

      by_role : (o : Option Role) → role_at level d at.role ≡ o
          → In t (elim o as (λ x. Followed) [ None ↦ ([], n) | Some r ↦ elim r.body [ None ↦ ([], n) | Some b ↦ those_sent (follow_all (term_world level d) b (one (entered r at s) n)) ] ]).0
          → Hops s t (go_by (world level d defs) (loc_at d defs ins level at) (packet_at d defs ins level s))
      by_role None is j = absurd j
      by_role (Some r) is j = by_body r is r.body refl j

  -- ---- several

  abbrev then_hop : (List ℕ → Bool) → (List ℕ → Option Arrival) → (Loc → Packet → List ℕ → Option Arrival) → List ℕ → Option Arrival
  then_hop new run more cs = option_and_then (λ (c : Arrival). if_new (new c.to.role) c more) (run cs)

  -- at a role that is not new it stops
  stops : (new : List ℕ → Bool) (s m : State) (run : List ℕ → Option Arrival) (more : Loc → Packet → List ℕ → Option Arrival) (l : Hops s m run) → new l.to.role ≡ false → Hops s m (then_hop new run more)
  stops new s m run more l old = record {
    to = l.to;
    sent = l.sent;
    way = l.way;
    chosen = l.chosen;
    way_is = l.way_is;
    chosen_is = l.chosen_is;
    fits = l.fits;
    sound = λ f g yes.
        let k = l.sound f g yes in (
          k.0,
          λ rest. ap (option_and_then (λ (c : Arrival). if_new (new c.to.role) c more)) (k.1 rest)
              ∙ ap (λ b. if_new b (arrive (loc_at d defs ins level l.to) (packet_at d defs ins level m) rest l.way) more) old,
        );
    back = λ f g yes rest c a b ran same.
        let there = some_there (λ (x : Arrival). if_new (new x.to.role) x more) (run (given ins l.chosen ++ rest)) c ran in
        let way = longer (new there.0.to.role) there.0 more c there.2 in
        l.back f g yes rest there.0 (way.0 ++ a) b there.1 (sym (append_assoc there.0.way way.0 a) ∙ ap (λ v. v ++ a) (sym way.1) ∙ same);
  }

  -- from a new role it goes on
  goes : (new : List ℕ → Bool) (s m t : State) (run : List ℕ → Option Arrival) (more : Loc → Packet → List ℕ → Option Arrival) (l : Hops s m run) → new l.to.role ≡ true
      → Hops m t (more (loc_at d defs ins level l.to) (packet_at d defs ins level m)) → Hops s t (then_hop new run more)
  goes new s m t run more l is_new k = record {
    to = k.to;
    sent = k.sent;
    way = l.way ++ k.way;
    chosen = l.chosen ++ k.chosen;
    way_is = k.way_is ∙ ap (λ v. v ++ k.way) l.way_is ∙ append_assoc s.way l.way k.way;
    chosen_is = k.chosen_is ∙ ap (λ cs. cs ++ k.chosen) l.chosen_is ∙ append_assoc s.choices l.chosen k.chosen;
    fits = λ f g. let e = fit_split ins l.chosen k.chosen g in k.fits (l.fits f e.0) e.1;
    sound = λ f g yes.
        let e = fit_split ins l.chosen k.chosen g in
        let two = k.sound (l.fits f e.0) e.1 yes in
        let first = l.sound f e.0 two.0 in
        (first.0, λ rest. ap (then_hop new run more) (given_join ins l.chosen k.chosen rest) ∙ on rest (first.1 (given ins k.chosen ++ rest)) ∙ ap (option_map (after l.way)) (two.1 rest));
    back = λ f g yes rest c a b ran same.
        let e = fit_split ins l.chosen k.chosen g in
        let last = given ins k.chosen ++ rest in
        let ran' : then_hop new run more (given ins l.chosen ++ last) ≡ Some c = sym (ap (then_hop new run more) (given_join ins l.chosen k.chosen rest)) ∙ ran in
        let there = some_there (λ (x : Arrival). if_new (new x.to.role) x more) (run (given ins l.chosen ++ last)) c ran' in
        let way = longer (new there.0.to.role) there.0 more c there.2 in
        let same' : c.way ++ a ≡ l.way ++ (k.way ++ b) = same ∙ append_assoc l.way k.way b in
        let mid_one = l.back f e.0 yes last there.0 (way.0 ++ a) (k.way ++ b) there.1 (sym (append_assoc there.0.way way.0 a) ∙ ap (λ v. v ++ a) (sym way.1) ∙ same') in
        let ran_on = map_there (after l.way) (more (loc_at d defs ins level l.to) (packet_at d defs ins level m) last) c (sym (on rest ((l.sound f e.0 mid_one).1 last)) ∙ ran') in
        k.back (l.fits f e.0) e.1 mid_one rest ran_on.0 a b ran_on.1
        (append_cancel_left l.way (ran_on.0.way ++ a) (k.way ++ b) (sym (append_assoc l.way ran_on.0.way a) ∙ ap (λ (x : Arrival). x.way ++ a) ran_on.2 ∙ same'));
  }
    where
      on : (rest : List ℕ) → run (given ins l.chosen ++ (given ins k.chosen ++ rest)) ≡ Some (arrive (loc_at d defs ins level l.to) (packet_at d defs ins level m) (given ins k.chosen ++ rest) l.way)
          → then_hop new run more (given ins l.chosen ++ (given ins k.chosen ++ rest)) ≡ option_map (after l.way) (more (loc_at d defs ins level l.to) (packet_at d defs ins level m) (given ins k.chosen ++ rest))
      on rest h =
          ap (option_and_then (λ (c : Arrival). if_new (new c.to.role) c more)) h
          ∙ ap (λ b. if_new b (arrive (loc_at d defs ins level l.to) (packet_at d defs ins level m) (given ins k.chosen ++ rest) l.way) more) is_new

  pub hops_lead : Holds d defs ins level → (new : List ℕ → Bool) (k : ℕ) (s : State) (at : Place) → s.sent ≡ Some at → (n : ℕ) (t : State) → In t (hops (term_world level d) new k s n).0
      → Hops s t (hops_in (world level d defs) new k (loc_at d defs ins level at) (packet_at d defs ins level s))
  hops_lead holds new zero s at p n t i = elim i [
    | inl same ↦ subst (λ z. Hops s z (hops_in (world level d defs) new zero (loc_at d defs ins level at) (packet_at d defs ins level s))) (sym same) (record {
      to = at;
      sent = p;
      way = [];
      chosen = [];
      way_is = sym (append-nil s.way);
      chosen_is = sym (append-nil s.choices);
      fits = λ f g. f;
      sound = λ f g yes. (yes, λ rest. refl);
      back = λ f g yes rest c a b ran same. yes;
    })
    | inr l ↦ absurd l
  ]
  hops_lead holds new (suc k) s at p n t i =
      let w = term_world level d in
      let led = follow_body w at s n in
      let inside : In t (each (onward new (hops w new k)) led.0 led.1).0 =
      subst (λ (o : Option Place). In t (elim o as (λ x. Followed) [ None ↦ ([], n) | Some to ↦ each (onward new (hops w new k)) (follow_body w to s n).0 (follow_body w to s n).1 ]).0) p i in
      let m = each_in (onward new (hops w new k)) led.0 led.1 t inside in
      let l = body_hops holds s at p n m.0 m.1 in
      by_new m.0 t m.2 (hops_lead holds new k m.0) l (at_new new m.0) refl m.3
    where
      by_new : (m t : State) (j : ℕ) → ((to : Place) → m.sent ≡ Some to → (n : ℕ) (t : State) → In t (hops (term_world level d) new k m n).0
          → Hops m t (hops_in (world level d defs) new k (loc_at d defs ins level to) (packet_at d defs ins level m)))
          → (l : Hops s m (go_by (world level d defs) (loc_at d defs ins level at) (packet_at d defs ins level s)))
          → (b : Bool) → at_new new m ≡ b → In t (if b then hops (term_world level d) new k m j else one m j).0
          → Hops s t (hops_in (world level d defs) new (suc k) (loc_at d defs ins level at) (packet_at d defs ins level s))
      by_new m t j later l true e h = goes new s m t (go_by (world level d defs) (loc_at d defs ins level at) (packet_at d defs ins level s)) (hops_in (world level d defs) new k) l (sym (new_at new m l.to l.sent) ∙ e) (later l.to l.sent j t h)
      by_new m t j later l false e h = elim h [
        | inl same ↦ subst (λ z. Hops s z (hops_in (world level d defs) new (suc k) (loc_at d defs ins level at) (packet_at d defs ins level s))) (sym same)
            (stops new s m (go_by (world level d defs) (loc_at d defs ins level at) (packet_at d defs ins level s)) (hops_in (world level d defs) new k) l (sym (new_at new m l.to l.sent) ∙ e))
        | inr none ↦ absurd none
      ]
