-- The run that takes its choices from a list computes what `Does` relates: `takes` and `takes_all` say that
-- a run so related is computed, whatever choices follow, and `gives` and `gives_all` that what is computed is so
-- related. So a run has one end, and one prefix of a list of choices.
use Rattle.std.specs.Prelude.{◌≡◌, ℕ, zero, suc, ◌^◌, ◌⊎◌, Bool, true, false, List, [], ◌∷◌, ◌++◌, cond, Option, Some, None, option_map, option_and_then, refl}
use Rattle.std.proofs.Common.{sym, ◌∙◌, ap, inl, inr}
use Rattle.std.proofs.lemmas.Bool.{lt-ltb, ltb-true}
use Rattle.std.proofs.lemmas.List.{append_assoc}
use Rattle.cocoon_num.specs.Values.{Value, number, truth, as_number, FitsWidth, fits_width}
use Rattle.cocoon_num.specs.Tree.{Stmt, let_, set_field, if_, filter, havoc_var, havoc_field, assume, fork, send, Block, no_stmts, stmt, Role}
use Rattle.cocoon_num.specs.Packets.{Packet}
use Rattle.cocoon_types.specs.Design.{write_field, field_width}
use Rattle.cocoon_types.specs.Val.{Env, bound, bind, value, numbers}
use Rattle.cocoon_types.specs.Taken.{Ended, Reached, Used, RunsAreTaken, where_true, by_truth, take_one, back, only_sent, only_sends, after, go_on, guard_at, run, run_all, reached, if_reached, if_true, body_go, go, or_stop, then_walk, walk}
use Rattle.cocoon_types.specs.Runs.{Loc, World, End, falls, sends, CanStand, back_to, Does, DoesAll, Go, IsSink, Walk}

-- the guard of a location that stands is true
at_guard : (w : World) (at : Loc) → CanStand w at → guard_at w at ≡ Some (truth true)
at_guard w at s = rw (s.2, s.3, s.4) refl

mutual
  -- a statement that ends so is run so
  pub takes : (w : World) (s : Stmt) (env : Env) (packet : Packet) (cs : List ℕ) (end : End) → Does w s env packet cs end → (rest : List ℕ) → run w s env packet (cs ++ rest) ≡ Some (end, rest)
  takes w (let_ at x width e) env packet cs end d rest = rw (d.1, d.2, d.3) refl
  takes w (set_field at h f e) env packet cs end d rest = rw (d.2, d.3, d.4, d.5) refl
  takes w (if_ at e first second) env packet cs end d rest =
      elim d.2 [
        | inl h ↦ rw (h.0, takes_all w first env packet cs d.0 h.1 rest, d.1) refl
        | inr h ↦ rw (h.0, takes_all w second env packet cs d.0 h.1 rest, d.1) refl
      ]
  takes w (filter at e) env packet cs end d rest = rw (d.0, d.1, d.2) refl
  takes w (havoc_var at x width) env packet cs end d rest = rw (d.2, d.3, lt-ltb d.0 (2 ^ width) d.1) refl
  takes w (havoc_field at h f) env packet cs end d rest = rw (d.2, d.4, d.5, lt-ltb d.0 (2 ^ d.1) d.3) refl
  takes w (assume at e) env packet cs end d rest = rw (d.0, d.1, d.2) refl
  takes w (fork at x width e body) env packet cs end d rest =
      rw (d.5, d.8, lt-ltb d.0 (2 ^ width) d.4, d.6, takes_all w body _ packet d.1 _ d.7 rest) refl
  takes w (send at r es) env packet cs end d rest = rw (d.1, d.3, d.4, at_guard w _ d.2) refl

  -- a block that ends so is run so
  pub takes_all : (w : World) (b : Block) (env : Env) (packet : Packet) (cs : List ℕ) (end : End) → DoesAll w b env packet cs end → (rest : List ℕ) → run_all w b env packet (cs ++ rest) ≡ Some (end, rest)
  takes_all w no_stmts env packet cs end d rest = rw (d.0, d.1) refl
  takes_all w (stmt s more) env packet cs end d rest =
      elim d [
        | inl h ↦ rw (h.6, append_assoc h.2 h.3 rest, takes w s env packet h.2 _ h.4 (h.3 ++ rest)) (takes_all w more h.0 h.1 h.3 end h.5 rest)
        | inr h ↦ rw (h.3, takes w s env packet cs _ h.2 rest) refl
      ]

-- how a run ended
abbrev end_or : End → Ended → End
end_or x None = x
end_or x (Some r) = r.0

-- what it left
abbrev rest_or : List ℕ → Ended → List ℕ
rest_or cs None = cs
rest_or cs (Some r) = r.1

-- Where a run uses up a prefix of a list of choices, the rest aside, no other run does so.
pub one_end : (w : World) (b : Block) (env : Env) (packet : Packet) (cs ds rest more : List ℕ) (x y : End) → DoesAll w b env packet cs x → DoesAll w b env packet ds y → cs ++ rest ≡ ds ++ more → (x ≡ y) × (rest ≡ more)
one_end w b env packet cs ds rest more x y d e h =
    let both : ◌≡◌ {A = Ended} (Some (x, rest)) (Some (y, more)) = sym (takes_all w b env packet cs x d rest) ∙ ap (run_all w b env packet) h ∙ takes_all w b env packet ds y e more in
    (ap (end_or x) both, ap (rest_or rest) both)

-- ---- what was computed is so related

-- an end with its choices
abbrev some_of : End → List ℕ → Ended
some_of e cs = Some (e, cs)

-- the pair of both
abbrev pair_with : End → List ℕ → End × List ℕ
pair_with e cs = (e, cs)

-- the parts of two equal ends
pair_of : {x y : End} {cs ds : List ℕ} → ◌≡◌ {A = Ended} (Some (x, cs)) (Some (y, ds)) → (x ≡ y) × (cs ≡ ds)
pair_of {x} {y} {cs} {ds} h = (ap (end_or x) h, ap (rest_or cs) h)

-- what is there, else the default
abbrev unwrap_or_else : {B : Type 0} → B → Option B → B
unwrap_or_else d None = d
unwrap_or_else d (Some b) = b

-- what is mapped to something was there
map_some : {A B : Type 0} (f : A → B) (o : Option A) (y : B) → option_map f o ≡ Some y → (x : A) × (o ≡ Some x) × (f x ≡ y)
map_some f None y h = absurd cc
map_some f (Some x) y h = (x, refl, ap (unwrap_or_else y) h)

-- what goes on to something was there
then_is_some : {A B : Type 0} (f : A → Option B) (o : Option A) (y : B) → option_and_then f o ≡ Some y → (x : A) × (o ≡ Some x) × (f x ≡ Some y)
then_is_some f None y h = absurd cc
then_is_some f (Some x) y h = (x, refl, h)

-- a value was true
was_true : (v : Option Value) (r : Ended) (y : End × List ℕ) → where_true v r ≡ Some y → (v ≡ Some (truth true)) × (r ≡ Some y)
was_true None r y h = absurd cc
was_true (Some (truth true)) r y h = (refl, h)
was_true (Some (truth false)) r y h = absurd cc
was_true (Some (number w n)) r y h = absurd cc

-- a value was true or false
was_either : (v : Option Value) (r s : Ended) (y : End × List ℕ) → by_truth v r s ≡ Some y → ((v ≡ Some (truth true)) × (r ≡ Some y)) ⊎ ((v ≡ Some (truth false)) × (s ≡ Some y))
was_either None r s y h = absurd cc
was_either (Some (truth true)) r s y h = inl (refl, h)
was_either (Some (truth false)) r s y h = inr (refl, h)
was_either (Some (number w n)) r s y h = absurd cc

-- a choice fitted
fitted : (b : Bool) (x : Ended) (y : End × List ℕ) → cond b x None ≡ Some y → (b ≡ true) × (x ≡ Some y)
fitted true x y h = (refl, h)
fitted false x y h = absurd cc

-- a choice was taken
was_taken : (width : ℕ) (cs : List ℕ) (f : ℕ → List ℕ → Ended) (y : End × List ℕ) → take_one width cs f ≡ Some y → (c : ℕ) × (rest : List ℕ) × (cs ≡ c ∷ rest) × FitsWidth width c × (f c rest ≡ Some y)
was_taken width [] f y h = absurd cc
was_taken width (c ∷ cs) f y h =
    let g : (fits_width width c ≡ true) × (f c cs ≡ Some y) = fitted (fits_width width c) (f c cs) y h in
    (c, cs, refl, ltb-true c (2 ^ width) g.0, g.1)

-- the end of a branch
was_back : (env : Env) (r : Ended) (end : End) (rest : List ℕ) → back env r ≡ Some (end, rest) → (inner : End) × (r ≡ Some (inner, rest)) × (end ≡ back_to env inner)
was_back env None end rest h = absurd cc
was_back env (Some r) end rest h = (r.0, ap (λ cs. some_of r.0 cs) (pair_of h).1, sym (pair_of h).0)

-- a run sent
was_sent : (r : Ended) (end : End) (rest : List ℕ) → only_sends r ≡ Some (end, rest) → (to : Loc) × (sent : Packet) × (r ≡ Some (sends to sent, rest)) × (end ≡ sends to sent)
was_sent None end rest h = absurd cc
was_sent (Some r) end rest h = by_end r.0 r.1 h
  where
    by_end : (e : End) (cs : List ℕ) → only_sent e cs ≡ Some (end, rest) → (to : Loc) × (sent : Packet) × (some_of e cs ≡ Some (sends to sent, rest)) × (end ≡ sends to sent)
    by_end (falls env packet) cs h = absurd cc
    by_end (sends to packet) cs h = (to, packet, ap (some_of (sends to packet)) (pair_of h).1, sym (pair_of h).0)

-- a run fell, or sent
went_on : (r : Ended) (f : Env → Packet → List ℕ → Ended) (end : End) (rest : List ℕ) → go_on r f ≡ Some (end, rest)
    → ((env : Env) × (packet : Packet) × (more : List ℕ) × (r ≡ Some (falls env packet, more)) × (f env packet more ≡ Some (end, rest)))
    ⊎ ((to : Loc) × (sent : Packet) × (r ≡ Some (sends to sent, rest)) × (end ≡ sends to sent))
went_on None f end rest h = absurd cc
went_on (Some r) f end rest h = by_end r.0 r.1 h
  where
    by_end : (e : End) (cs : List ℕ) → after e cs f ≡ Some (end, rest)
        → ((env : Env) × (packet : Packet) × (more : List ℕ) × (some_of e cs ≡ Some (falls env packet, more)) × (f env packet more ≡ Some (end, rest)))
        ⊎ ((to : Loc) × (sent : Packet) × (some_of e cs ≡ Some (sends to sent, rest)) × (end ≡ sends to sent))
    by_end (falls env packet) cs h = inl (env, packet, cs, refl, h)
    by_end (sends to packet) cs h = inr (to, packet, ap (some_of (sends to packet)) (pair_of h).1, sym (pair_of h).0)

-- a location whose guard is true stands
guard_true : (w : World) (at : Loc) → guard_at w at ≡ Some (truth true) → CanStand w at
guard_true w at h =
    let r : (r : Role) × (w.role at.role ≡ Some r) × (option_and_then (λ env. value w.context env [] r.guard) (bind r.params at.values) ≡ Some (truth true)) = then_is_some _ (w.role at.role) (truth true) h in
    let e : (env : Env) × (bind r.0.params at.values ≡ Some env) × (value w.context env [] r.0.guard ≡ Some (truth true)) = then_is_some _ (bind r.0.params at.values) (truth true) r.2 in
    (r.0, e.0, r.1, e.1, e.2)

mutual
  -- a statement that is run so ends so
  pub gives : (w : World) (s : Stmt) (env : Env) (packet : Packet) (cs : List ℕ) (end : End) (rest : List ℕ) → run w s env packet cs ≡ Some (end, rest) → Used cs rest (λ used. Does w s env packet used end)
  gives w (let_ at x width e) env packet cs end rest h =
      let m : (v : Value) × (value w.context env packet e ≡ Some v) × (pair_with (falls (bound x.text v env) packet) cs ≡ pair_with end rest) = map_some _ (value w.context env packet e) (end, rest) h in
      ([], ap (λ p. p.1) m.2, (m.0, m.1, refl, sym (ap (λ p. p.0) m.2)))
  gives w (set_field at h f e) env packet cs end rest g =
      let m : (n : ℕ) × (option_and_then as_number (value w.context env packet e) ≡ Some n) × (pair_with (falls env (write_field w.context.headers packet h.text f.text n)) cs ≡ pair_with end rest) = map_some _ (option_and_then as_number (value w.context env packet e)) (end, rest) g in
      let v : (v : Value) × (value w.context env packet e ≡ Some v) × (as_number v ≡ Some m.0) = then_is_some as_number (value w.context env packet e) m.0 m.1 in
      ([], ap (λ p. p.1) m.2, (v.0, m.0, v.1, v.2, refl, sym (ap (λ p. p.0) m.2)))
  gives w (if_ at e first second) env packet cs end rest h =
      let b : (inner : End) × (by_truth (value w.context env packet e) (run_all w first env packet cs) (run_all w second env packet cs) ≡ Some (inner, rest)) × (end ≡ back_to env inner) = was_back env _ end rest h in
      elim (was_either (value w.context env packet e) (run_all w first env packet cs) (run_all w second env packet cs) (b.0, rest) b.1) [
        | inl t ↦ let g : Used cs rest (λ used. DoesAll w first env packet used b.0) = gives_all w first env packet cs b.0 rest t.1 in (g.0, g.1, (b.0, b.2, inl (t.0, g.2)))
        | inr t ↦ let g : Used cs rest (λ used. DoesAll w second env packet used b.0) = gives_all w second env packet cs b.0 rest t.1 in (g.0, g.1, (b.0, b.2, inr (t.0, g.2)))
      ]
  gives w (filter at e) env packet cs end rest h =
      let t : (value w.context env packet e ≡ Some (truth true)) × (some_of (falls env packet) cs ≡ Some (end, rest)) = was_true _ _ (end, rest) h in
      ([], (pair_of t.1).1, (t.0, refl, sym (pair_of t.1).0))
  gives w (havoc_var at x width) env packet cs end rest h =
      let t : (c : ℕ) × (more : List ℕ) × (cs ≡ c ∷ more) × FitsWidth width c × (some_of (falls (bound x.text (number width c) env) packet) more ≡ Some (end, rest)) = was_taken width cs _ (end, rest) h in
      (t.0 ∷ [], t.2 ∙ ap (λ r. t.0 ∷ r) (pair_of t.4).1, (t.0, t.3, refl, sym (pair_of t.4).0))
  gives w (havoc_field at h f) env packet cs end rest g =
      let m : (width : ℕ) × (field_width w.context.headers h.text f.text ≡ Some width) × (take_one width cs (λ c rest. Some (falls env (write_field w.context.headers packet h.text f.text c), rest)) ≡ Some (end, rest)) = then_is_some _ (field_width w.context.headers h.text f.text) (end, rest) g in
      let t : (c : ℕ) × (more : List ℕ) × (cs ≡ c ∷ more) × FitsWidth m.0 c × (some_of (falls env (write_field w.context.headers packet h.text f.text c)) more ≡ Some (end, rest)) = was_taken m.0 cs _ (end, rest) m.2 in
      (t.0 ∷ [], t.2 ∙ ap (λ r. t.0 ∷ r) (pair_of t.4).1, (t.0, m.0, m.1, t.3, refl, sym (pair_of t.4).0))
  gives w (assume at e) env packet cs end rest h =
      let t : (value w.context env packet e ≡ Some (truth true)) × (some_of (falls env packet) cs ≡ Some (end, rest)) = was_true _ _ (end, rest) h in
      ([], (pair_of t.1).1, (t.0, refl, sym (pair_of t.1).0))
  gives w (fork at x width e body) env packet cs end rest h =
      let t : (c : ℕ) × (more : List ℕ) × (cs ≡ c ∷ more) × FitsWidth width c × (where_true (value w.context (bound x.text (number width c) env) packet e) (only_sends (run_all w body (bound x.text (number width c) env) packet more)) ≡ Some (end, rest)) = was_taken width cs _ (end, rest) h in
      let u : (value w.context (bound x.text (number width t.0) env) packet e ≡ Some (truth true)) × (only_sends (run_all w body (bound x.text (number width t.0) env) packet t.1) ≡ Some (end, rest)) = was_true _ _ (end, rest) t.4 in
      let v : (to : Loc) × (sent : Packet) × (run_all w body (bound x.text (number width t.0) env) packet t.1 ≡ Some (sends to sent, rest)) × (end ≡ sends to sent) = was_sent _ end rest u.1 in
      let g : Used t.1 rest (λ used. DoesAll w body (bound x.text (number width t.0) env) packet used (sends v.0 v.1)) = gives_all w body (bound x.text (number width t.0) env) packet t.1 (sends v.0 v.1) rest v.2 in
      (t.0 ∷ g.0, t.2 ∙ ap (λ r. t.0 ∷ r) g.1, (t.0, g.0, v.0, v.1, t.3, refl, u.0, g.2, v.3))
  gives w (send at r es) env packet cs end rest h =
      let m : (ns : List ℕ) × (numbers w.context env packet es ≡ Some ns) × (where_true (guard_at w (record { role = r.text; values = ns })) (Some (sends (record { role = r.text; values = ns }) packet, cs)) ≡ Some (end, rest)) = then_is_some _ (numbers w.context env packet es) (end, rest) h in
      let t : (guard_at w (record { role = r.text; values = m.0 }) ≡ Some (truth true)) × (some_of (sends (record { role = r.text; values = m.0 }) packet) cs ≡ Some (end, rest)) = was_true _ _ (end, rest) m.2 in
      ([], (pair_of t.1).1, (m.0, m.1, guard_true w _ t.0, refl, sym (pair_of t.1).0))

  -- a block that is run so ends so
  pub gives_all : (w : World) (b : Block) (env : Env) (packet : Packet) (cs : List ℕ) (end : End) (rest : List ℕ) → run_all w b env packet cs ≡ Some (end, rest) → Used cs rest (λ used. DoesAll w b env packet used end)
  gives_all w no_stmts env packet cs end rest h = ([], (pair_of h).1, (refl, sym (pair_of h).0))
  gives_all w (stmt s more) env packet cs end rest h =
      elim (went_on (run w s env packet cs) (λ env' packet' more'. run_all w more env' packet' more') end rest h) [
        | inl t ↦
            let g : Used cs t.2 (λ used. Does w s env packet used (falls t.0 t.1)) = gives w s env packet cs (falls t.0 t.1) t.2 t.3 in
            let k : Used t.2 rest (λ used. DoesAll w more t.0 t.1 used end) = gives_all w more t.0 t.1 t.2 end rest t.4 in
            (g.0 ++ k.0, g.1 ∙ ap (λ r. g.0 ++ r) k.1 ∙ sym (append_assoc g.0 k.0 rest), inl (t.0, t.1, g.0, k.0, g.2, k.2, refl))
        | inr t ↦
            let g : Used cs rest (λ used. Does w s env packet used (sends t.0 t.1)) = gives w s env packet cs (sends t.0 t.1) rest t.2 in
            (g.0, g.1, inr (t.0, t.1, g.2, t.3))
      ]

-- ---- bodies and chains of them

-- a body that runs so is run so
pub go_takes : (w : World) (from : Loc) (packet : Packet) (cs : List ℕ) (to : Loc) (sent : Packet) → Go w from packet cs to sent → (rest : List ℕ) → go w from packet (cs ++ rest) ≡ Some (to, sent, rest)
go_takes w from packet cs to sent g rest =
    rw (at_guard w from g.stands, g.role_is, g.body_is, g.env_is, takes_all w g.body g.env packet cs _ g.does rest) refl

-- the sink stops
stops : (w : World) (from : Loc) (r s : Reached) → IsSink w from → or_stop (w.role from.role) r s ≡ r
stops w from r s h = rw (h.1, h.2) refl

-- a role with a body goes on
goes : (w : World) (from : Loc) (r s : Reached) (packet : Packet) (cs : List ℕ) (to : Loc) (sent : Packet) → Go w from packet cs to sent → or_stop (w.role from.role) r s ≡ s
goes w from r s packet cs to sent g = rw (g.role_is, g.body_is) refl

-- a chain that walks so is walked so
pub walk_takes : (w : World) (n : ℕ) (from : Loc) (packet : Packet) (cs : List ℕ) (to : Loc) (sent : Packet) → Walk w n from packet cs to sent → (rest : List ℕ) → walk w n from packet (cs ++ rest) ≡ Some (to, sent, rest)
walk_takes w zero from packet cs to sent h rest = stops w from _ _ h.0 ∙ rw (h.1, h.2, h.3) refl
walk_takes w (suc n) from packet cs to sent h rest =
    elim h [
      | inl s ↦ stops w from _ _ s.0 ∙ rw (s.1, s.2, s.3) refl
      | inr m ↦ goes w from _ _ packet m.2 m.0 m.1 m.4 ∙
          rw (m.6, append_assoc m.2 m.3 rest, go_takes w from packet m.2 m.0 m.1 m.4 (m.3 ++ rest)) (walk_takes w n m.0 m.1 m.3 to sent m.5 rest)
    ]

-- ---- and the same of bodies and chains

-- the location
abbrev to_or : Loc → Reached → Loc
to_or d None = d
to_or d (Some r) = r.0

-- the packet
abbrev sent_or : Packet → Reached → Packet
sent_or d None = d
sent_or d (Some r) = r.1

-- the choices
abbrev left_or : List ℕ → Reached → List ℕ
left_or d None = d
left_or d (Some r) = r.2

-- all three
abbrev triple : Loc → Packet → List ℕ → Reached
triple to sent cs = Some (to, sent, cs)

-- a run that leads on sent
was_reached : (r : Ended) (to : Loc) (sent : Packet) (rest : List ℕ) → if_reached r ≡ Some (to, sent, rest) → r ≡ Some (sends to sent, rest)
was_reached None to sent rest h = absurd cc
was_reached (Some r) to sent rest h = by_end r.0 r.1 h
  where
    by_end : (e : End) (cs : List ℕ) → reached e cs ≡ Some (to, sent, rest) → some_of e cs ≡ Some (sends to sent, rest)
    by_end (falls env packet) cs h = absurd cc
    by_end (sends to' packet) cs h =
        let f : List ℕ → Ended = λ x. Some (sends to' packet, x) in
        let g : Packet → Ended = λ x. Some (sends to' x, rest) in
        let k : Loc → Ended = λ x. Some (sends x sent, rest) in
        ap f (ap (left_or cs) h) ∙ ap g (ap (sent_or packet) h) ∙ ap k (ap (to_or to') h)

-- a guard was true
guarded : (v : Option Value) (r : Reached) (y : Loc × Packet × List ℕ) → if_true v r ≡ Some y → (v ≡ Some (truth true)) × (r ≡ Some y)
guarded None r y h = absurd cc
guarded (Some (truth true)) r y h = (refl, h)
guarded (Some (truth false)) r y h = absurd cc
guarded (Some (number w n)) r y h = absurd cc

-- the body that was run
body_gives : (w : World) (from : Loc) (packet : Packet) (cs : List ℕ) (to : Loc) (sent : Packet) (rest : List ℕ) (r : Role) (b : Option Block)
    → CanStand w from → w.role from.role ≡ Some r → r.body ≡ b → body_go w r b from packet cs ≡ Some (to, sent, rest) → Used cs rest (λ used. Go w from packet used to sent)
body_gives w from packet cs to sent rest r None s e f h = absurd cc
body_gives w from packet cs to sent rest r (Some b) s e f h =
    let m : (env : Env) × (bind r.params from.values ≡ Some env) × (if_reached (run_all w b env packet cs) ≡ Some (to, sent, rest)) = then_is_some _ (bind r.params from.values) (to, sent, rest) h in
    let g : Used cs rest (λ used. DoesAll w b m.0 packet used (sends to sent)) = gives_all w b m.0 packet cs (sends to sent) rest (was_reached _ to sent rest m.2) in
    (g.0, g.1, record { role = r; body = b; env = m.0; stands = s; role_is = e; body_is = f; env_is = m.1; does = g.2 })

-- a body that is run so runs so
pub go_gives : (w : World) (from : Loc) (packet : Packet) (cs : List ℕ) (to : Loc) (sent : Packet) (rest : List ℕ) → go w from packet cs ≡ Some (to, sent, rest) → Used cs rest (λ used. Go w from packet used to sent)
go_gives w from packet cs to sent rest h =
    let t : (guard_at w from ≡ Some (truth true)) × (option_and_then (λ (r : Role). body_go w r r.body from packet cs) (w.role from.role) ≡ Some (to, sent, rest)) = guarded _ _ (to, sent, rest) h in
    let r : (r : Role) × (w.role from.role ≡ Some r) × (body_go w r r.body from packet cs ≡ Some (to, sent, rest)) = then_is_some _ (w.role from.role) (to, sent, rest) t.1 in
    body_gives w from packet cs to sent rest r.0 r.0.body (guard_true w from t.0) r.1 refl r.2

-- at the sink the chain stops, and elsewhere it goes on
either_way : (w : World) (from : Loc) (o : Option Role) (stop more : Reached) (y : Loc × Packet × List ℕ) → w.role from.role ≡ o → or_stop o stop more ≡ Some y → (IsSink w from × (stop ≡ Some y)) ⊎ (more ≡ Some y)
either_way w from None stop more y e h = inr h
either_way w from (Some r) stop more y e h = by_body r.body refl h
  where
    by_body : (b : Option Block) → r.body ≡ b → (elim b as (λ x. Reached) [ None ↦ stop | Some b ↦ more ]) ≡ Some y → (IsSink w from × (stop ≡ Some y)) ⊎ (more ≡ Some y)
    by_body None f h = inl ((r, e, f), h)
    by_body (Some b) f h = inr h

-- a chain that went on
walked_on : (r : Reached) (f : Loc → Packet → List ℕ → Reached) (y : Loc × Packet × List ℕ) → then_walk r f ≡ Some y → (mid : Loc) × (between : Packet) × (more : List ℕ) × (r ≡ Some (mid, between, more)) × (f mid between more ≡ Some y)
walked_on None f y h = absurd cc
walked_on (Some r) f y h = (r.0, r.1, r.2, refl, h)

-- a chain that is walked so walks so
pub walk_gives : (w : World) (n : ℕ) (from : Loc) (packet : Packet) (cs : List ℕ) (to : Loc) (sent : Packet) (rest : List ℕ) → walk w n from packet cs ≡ Some (to, sent, rest) → Used cs rest (λ used. Walk w n from packet used to sent)
walk_gives w zero from packet cs to sent rest h =
    elim (either_way w from (w.role from.role) (triple from packet cs) None (to, sent, rest) refl h) [
      | inl s ↦ ([], ap (left_or cs) s.1, (s.0, refl, sym (ap (to_or from) s.1), sym (ap (sent_or packet) s.1)))
      | inr e ↦ absurd cc
    ]
walk_gives w (suc n) from packet cs to sent rest h =
    elim (either_way w from (w.role from.role) (triple from packet cs) (then_walk (go w from packet cs) (walk w n)) (to, sent, rest) refl h) [
      | inl s ↦ ([], ap (left_or cs) s.1, inl (s.0, refl, sym (ap (to_or from) s.1), sym (ap (sent_or packet) s.1)))
      | inr e ↦
          let m : (mid : Loc) × (between : Packet) × (more : List ℕ) × (go w from packet cs ≡ Some (mid, between, more)) × (walk w n mid between more ≡ Some (to, sent, rest)) = walked_on (go w from packet cs) (walk w n) (to, sent, rest) e in
          let g : Used cs m.2 (λ used. Go w from packet used m.0 m.1) = go_gives w from packet cs m.0 m.1 m.2 m.3 in
          let k : Used m.2 rest (λ used. Walk w n m.0 m.1 used to sent) = walk_gives w n m.0 m.1 m.2 to sent rest m.4 in
          (g.0 ++ k.0, g.1 ∙ ap (λ r. g.0 ++ r) k.1 ∙ sym (append_assoc g.0 k.0 rest), inr (m.0, m.1, g.0, k.0, g.2, k.2, refl))
    ]

-- all four
pub runs_are_taken : RunsAreTaken
runs_are_taken = record { takes = go_takes; gives = go_gives; walk_takes = walk_takes; walk_gives = walk_gives }
