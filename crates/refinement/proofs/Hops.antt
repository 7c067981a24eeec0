-- Segments are computed: a segment that ends at an old role, or after as many bodies as are allowed, is what the program that
-- notes branches gives, and it gives nothing else.
use Rattle.std.proofs.Common.{◌≡◌, ℕ, zero, suc, ◌≤◌, List, [], ◌++◌, Bool, true, false, cond, Option, Some, None, option_map, option_and_then, refl, sym, ap, subst, ◌∙◌, arith}
use Rattle.std.proofs.lemmas.List.{append_assoc}
use Rattle.cocoon_num.specs.Packets.{Packet}
use Rattle.cocoon_num.specs.Tree.{Refine, Design}
use Rattle.cocoon_types.specs.Runs.{Go, Loc, world}
use Rattle.cocoon_types.specs.Tables.{Defs}
use Rattle.cocoon_types.specs.Taken.{Reached, RunsAreTaken, Used}
use Rattle.refinement.specs.Plain.{plainly}
use Rattle.refinement.proofs.Ways.{same_go}
use Rattle.refinement.specs.Segments.{IsNew, IsRefined, Segment, Through, is_new}
use Rattle.refinement.specs.Ways.{Arrival, Way, after, go_by, hops_by, if_new}

-- an arrival by its parts
abbrev arrive : Loc → Packet → List ℕ → Way → Arrival
arrive to sent rest way = record { to = to; sent = sent; rest = rest; way = way }

-- ---- parts of what is there

abbrev to_or : Loc → Option Arrival → Loc
to_or x None = x
to_or x (Some a) = a.to

abbrev sent_or : Packet → Option Arrival → Packet
sent_or x None = x
sent_or x (Some a) = a.sent

abbrev rest_or : List ℕ → Option Arrival → List ℕ
rest_or x None = x
rest_or x (Some a) = a.rest

abbrev first_or : Loc → Reached → Loc
first_or x None = x
first_or x (Some r) = r.0

abbrev second_or : Packet → Reached → Packet
second_or x None = x
second_or x (Some r) = r.1

abbrev third_or : List ℕ → Reached → List ℕ
third_or x None = x
third_or x (Some r) = r.2

-- a run that leads so does so by some way
by_way : (o : Option Arrival) (to : Loc) (sent : Packet) (rest : List ℕ) → plainly o ≡ Some (to, sent, rest) → (way : Way) × (o ≡ Some (arrive to sent rest way))
by_way None to sent rest h = absurd (cc)
by_way (Some a) to sent rest h =
    let p : a.to ≡ to = ap (first_or to) h in
    let q : a.sent ≡ sent = ap (second_or sent) h in
    let r : a.rest ≡ rest = ap (third_or rest) h in
    (a.way, λ i. Some (arrive (p i) (q i) (r i) a.way))

some_there : {A B : Type 0} (f : A → Option B) (o : Option A) (b : B) → option_and_then f o ≡ Some b → (a : A) × (o ≡ Some a) × (f a ≡ Some b)
some_there f None b h = absurd (cc)
some_there f (Some a) b h = (a, refl, h)

-- what follows a body
next_takes : (b : Bool) (mid : Loc) (between : Packet) (rest : List ℕ) (way : Way) (f : Loc → Packet → List ℕ → Option Arrival) (c : Arrival)
    → cond b (f mid between rest) (Some (arrive mid between rest [])) ≡ Some c → (w : Way) × (if_new b (arrive mid between rest way) f ≡ Some (arrive c.to c.sent c.rest w))
next_takes true mid between rest way f c h = (way ++ c.way, ap (option_map (after way)) h)
next_takes false mid between rest way f c h =
    let p : mid ≡ c.to = ap (to_or mid) h in
    let q : between ≡ c.sent = ap (sent_or between) h in
    let r : rest ≡ c.rest = ap (rest_or rest) h in
    (way, λ i. Some (arrive (p i) (q i) (r i) way))

mapped_there : (way : Way) (o : Option Arrival) (a : Arrival) → option_map (after way) o ≡ Some a → (c : Arrival) × (o ≡ Some c) × (c.to ≡ a.to) × (c.sent ≡ a.sent) × (c.rest ≡ a.rest)
mapped_there way None a h = absurd (cc)
mapped_there way (Some c) a h = (c, refl, ap (to_or c.to) h, ap (sent_or c.sent) h, ap (rest_or c.rest) h)

next_gives : (b : Bool) (m : Arrival) (f : Loc → Packet → List ℕ → Option Arrival) (a : Arrival) → if_new b m f ≡ Some a
    → (c : Arrival) × (cond b (f m.to m.sent m.rest) (Some (arrive m.to m.sent m.rest [])) ≡ Some c) × (c.to ≡ a.to) × (c.sent ≡ a.sent) × (c.rest ≡ a.rest)
next_gives true m f a h = mapped_there m.way (f m.to m.sent m.rest) a h
next_gives false m f a h = (arrive m.to m.sent m.rest [], refl, ap (to_or m.to) h, ap (sent_or m.sent) h, ap (rest_or m.rest) h)

module _ (taken : RunsAreTaken) (above : ℕ) (d : Design) (defs : Defs) where
  -- from a new role on it goes on, and elsewhere it stops
  abbrev onward : ℕ → Loc → Packet → List ℕ → Option Arrival
  onward n from packet cs = cond (is_new above d from.role) (hops_by above d defs n from packet cs) (Some (arrive from packet cs []))

  -- ---- what runs is computed

  body_takes : (from : Loc) (packet : Packet) (cs : List ℕ) (to : Loc) (sent : Packet) → Go (world (suc above) d defs) from packet cs to sent → (rest : List ℕ)
      → (way : Way) × (go_by (world (suc above) d defs) from packet (cs ++ rest) ≡ Some (arrive to sent rest way))
  body_takes from packet cs to sent g rest =
      by_way (go_by (world (suc above) d defs) from packet (cs ++ rest)) to sent rest (same_go (world (suc above) d defs) from packet (cs ++ rest) ∙ taken.takes (world (suc above) d defs) from packet cs to sent g rest)

  -- a body, and what follows it
  hop_takes : (n : ℕ) (from : Loc) (packet : Packet) (cs : List ℕ) (mid : Loc) (between : Packet) → Go (world (suc above) d defs) from packet cs mid between → (rest : List ℕ) (c : Arrival) → onward n mid between rest ≡ Some c
      → (way : Way) × (hops_by above d defs (suc n) from packet (cs ++ rest) ≡ Some (arrive c.to c.sent c.rest way))
  hop_takes n from packet cs mid between g rest c h =
      let b = body_takes from packet cs mid between g rest in
      let t = next_takes (is_new above d mid.role) mid between rest b.0 (hops_by above d defs n) c h in
      (t.0, ap (option_and_then (λ (a : Arrival). if_new (is_new above d a.to.role) a (hops_by above d defs n))) b.1 ∙ t.1)

  stop_by : (b : Bool) (n : ℕ) (from : Loc) (packet : Packet) (cs : List ℕ) → (b ≡ true → 0 ≡ n) → cond b (hops_by above d defs n from packet cs) (Some (arrive from packet cs [])) ≡ Some (arrive from packet cs [])
  stop_by true n from packet cs h = ap (λ k. hops_by above d defs k from packet cs) (sym (h refl))
  stop_by false n from packet cs h = refl

  go_on_new : (b : Bool) (x y z : Option Arrival) → b ≡ true → x ≡ z → cond b x y ≡ z
  go_on_new true x y z e h = h
  go_on_new false x y z e h = absurd (cc)

  through_takes : (k n : ℕ) → k ≤ n → (from : Loc) (packet : Packet) (cs : List ℕ) (to : Loc) (sent : Packet) → Through above d defs from packet cs k to sent → (IsNew above d to → k ≡ n) → (rest : List ℕ)
      → (way : Way) × (onward n from packet (cs ++ rest) ≡ Some (arrive to sent rest way))
  through_takes zero n l from packet cs to sent t stop rest = (
    [],
    ap (λ xs. onward n from packet (xs ++ rest)) t.0 ∙ stop_by (is_new above d from.role) n from packet rest (λ e. stop (ap (λ (x : Loc). is_new above d x.role) t.1 ∙ e))
        ∙ (λ i. Some (arrive (sym t.1 i) (sym t.2 i) rest [])),
  )
  through_takes (suc k) zero l from packet cs to sent t stop rest = absurd (omega (arith, l))
  through_takes (suc k) (suc n) l from packet cs to sent t stop rest =
      let m = t.1 in
      let later = through_takes k n (omega (arith, l)) m.0 m.1 m.3 to sent m.5 (λ e. let s : suc k ≡ suc n = stop e in omega (arith, s)) rest in
      let hop = hop_takes n from packet m.2 m.0 m.1 m.4 (m.3 ++ rest) (arrive to sent rest later.0) later.1 in (
        hop.0,
        go_on_new (is_new above d from.role) (hops_by above d defs (suc n) from packet (cs ++ rest)) (Some (arrive from packet (cs ++ rest) [])) (Some (arrive to sent rest hop.0)) t.0
            (ap (hops_by above d defs (suc n) from packet) (ap (λ xs. xs ++ rest) m.6 ∙ append_assoc m.2 m.3 rest) ∙ hop.1),
      )

  -- a segment that has left the new roles, or has as many bodies as are allowed, is computed
  pub segment_takes : (block : Refine) (from : Loc) (packet : Packet) (cs : List ℕ) (bodies : ℕ) (to : Loc) (sent : Packet) → Segment above d block defs from packet cs bodies to sent → (most : ℕ) → bodies ≤ most
      → (IsNew above d to → bodies ≡ most) → (rest : List ℕ) → (way : Way) × (hops_by above d defs most from packet (cs ++ rest) ≡ Some (arrive to sent rest way))
  segment_takes block from packet cs zero to sent s most l stop rest = absurd s
  segment_takes block from packet cs (suc k) to sent s zero l stop rest = absurd (omega (arith, l))
  segment_takes block from packet cs (suc k) to sent s (suc n) l stop rest =
      let m = s.1 in
      let later = through_takes k n (omega (arith, l)) m.0 m.1 m.3 to sent m.5 (λ e. let t : suc k ≡ suc n = stop e in omega (arith, t)) rest in
      let hop = hop_takes n from packet m.2 m.0 m.1 m.4 (m.3 ++ rest) (arrive to sent rest later.0) later.1 in
      (hop.0, ap (hops_by above d defs (suc n) from packet) (ap (λ xs. xs ++ rest) m.6 ∙ append_assoc m.2 m.3 rest) ∙ hop.1)

  -- ---- what is computed runs

  -- so many bodies, at most n, lead so; to a new role just n do
  abbrev pub Led : (n : ℕ) → Loc → Packet → List ℕ → Loc → Packet → Type 0
  Led n from packet used to sent = (k : ℕ) × (k ≤ n) × Through above d defs from packet used k to sent × (IsNew above d to → k ≡ n)

  -- the same behind a first body of any role
  abbrev pub LedOn : (n : ℕ) → Loc → Packet → List ℕ → Loc → Packet → Type 0
  LedOn n from packet used to sent =
      (mid : Loc) × (between : Packet) × (first more : List ℕ) × Go (world (suc above) d defs) from packet first mid between × Led n mid between more to sent × (used ≡ first ++ more)

  body_gives : (from : Loc) (packet : Packet) (cs : List ℕ) (m : Arrival) → go_by (world (suc above) d defs) from packet cs ≡ Some m → Used cs m.rest (λ used. Go (world (suc above) d defs) from packet used m.to m.sent)
  body_gives from packet cs m h =
      taken.gives (world (suc above) d defs) from packet cs m.to m.sent m.rest (sym (same_go (world (suc above) d defs) from packet cs) ∙ ap plainly h)

  hop_gives : (n : ℕ) → ((from : Loc) (packet : Packet) (cs : List ℕ) (a : Arrival) → onward n from packet cs ≡ Some a → Used cs a.rest (λ used. Led n from packet used a.to a.sent))
      → (from : Loc) (packet : Packet) (cs : List ℕ) (a : Arrival) → hops_by above d defs (suc n) from packet cs ≡ Some a → Used cs a.rest (λ used. LedOn n from packet used a.to a.sent)
  hop_gives n more from packet cs a h =
      let m = some_there (λ (x : Arrival). if_new (is_new above d x.to.role) x (hops_by above d defs n)) (go_by (world (suc above) d defs) from packet cs) a h in
      let c = next_gives (is_new above d m.0.to.role) m.0 (hops_by above d defs n) a m.2 in
      let g = body_gives from packet cs m.0 m.1 in
      let l : Used m.0.rest c.0.rest (λ used. Led n m.0.to m.0.sent used c.0.to c.0.sent) = more m.0.to m.0.sent m.0.rest c.0 c.1 in
      let led : Led n m.0.to m.0.sent l.0 a.to a.sent = subst (λ x. Led n m.0.to m.0.sent l.0 a.to x) c.3 (subst (λ x. Led n m.0.to m.0.sent l.0 x c.0.sent) c.2 l.2) in
      (g.0 ++ l.0, g.1 ∙ ap (λ xs. g.0 ++ xs) (l.1 ∙ ap (λ xs. l.0 ++ xs) c.4) ∙ sym (append_assoc g.0 l.0 a.rest), (m.0.to, m.0.sent, g.0, l.0, g.2, led, refl))

  stopped : (n : ℕ) (from : Loc) (packet : Packet) (cs : List ℕ) (a : Arrival) → ◌≡◌ {A = Option Arrival} (Some (arrive from packet cs [])) (Some a) → (IsNew above d a.to → 0 ≡ n) → Used cs a.rest (λ used. Led n from packet used a.to a.sent)
  stopped n from packet cs a h stop = ([], ap (rest_or cs) h, (0, omega arith, (refl, sym (ap (to_or from) h), sym (ap (sent_or packet) h)), stop))

  through_more : (n : ℕ) (from : Loc) (packet : Packet) (used : List ℕ) (to : Loc) (sent : Packet) → IsNew above d from → LedOn n from packet used to sent → Led (suc n) from packet used to sent
  through_more n from packet used to sent new l =
      let k = l.5 in
      (suc k.0, omega (arith, k.1), (new, (l.0, l.1, l.2, l.3, l.4, k.2, l.6)), λ e. let s : k.0 ≡ n = k.3 e in ap suc s)

  apart : (b : Bool) → b ≡ false → b ≡ true → ⊥
  apart true e f = absurd (cc)
  apart false e f = absurd (cc)

  onward_gives : (n : ℕ) (from : Loc) (packet : Packet) (cs : List ℕ) (a : Arrival) → onward n from packet cs ≡ Some a → Used cs a.rest (λ used. Led n from packet used a.to a.sent)
  onward_gives zero from packet cs a h = by_new (is_new above d from.role) h
    where
      by_new : (b : Bool) → cond b (Some (arrive from packet cs [])) (Some (arrive from packet cs [])) ≡ Some a → Used cs a.rest (λ used. Led 0 from packet used a.to a.sent)
      by_new true h = stopped 0 from packet cs a h (λ e. refl)
      by_new false h = stopped 0 from packet cs a h (λ e. refl)
  onward_gives (suc n) from packet cs a h = by_new (is_new above d from.role) refl (hop_gives n (onward_gives n) from packet cs a) h
    where
      by_new : (b : Bool) → is_new above d from.role ≡ b → (hops_by above d defs (suc n) from packet cs ≡ Some a → Used cs a.rest (λ used. LedOn n from packet used a.to a.sent))
          → cond b (hops_by above d defs (suc n) from packet cs) (Some (arrive from packet cs [])) ≡ Some a → Used cs a.rest (λ used. Led (suc n) from packet used a.to a.sent)
      by_new true e f h = let u = f h in (u.0, u.1, through_more n from packet u.0 a.to a.sent e u.2)
      by_new false e f h = stopped (suc n) from packet cs a h (λ new. absurd (apart (is_new above d from.role) e (ap (λ (x : Loc). is_new above d x.role) (ap (to_or from) h) ∙ new)))

  -- what is computed from a refined role is a segment, which has left the new roles or has as many bodies as are allowed
  pub segment_gives : (block : Refine) (n : ℕ) (from : Loc) (packet : Packet) (cs : List ℕ) (a : Arrival) → IsRefined block from → hops_by above d defs (suc n) from packet cs ≡ Some a
      → Used cs a.rest (λ used. (bodies : ℕ) × (bodies ≤ suc n) × Segment above d block defs from packet used bodies a.to a.sent × (IsNew above d a.to → bodies ≡ suc n))
  segment_gives block n from packet cs a listed h =
      let u = hop_gives n (onward_gives n) from packet cs a h in
      let l = u.2 in
      let k = l.5 in
      (u.0, u.1, (suc k.0, omega (arith, k.1), (listed, (l.0, l.1, l.2, l.3, l.4, k.2, l.6)), λ e. let s : k.0 ≡ n = k.3 e in ap suc s))
