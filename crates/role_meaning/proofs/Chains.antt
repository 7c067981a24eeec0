-- Segments that have stopped are computed, and what is computed is such a segment.
use Rattle.std.proofs.Common.{◌≡◌, ℕ, zero, suc, ◌+◌, ◌-◌, ◌<◌, ◌≤◌, ◌&&◌, List, [], ◌∷◌, ◌++◌, Bool, true, false, if◌then◌else◌, not, Option, Some, None, is_none, is_some, IfSome, option_map, option_and_then, refl, sym, ap, ap₂, subst, ◌∙◌, arith}
use Rattle.std.proofs.lemmas.List.{append_assoc, append-nil}
use Rattle.cocoon_num.specs.Packets.{Packet}
use Rattle.cocoon_num.specs.Tree.{Refine, Design, Role}
use Rattle.cocoon_types.specs.Design.{role_at}
use Rattle.cocoon_types.specs.Runs.{Go, Loc, world}
use Rattle.cocoon_types.specs.Tables.{Defs}
use Rattle.cocoon_types.specs.Taken.{go, RunsAreTaken, Used}
use Rattle.refinement.specs.Segments.{is_new, IsNew, IsRefined, Segment, Through}
use Rattle.role_meaning.specs.Located.{loc_of, role_name, sent_of}
use Rattle.role_meaning.specs.declared.place.Loc as code
use Rattle.role_meaning.specs.declared.place.Packet as sent
use Rattle.role_meaning.specs.Follows.{Follows, Stops}
use Rattle.role_meaning.specs.Onward.{chain, end_of, if_whole, onward, Stop}
use Rattle.role_meaning.specs.declared.following.Followed.{Followed}
use Rattle.role_meaning.specs.declared.following.Reached.{Reached}

there : {A B : Type 0} (f : A → Option B) (o : Option A) (b : B) → option_and_then f o ≡ Some b → (a : A) × (o ≡ Some a) × (f a ≡ Some b)
there f None b h = absurd (cc)
there f (Some a) b h = (a, refl, h)

-- parts of a stop that is there
abbrev count_or : ℕ → Option Stop → ℕ
count_or n None = n
count_or n (Some s) = s.0

abbrev to_or : Loc → Option Stop → Loc
to_or x None = x
to_or x (Some s) = s.1

abbrev sent_or : Packet → Option Stop → Packet
sent_or x None = x
sent_or x (Some s) = s.2

abbrev rest_or : List ℕ → Option Stop → List ℕ
rest_or x None = x
rest_or x (Some s) = s.3

then_of : {A : Type 0} (b : Bool) (x y : A) → b ≡ true → (if b then x else y) ≡ x
then_of true x y h = refl
then_of false x y h = absurd (cc)

else_of : {A : Type 0} (b : Bool) (x y : A) → b ≡ false → (if b then x else y) ≡ y
else_of true x y h = absurd (cc)
else_of false x y h = refl

apart : (b : Bool) → b ≡ false → b ≡ true → ⊥
apart true e f = cc
apart false e f = cc

module _ (taken : RunsAreTaken) (above : ℕ) (d : Design) (defs : Defs) where
  -- so many bodies lead so, and to a new role as many as may
  abbrev Led : (more n m : ℕ) → Loc → Packet → List ℕ → Loc → Packet → Type 0
  Led more n m from packet used to sent = (j : ℕ) × (m ≡ n + j) × (j ≤ more) × Through above d defs from packet used j to sent × (IsNew above d to → j ≡ more)

  stopped : (more n : ℕ) (from : Loc) (packet : Packet) (cs : List ℕ) (s : Stop) → ◌≡◌ {A = Option Stop} (Some (n, from, packet, cs)) (Some s) → (IsNew above d s.1 → 0 ≡ more)
      → Used cs s.3 (λ used. Led more n s.0 from packet used s.1 s.2)
  stopped more n from packet cs s h stop =
      let e = ap (count_or n) h in
      ([], ap (rest_or cs) h, (0, omega (arith, e), omega arith, (refl, sym (ap (to_or from) h), sym (ap (sent_or packet) h)), stop))

  one_more : (more n : ℕ) (from : Loc) (packet : Packet) (cs : List ℕ) (s : Stop) → is_new above d from.role ≡ true
      → ((mid : Loc) (between : Packet) (rest : List ℕ) → onward above d defs more (suc n) mid between rest ≡ Some s → Used rest s.3 (λ used. Led more (suc n) s.0 mid between used s.1 s.2))
      → option_and_then (λ (r : Loc × Packet × List ℕ). onward above d defs more (suc n) r.0 r.1 r.2) (go (world (suc above) d defs) from packet cs) ≡ Some s
      → Used cs s.3 (λ used. Led (suc more) n s.0 from packet used s.1 s.2)
  one_more more n from packet cs s new later h =
      let t = there (λ (r : Loc × Packet × List ℕ). onward above d defs more (suc n) r.0 r.1 r.2) (go (world (suc above) d defs) from packet cs) s h in
      let r = t.0 in
      let g = taken.gives (world (suc above) d defs) from packet cs r.0 r.1 r.2 t.1 in
      let l = later r.0 r.1 r.2 t.2 in
      let k = l.2 in
      let e = k.1 in (
        g.0 ++ l.0,
        g.1 ∙ ap (λ xs. g.0 ++ xs) l.1 ∙ sym (append_assoc g.0 l.0 s.3),
        (suc k.0, omega (arith, e), omega (arith, k.2), (new, (r.0, r.1, g.0, l.0, g.2, k.3, refl)), λ q. ap suc (k.4 q)),
      )

  onward_gives : (more n : ℕ) (from : Loc) (packet : Packet) (cs : List ℕ) (s : Stop) → onward above d defs more n from packet cs ≡ Some s → Used cs s.3 (λ used. Led more n s.0 from packet used s.1 s.2)
  onward_gives zero n from packet cs s h = stopped 0 n from packet cs s h (λ new. refl)
  onward_gives (suc more) n from packet cs s h =
      by_new (is_new above d from.role) more n from packet cs s refl (λ mid between rest k. onward_gives more (suc n) mid between rest s k) h
    where
      by_new : (b : Bool) (more n : ℕ) (from : Loc) (packet : Packet) (cs : List ℕ) (s : Stop) → is_new above d from.role ≡ b
          → ((mid : Loc) (between : Packet) (rest : List ℕ) → onward above d defs more (suc n) mid between rest ≡ Some s → Used rest s.3 (λ used. Led more (suc n) s.0 mid between used s.1 s.2))
          → (if b then option_and_then (λ (r : Loc × Packet × List ℕ). onward above d defs more (suc n) r.0 r.1 r.2) (go (world (suc above) d defs) from packet cs) else Some (n, from, packet, cs)) ≡ Some s
          → Used cs s.3 (λ used. Led (suc more) n s.0 from packet used s.1 s.2)
      by_new true more n from packet cs s e later h = one_more more n from packet cs s e later h
      by_new false more n from packet cs s e later h =
          stopped (suc more) n from packet cs s h (λ new. absurd (apart (is_new above d from.role) e (ap (λ (x : Loc). is_new above d x.role) (ap (to_or from) h) ∙ new)))

  -- ---- what runs is computed

  stands_still : (b : Bool) (more n : ℕ) (from : Loc) (packet : Packet) (cs : List ℕ) → is_new above d from.role ≡ b → (b ≡ true → 0 ≡ more) → onward above d defs more n from packet cs ≡ Some (n, from, packet, cs)
  stands_still b zero n from packet cs e h = refl
  stands_still true (suc more) n from packet cs e h = let q = h refl in absurd (omega (arith, q))
  stands_still false (suc more) n from packet cs e h = else_of (is_new above d from.role) _ _ e

  onward_takes : (j more n : ℕ) → j ≤ more → (from : Loc) (packet : Packet) (cs : List ℕ) (to : Loc) (sent : Packet) → Through above d defs from packet cs j to sent → (IsNew above d to → j ≡ more)
      → (rest : List ℕ) → onward above d defs more n from packet (cs ++ rest) ≡ Some (n + j, to, sent, rest)
  onward_takes zero more n l from packet cs to sent t stop rest =
      ap (λ xs. onward above d defs more n from packet (xs ++ rest)) t.0
      ∙ stands_still (is_new above d from.role) more n from packet rest refl (λ e. stop (ap (λ (x : Loc). is_new above d x.role) t.1 ∙ e))
      ∙ (λ i. Some (same_count n i, sym t.1 i, sym t.2 i, rest))
    where
      same_count : (n : ℕ) → n ≡ n + 0
      same_count n = omega arith
  onward_takes (suc j) zero n l from packet cs to sent t stop rest = absurd (omega (arith, l))
  onward_takes (suc j) (suc more) n l from packet cs to sent t stop rest =
      let m = t.1 in
      let ran = taken.takes (world (suc above) d defs) from packet m.2 m.0 m.1 m.4 (m.3 ++ rest) in
      let later = onward_takes j more (suc n) (omega (arith, l)) m.0 m.1 m.3 to sent m.5 (λ e. let s : suc j ≡ suc more = stop e in omega (arith, s)) rest in
      then_of (is_new above d from.role) _ _ t.0
      ∙ ap (option_and_then (λ (r : Loc × Packet × List ℕ). onward above d defs more (suc n) r.0 r.1 r.2))
      (ap (go (world (suc above) d defs) from packet) (ap (λ xs. xs ++ rest) m.6 ∙ append_assoc m.2 m.3 rest) ∙ ran)
      ∙ later ∙ (λ i. Some (same_count n j i, to, sent, rest))
    where
      same_count : (n j : ℕ) → suc n + j ≡ n + suc j
      same_count n j = omega arith

  -- ---- segments

  pub chain_gives : (block : Refine) (from : Loc) (packet : Packet) (cs : List ℕ) (n : ℕ) (to : Loc) (sent : Packet) → 1 ≤ block.within → IsRefined block from
      → chain above d defs block.within from packet cs ≡ Some (n, to, sent, []) → Stops above d block defs from packet cs n to sent
  chain_gives block from packet cs n to sent some listed h =
      let t = there (λ (r : Loc × Packet × List ℕ). onward above d defs (block.within - 1) 1 r.0 r.1 r.2) (go (world (suc above) d defs) from packet cs) (n, to, sent, []) h in
      let r = t.0 in
      let g = taken.gives (world (suc above) d defs) from packet cs r.0 r.1 r.2 t.1 in
      let l = onward_gives (block.within - 1) 1 r.0 r.1 r.2 (n, to, sent, []) t.2 in
      let k = l.2 in
      let e : n ≡ 1 + k.0 = k.1 in
      let bound = k.2 in
      let all : cs ≡ g.0 ++ l.0 = g.1 ∙ ap (λ xs. g.0 ++ xs) (l.1 ∙ append-nil l.0) in
      let whole : n ≡ suc k.0 = omega (arith, e) in
      record {
        segment = subst (λ x. Segment above d block defs from packet cs x to sent) (sym whole) (listed, (r.0, r.1, g.0, l.0, g.2, k.3, all));
        within = omega (arith, whole, bound, some);
        stops = λ q. (let s = k.4 q in omega (arith, whole, s, some));
      }

  pub chain_takes : (block : Refine) (from : Loc) (packet : Packet) (cs : List ℕ) (n : ℕ) (to : Loc) (sent : Packet) → Stops above d block defs from packet cs n to sent
      → chain above d defs block.within from packet cs ≡ Some (n, to, sent, [])
  chain_takes block from packet cs zero to sent s = absurd s.segment
  chain_takes block from packet cs (suc j) to sent s =
      let m = s.segment.1 in
      let bound = s.within in
      let ran = taken.takes (world (suc above) d defs) from packet m.2 m.0 m.1 m.4 m.3 in
      let later = onward_takes j (block.within - 1) 1 (omega (arith, bound)) m.0 m.1 m.3 to sent m.5 (λ e. let q = s.stops e in omega (arith, q)) [] in
      ap (option_and_then (λ (r : Loc × Packet × List ℕ). onward above d defs (block.within - 1) 1 r.0 r.1 r.2)) (ap (go (world (suc above) d defs) from packet) m.6 ∙ ran)
      ∙ ap (λ xs. onward above d defs (block.within - 1) 1 m.0 m.1 xs) (sym (append-nil m.3)) ∙ later ∙ (λ i. Some (same_count j i, to, sent, []))
    where
      same_count : (j : ℕ) → 1 + j ≡ suc j
      same_count j = omega arith

no_some : {A : Type 0} (x : A) → ◌≡◌ {A = Option A} None (Some x) → ⊥
no_some x h = cc

-- ---- the loop over bodies

-- one body more
pub one_on : (above : ℕ) (d : Design) (defs : Defs) (most bodies : ℕ) (at to : Loc) (packet sent : Packet) (cs rest : List ℕ) → bodies < most → is_new above d at.role ≡ true
    → Some (to, sent, rest) ≡ go (world (above + 1) d defs) at packet cs
    → onward above d defs (most - bodies) bodies at packet cs ≡ onward above d defs (most - (bodies + 1)) (bodies + 1) to sent rest
one_on above d defs most bodies at to packet sent cs rest l new h =
    let less : most - bodies ≡ suc (most - (bodies + 1)) = omega (arith, l) in
    let next : suc bodies ≡ bodies + 1 = omega arith in
    let level : suc above ≡ above + 1 = omega arith in
    ap (λ m. onward above d defs m bodies at packet cs) less
    ∙ then_of (is_new above d at.role) _ _ new
    ∙ ap (λ k. option_and_then (λ (r : Loc × Packet × List ℕ). onward above d defs (most - (bodies + 1)) (suc bodies) r.0 r.1 r.2) (go (world k d defs) at packet cs)) level
    ∙ ap (option_and_then (λ (r : Loc × Packet × List ℕ). onward above d defs (most - (bodies + 1)) (suc bodies) r.0 r.1 r.2)) (sym h)
    ∙ ap (λ n. onward above d defs (most - (bodies + 1)) n to sent rest) next

-- a body that leads nowhere
pub none_on : (above : ℕ) (d : Design) (defs : Defs) (most bodies : ℕ) (at : Loc) (packet : Packet) (cs : List ℕ) → bodies < most → is_new above d at.role ≡ true
    → None ≡ go (world (above + 1) d defs) at packet cs → onward above d defs (most - bodies) bodies at packet cs ≡ None
none_on above d defs most bodies at packet cs l new h =
    let less : most - bodies ≡ suc (most - (bodies + 1)) = omega (arith, l) in
    let level : suc above ≡ above + 1 = omega arith in
    ap (λ m. onward above d defs m bodies at packet cs) less
    ∙ then_of (is_new above d at.role) _ _ new
    ∙ ap (λ k. option_and_then (λ (r : Loc × Packet × List ℕ). onward above d defs (most - (bodies + 1)) (suc bodies) r.0 r.1 r.2) (go (world k d defs) at packet cs)) level
    ∙ ap (option_and_then (λ (r : Loc × Packet × List ℕ). onward above d defs (most - (bodies + 1)) (suc bodies) r.0 r.1 r.2)) (sym h)

-- the same of the first body
pub chain_some : (above : ℕ) (d : Design) (defs : Defs) (most : ℕ) (at to : Loc) (packet sent : Packet) (cs rest : List ℕ) → Some (to, sent, rest) ≡ go (world (above + 1) d defs) at packet cs
    → onward above d defs (most - 1) 1 to sent rest ≡ chain above d defs most at packet cs
chain_some above d defs most at to packet sent cs rest h =
    let level : above + 1 ≡ suc above = omega arith in
    ap (option_and_then (λ (r : Loc × Packet × List ℕ). onward above d defs (most - 1) 1 r.0 r.1 r.2)) h
    ∙ ap (λ k. option_and_then (λ (r : Loc × Packet × List ℕ). onward above d defs (most - 1) 1 r.0 r.1 r.2) (go (world k d defs) at packet cs)) level

pub chain_none : (above : ℕ) (d : Design) (defs : Defs) (most : ℕ) (at : Loc) (packet : Packet) (cs : List ℕ) → None ≡ go (world (above + 1) d defs) at packet cs → None ≡ chain above d defs most at packet cs
chain_none above d defs most at packet cs h =
    let level : above + 1 ≡ suc above = omega arith in
    ap (option_and_then (λ (r : Loc × Packet × List ℕ). onward above d defs (most - 1) 1 r.0 r.1 r.2)) h
    ∙ ap (λ k. option_and_then (λ (r : Loc × Packet × List ℕ). onward above d defs (most - 1) 1 r.0 r.1 r.2) (go (world k d defs) at packet cs)) level

-- what holds of where bodies led holds of the end
pub ends_so : (P : code.Loc → sent.Packet → Type 0) (f : Option Followed) (reached : Option Reached)
    → IfSome f (λ x. (r : Reached) × (reached ≡ Some r) × (r.led.to ≡ x.to) × (r.led.packet ≡ x.sent))
    → IfSome reached (λ r. P r.led.to r.led.packet) → IfSome f (λ x. P x.to x.sent)
ends_so P None reached h k = tt
ends_so P (Some f) reached h k =
    let r = h.0 in
    let there : P r.led.to r.led.packet = subst (λ (o : Option Reached). IfSome o (λ x. P x.led.to x.led.packet)) h.1 k in
    subst (λ x. P x f.sent) h.2 (subst (P r.led.to) h.3 there)

-- no body more may run
pub all_on : (above : ℕ) (d : Design) (defs : Defs) (most bodies : ℕ) (at : Loc) (packet : Packet) (cs : List ℕ) → most ≤ bodies
    → onward above d defs (most - bodies) bodies at packet cs ≡ Some (bodies, at, packet, cs)
all_on above d defs most bodies at packet cs l =
    let none : most - bodies ≡ 0 = omega (arith, l) in
    ap (λ m. onward above d defs m bodies at packet cs) none

-- none that runs is of a new role
pub old_on : (above : ℕ) (d : Design) (defs : Defs) (more bodies : ℕ) (at : Loc) (packet : Packet) (cs : List ℕ) → is_new above d at.role ≡ false
    → onward above d defs more bodies at packet cs ≡ Some (bodies, at, packet, cs)
old_on above d defs zero bodies at packet cs old = refl
old_on above d defs (suc more) bodies at packet cs old = else_of (is_new above d at.role) _ _ old

pub mapped : {A B : Type 0} (f : A → B) (o : Option A) → is_none (option_map f o) ≡ is_none o
mapped f None = refl
mapped f (Some x) = refl

-- whether a role is new, by its declarations
pub new_is : (above : ℕ) (d : Design) (x name : List ℕ) (latest : Role) (old : Option Role) (none : Bool) → x ≡ name → role_at (above + 1) d name ≡ Some latest → role_at above d name ≡ old
    → none ≡ is_none old → none ≡ is_new above d x
new_is above d x name latest old none e there here is =
    let level : suc above ≡ above + 1 = omega arith in
    is ∙ turned old
    ∙ sym (ap (λ y. is_new above d y) e ∙ ap₂ (λ (a b : Option Role). is_some a && not (is_some b)) (ap (λ n. role_at n d name) level ∙ there) here)
  where
    turned : (o : Option Role) → is_none o ≡ (true && not (is_some o))
    turned None = refl
    turned (Some r) = refl

-- what is computed from all choices is the segment that they make
pub follows : (taken : RunsAreTaken) (above : ℕ) (d : Design) (block : Refine) (defs : Defs) (from : code.Loc) (packet : sent.Packet) (cs : List ℕ) (f : Option Followed) → 1 ≤ block.within → IsRefined block (loc_of d from)
    → option_map (end_of d) f ≡ if_whole (chain above d defs block.within (loc_of d from) (sent_of d packet) cs)
    → IfSome f (λ x. x.is_new ≡ is_new above d (role_name d x.to.role)) → Follows above d block defs from packet cs f
follows taken above d block defs from packet cs None some listed h new = λ n to sent s.
    let e = chain_takes taken above d defs block (loc_of d from) (sent_of d packet) cs n to sent s in
    no_some (n, to, sent) (h ∙ ap if_whole e)
follows taken above d block defs from packet cs (Some f) some listed h new = (
  chain_gives taken above d defs block (loc_of d from) (sent_of d packet) cs f.bodies (loc_of d f.to) (sent_of d f.sent) some listed
      (whole (chain above d defs block.within (loc_of d from) (sent_of d packet) cs) (f.bodies, loc_of d f.to, sent_of d f.sent) h),
  new,
)
  where
    whole : (s : Option Stop) (e : ℕ × Loc × Packet) → Some e ≡ if_whole s → s ≡ Some (e.0, e.1, e.2, [])
    whole None e h = absurd (cc)
    whole (Some (n, to, sent, [])) e h = let q : (n, to, sent) ≡ e = cc in ap (λ (p : ℕ × Loc × Packet). Some (p.0, p.1, p.2, [])) q
    whole (Some (n, to, sent, c ∷ cs)) e h = absurd (cc)
