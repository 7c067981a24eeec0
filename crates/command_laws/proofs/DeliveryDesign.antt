-- The same choices lead to one location and one packet, so the last level delivers one thing at most.
use Rattle.std.specs.Prelude.{◌≡◌, ℕ, zero, suc, ◌+◌, ◌*◌, List, [], ◌∷◌, ◌++◌, Option, Some, None}
use Rattle.std.proofs.Common.{sym, ◌∙◌, ap, subst, inl, inr}
use Rattle.cocoon_num.specs.Packets.{Packet, enter, leave}
use Rattle.cocoon_num.specs.Tree.{Block, Role, HostDecl, Design}
use Rattle.cocoon_types.specs.Design.{host_decl, layout, last_level}
use Rattle.cocoon_types.specs.Tables.{Defs}
use Rattle.cocoon_types.specs.Val.{Env, bind}
use Rattle.cocoon_types.specs.Runs.{Loc, World, world, End, sends, DoesAll, Go, IsSink, Walk, LastGo, entry_at, sink_at}
use Rattle.command_laws.proofs.SameValues.{some_same}

-- a block's run has one end, and at most one prefix of a list of choices gives any
abbrev pub OneEnd : Type 0
OneEnd = (w : World) (b : Block) (env : Env) (packet : Packet) (cs ds rest more : List ℕ) (x y : End) → DoesAll w b env packet cs x → DoesAll w b env packet ds y → cs ++ rest ≡ ds ++ more → (x ≡ y) × (rest ≡ more)

sends_same : (to at : Loc) (sent left : Packet) → sends to sent ≡ sends at left → (to ≡ at) × (sent ≡ left)
sends_same to at sent left e = (cc, cc)

-- one body's run leads to one location with one packet, and takes one prefix of the choices
one_body : OneEnd → (w : World) (from : Loc) (packet : Packet) (cs ds rest more : List ℕ) (to at : Loc) (sent left : Packet)
    → Go w from packet cs to sent → Go w from packet ds at left → cs ++ rest ≡ ds ++ more → (to ≡ at) × (sent ≡ left) × (rest ≡ more)
one_body one w from packet cs ds rest more to at sent left g h e =
    let r : h.role ≡ g.role = some_same (w.role from.role) h.role g.role h.role_is g.role_is in
    let b : h.body ≡ g.body = some_same g.role.body h.body g.body (sym (ap (λ (x : Role). x.body) r) ∙ h.body_is) g.body_is in
    let v : h.env ≡ g.env = some_same (bind g.role.params from.values) h.env g.env (sym (ap (λ (x : Role). bind x.params from.values) r) ∙ h.env_is) g.env_is in
    let d : DoesAll w g.body g.env packet ds (sends at left) =
    subst (λ x. DoesAll w x g.env packet ds (sends at left)) b (subst (λ x. DoesAll w h.body x packet ds (sends at left)) v h.does) in
    let o = one w g.body g.env packet cs ds rest more (sends to sent) (sends at left) g.does d e in
    let s = sends_same to at sent left o.0 in
    (s.0, s.1, o.1)

-- a location of a sink has no body to run
sink_stops : {P : Type 0} (w : World) (from : Loc) (packet : Packet) (cs : List ℕ) (to : Loc) (sent : Packet) → IsSink w from → Go w from packet cs to sent → P
sink_stops w from packet cs to sent (r, is, none) g =
    let e : r ≡ g.role = some_same (w.role from.role) r g.role is g.role_is in
    let f : None ≡ Some g.body = sym none ∙ ap (λ (x : Role). x.body) e ∙ g.body_is in
    absurd cc

-- a chain of runs leads to one location with one packet
one_walk : OneEnd → (w : World) (n : ℕ) (from : Loc) (packet : Packet) (cs : List ℕ) (to at : Loc) (sent left : Packet)
    → Walk w n from packet cs to sent → Walk w n from packet cs at left → (to ≡ at) × (sent ≡ left)
one_walk one w zero from packet cs to at sent left (_, _, t, s) (_, _, u, v) = (t ∙ sym u, s ∙ sym v)
one_walk one w (suc n) from packet cs to at sent left (inl (_, _, t, s)) (inl (_, _, u, v)) = (t ∙ sym u, s ∙ sym v)
one_walk one w (suc n) from packet cs to at sent left (inl (k, _, t, s)) (inr (mid, between, first, more, g, rest, e)) =
    sink_stops w from packet first mid between k g
one_walk one w (suc n) from packet cs to at sent left (inr (mid, between, first, more, g, rest, e)) (inl (k, _, t, s)) =
    sink_stops w from packet first mid between k g
one_walk one w (suc n) from packet cs to at sent left (inr (mid, between, first, more, g, rest, e)) (inr (mid', between', first', more', h, others, f)) =
    let o = one_body one w from packet first first' more more' mid mid' between between' g h (sym e ∙ f) in
    one_walk one w n mid between more to at sent left rest
    (subst (λ x. Walk w n x between more at left) (sym o.0) (subst (λ x. Walk w n mid' x more at left) (sym o.1) (subst (λ x. Walk w n mid' between' x at left) (sym o.2) others)))

entered_same : (o : Option (Packet × List ℕ)) (p q : Packet) (l m : List ℕ) → o ≡ Some (p, l) → o ≡ Some (q, m) → (p ≡ q) × (l ≡ m)
entered_same o p q l m a b =
    let e : (p, l) ≡ (q, m) = some_same {A = Packet × List ℕ} o (p, l) (q, m) a b in
    (ap (λ (x : Packet × List ℕ). x.0) e, ap (λ (x : Packet × List ℕ). x.1) e)

one_host : (h : HostDecl) (b c : ℕ) → sink_at h b ≡ sink_at h c → b ≡ c
one_host h b c e =
    let v : b ∷ [] ≡ c ∷ [] = ap (λ (l : Loc). l.values) e in
    cc

pub one_delivery : OneEnd → (design : Design) (defs : Defs) (a : ℕ) (bytes choices : List ℕ) (visits b c : ℕ) (x y : List ℕ)
    → LastGo design defs a bytes choices visits b x → LastGo design defs a bytes choices visits c y → (b ≡ c) × (x ≡ y)
one_delivery one design defs a bytes choices visits b c x y l m =
    let w = world (last_level design) design defs in
    let n = 2 * visits + 1 in
    let hosts : m.hosts ≡ l.hosts = some_same (host_decl design) m.hosts l.hosts m.hosts_are l.hosts_are in
    let entered = entered_same (enter (layout design) bytes) m.packet l.packet m.payload l.payload m.enters l.enters in
    let walks : Walk w n (entry_at l.hosts a) l.packet choices (sink_at l.hosts c) m.sent =
    subst (λ h. Walk w n (entry_at h a) l.packet choices (sink_at h c) m.sent) hosts
    (subst (λ p. Walk w n (entry_at m.hosts a) p choices (sink_at m.hosts c) m.sent) entered.0 m.walks) in
    let o = one_walk one w n (entry_at l.hosts a) l.packet choices (sink_at l.hosts b) (sink_at l.hosts c) l.sent m.sent l.walks walks in (
      one_host l.hosts b c o.0,
      l.leaves ∙ ap (λ s. leave (layout design) s l.payload) o.1 ∙ ap (λ p. leave (layout design) m.sent p) (sym entered.1) ∙ sym m.leaves,
    )
