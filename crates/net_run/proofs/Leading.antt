-- The ends of a packet are just where visits lead, and where it travels.
use Rattle.std.proofs.Common.{◌≡◌, ◌⊎◌, inl, inr, ℕ, zero, suc, ◌+◌, List, [], ◌∷◌, ◌++◌, Option, Some, None, refl, sym, subst, ◌∙◌, ap, arith}
use Rattle.std.proofs.lemmas.List.{append_assoc}
use Rattle.p4_ir.specs.NetRuns.{attach_at, link_at, NetGo, Onward, switch_at, Visits}
use Rattle.p4_ir.specs.NetTree.{LinkEnd, to_switch, to_host, SwitchFiles, NetData}
use Rattle.p4_ir.specs.Switch.{switch_go}
use Rattle.net_run.specs.Deliveries.{deliver_at, deliveries, delivered}
use Rattle.net_run.specs.Departures.{Departed, departures_at, ways}
use Rattle.net_run.specs.Ends.{End, ends, ends_from, followed, from_attached, onward}
use Rattle.net_run.specs.Outcomes.{Delivery}
use Rattle.net_run.specs.Travels.{Forth, GoesOn, Travels, TravelsFrom}
use Rattle.net_run.proofs.Among.{Among, among_flat, among_map, flat_from, mapped_from}
use Rattle.net_run.proofs.Departing.{departs, gives, is_way}

-- a sum that computes at its first part
abbrev pub plus : ℕ → ℕ → ℕ
plus zero m = m
plus (suc n) m = suc (plus n m)

pub plus_is : (n m : ℕ) → plus n m ≡ n + m
plus_is zero m = omega arith
plus_is (suc n) m = let e = plus_is n m in omega (arith, e)

-- visits lead to a host, and a packet travels to a switch
abbrev pub Leads : NetData → ℕ → LinkEnd → List ℕ → (s p : ℕ) → (bytes rids : List ℕ) → Type 0
Leads net n (to_host b) out s p bytes rids = Visits net n b out s p bytes rids
Leads net n (to_switch t q) out s p bytes rids = Travels net n t q out s p bytes rids

abbrev LeadsTo : NetData → ℕ → (s p : ℕ) → List ℕ → End → Type 0
LeadsTo net n s p bytes e = Leads net n e.at e.bytes s p bytes e.choices

-- ---- each end is one

one_more : (net : NetData) (n s p : ℕ) (bytes : List ℕ) (f : SwitchFiles) (d : Departed) (t q : ℕ) → switch_at net.switches s ≡ Some f → switch_go f.program f.rows 0 p bytes d.way ≡ Some (d.port, d.bytes)
    → link_at net.links s d.port ≡ Some (to_switch t q) → (at : LinkEnd) (out more : List ℕ) → Leads net n at out t q d.bytes more → Leads net (suc n) at out s p bytes (d.way ++ more)
one_more net n s p bytes f d t q at_switch g l (to_host b) out more v =
    (f, d.port, d.bytes, d.way, more, at_switch, g, refl, subst (λ o. Onward (Visits net n b out) o d.bytes more b out) (sym l) v)
one_more net n s p bytes f d t q at_switch g l (to_switch u r) out more v =
    (f, d.port, d.bytes, d.way, more, at_switch, g, refl, subst (λ o. Forth (Travels net n u r out) o d.bytes more) (sym l) v)

arrived : (net : NetData) (n s p : ℕ) (bytes : List ℕ) (f : SwitchFiles) (d : Departed) → switch_at net.switches s ≡ Some f → switch_go f.program f.rows 0 p bytes d.way ≡ Some (d.port, d.bytes)
    → ((t q : ℕ) (left : List ℕ) (e : End) → Among e (ends_from net n t q left) → LeadsTo net n t q left e)
    → (l : Option LinkEnd) → link_at net.links s d.port ≡ l → (y : End) → Among y (onward (ends_from net n) l d.bytes) → Leads net (suc n) y.at y.bytes s p bytes (d.way ++ y.choices)
arrived net n s p bytes f d at_switch g ih None e y h = absurd h
arrived net n s p bytes f d at_switch g ih (Some (to_host b)) e y (inl i) =
    subst (λ (z : End). Leads net (suc n) z.at z.bytes s p bytes (d.way ++ z.choices)) (sym i)
    (f, d.port, d.bytes, d.way, [], at_switch, g, refl, subst (λ o. Onward (Visits net n b d.bytes) o d.bytes [] b d.bytes) (sym e) (refl, refl, refl))
arrived net n s p bytes f d at_switch g ih (Some (to_host b)) e y (inr h) = absurd h
arrived net n s p bytes f d at_switch g ih (Some (to_switch t q)) e y h = one_more net n s p bytes f d t q at_switch g e y.at y.bytes y.choices (ih t q d.bytes y h)

from_switch : (net : NetData) (n s p : ℕ) (bytes : List ℕ) → ((t q : ℕ) (left : List ℕ) (e : End) → Among e (ends_from net n t q left) → LeadsTo net n t q left e)
    → (o : Option SwitchFiles) → switch_at net.switches s ≡ o → (d : Departed) → Among d (departures_at o p bytes) → (y : End) → Among y (onward (ends_from net n) (link_at net.links s d.port) d.bytes)
    → Leads net (suc n) y.at y.bytes s p bytes (d.way ++ y.choices)
from_switch net n s p bytes ih None e d h y i = absurd h
from_switch net n s p bytes ih (Some f) e d h y i =
    arrived net n s p bytes f d e (gives (switch_go f.program f.rows 0 p bytes) (ways f.program f.rows p bytes) d h) ih (link_at net.links s d.port) refl y i

pub sound : (net : NetData) (n s p : ℕ) (bytes : List ℕ) (e : End) → Among e (ends_from net n s p bytes) → LeadsTo net n s p bytes e
sound net zero s p bytes e (inl i) = subst (LeadsTo net zero s p bytes) (sym i) (refl, refl, refl, refl)
sound net zero s p bytes e (inr h) = absurd h
sound net (suc n) s p bytes e h =
    let r = flat_from (followed net (ends_from net n) s) e (departures_at (switch_at net.switches s) p bytes) h in
    let m = mapped_from (λ (y : End). record y { choices = r.0.way ++ y.choices }) e (onward (ends_from net n) (link_at net.links s r.0.port) r.0.bytes) r.2 in
    subst (LeadsTo net (suc n) s p bytes) (sym m.2) (from_switch net n s p bytes (sound net n) (switch_at net.switches s) refl r.0 r.1 m.0 m.1)

-- ---- each is there

placed : (net : NetData) (n s p : ℕ) (bytes : List ℕ) (f : SwitchFiles) (port : ℕ) (left first more rids : List ℕ) (at : LinkEnd) (out : List ℕ) → switch_at net.switches s ≡ Some f
    → switch_go f.program f.rows 0 p bytes first ≡ Some (port, left) → rids ≡ first ++ more
    → Among (record { at = at; choices = more; bytes = out }) (onward (ends_from net n) (link_at net.links s port) left) → Among (record { at = at; choices = rids; bytes = out }) (ends_from net (suc n) s p bytes)
placed net n s p bytes f port left first more rids at out e g joined h =
    let d : Departed = record { way = first; port = port; bytes = left } in
    let go = switch_go f.program f.rows 0 p bytes in
    let there : Among d (departures_at (switch_at net.switches s) p bytes) =
    subst (λ o. Among d (departures_at o p bytes)) (sym e) (departs go (ways f.program f.rows p bytes) first (port, left) (is_way f.program f.rows 0 p bytes first (port, left) g) g) in
    subst (λ cs. Among (record { at = at; choices = cs; bytes = out }) (ends_from net (suc n) s p bytes)) (sym joined)
    (among_flat (followed net (ends_from net n) s) (record { at = at; choices = first ++ more; bytes = out }) d (departures_at (switch_at net.switches s) p bytes) there
    (among_map (λ (y : End). record y { choices = first ++ y.choices }) (record { at = at; choices = more; bytes = out }) (onward (ends_from net n) (link_at net.links s port) left) h))

at_host : (net : NetData) (n b : ℕ) (out : List ℕ) → ((t q : ℕ) (left rids : List ℕ) → Visits net n b out t q left rids → Among (record { at = to_host b; choices = rids; bytes = out }) (ends_from net n t q left))
    → (l : Option LinkEnd) (left more : List ℕ) → Onward (Visits net n b out) l left more b out → Among (record { at = to_host b; choices = more; bytes = out }) (onward (ends_from net n) l left)
at_host net n b out ih None left more v = absurd v
at_host net n b out ih (Some (to_host h)) left more v = inl (λ i. record { at = to_host (sym v.0 i); choices = v.2 i; bytes = sym v.1 i })
at_host net n b out ih (Some (to_switch t q)) left more v = ih t q left more v

pub visits_listed : (net : NetData) (n b : ℕ) (out : List ℕ) (s p : ℕ) (bytes rids : List ℕ) → Visits net n b out s p bytes rids → Among (record { at = to_host b; choices = rids; bytes = out }) (ends_from net n s p bytes)
visits_listed net zero b out s p bytes rids v = absurd v
visits_listed net (suc n) b out s p bytes rids (f, port, left, first, more, e, g, joined, o) =
    placed net n s p bytes f port left first more rids (to_host b) out e g joined (at_host net n b out (visits_listed net n b out) (link_at net.links s port) left more o)

at_switch : (net : NetData) (n u r : ℕ) (out : List ℕ) → ((t q : ℕ) (left rids : List ℕ) → Travels net n u r out t q left rids → Among (record { at = to_switch u r; choices = rids; bytes = out }) (ends_from net n t q left))
    → (l : Option LinkEnd) (left more : List ℕ) → Forth (Travels net n u r out) l left more → Among (record { at = to_switch u r; choices = more; bytes = out }) (onward (ends_from net n) l left)
at_switch net n u r out ih None left more v = absurd v
at_switch net n u r out ih (Some (to_host h)) left more v = absurd v
at_switch net n u r out ih (Some (to_switch t q)) left more v = ih t q left more v

pub travels_listed : (net : NetData) (n u r : ℕ) (out : List ℕ) (s p : ℕ) (bytes rids : List ℕ) → Travels net n u r out s p bytes rids → Among (record { at = to_switch u r; choices = rids; bytes = out }) (ends_from net n s p bytes)
travels_listed net zero u r out s p bytes rids (a, b, c, d) = inl (λ i. record { at = to_switch (sym a i) (sym b i); choices = d i; bytes = sym c i })
travels_listed net (suc n) u r out s p bytes rids (f, port, left, first, more, e, g, joined, o) =
    placed net n s p bytes f port left first more rids (to_switch u r) out e g joined (at_switch net n u r out (travels_listed net n u r out) (link_at net.links s port) left more o)

-- ---- deliveries

later : (at : LinkEnd) (e : End) (ds : List Delivery) (d : Delivery) → Among d ds → Among d (deliver_at at e ds)
later (to_host h) e ds d i = inr i
later (to_switch s p) e ds d i = i

pub host_delivered : (es : List End) (h : ℕ) (choices bytes : List ℕ) → Among (record { at = to_host h; choices = choices; bytes = bytes }) es
    → Among (record { host = h; choices = choices; bytes = bytes }) (delivered es)
host_delivered [] h choices bytes i = absurd i
host_delivered (e ∷ es) h choices bytes (inl i) =
    subst (λ (z : End). Among (record { host = h; choices = choices; bytes = bytes }) (deliver_at z.at z (delivered es))) i (inl refl)
host_delivered (e ∷ es) h choices bytes (inr i) = later e.at e (delivered es) _ (host_delivered es h choices bytes i)

delivered_first : (at : LinkEnd) (choices bytes : List ℕ) (es : List End) (ds : List Delivery) (d : Delivery) → (Among d ds → Among (record { at = to_host d.host; choices = d.choices; bytes = d.bytes }) es)
    → Among d (deliver_at at (record { at = at; choices = choices; bytes = bytes }) ds) → Among (record { at = to_host d.host; choices = d.choices; bytes = d.bytes }) (record { at = at; choices = choices; bytes = bytes } ∷ es)
delivered_first (to_host h) choices bytes es ds d f (inl i) = inl (ap (λ (x : Delivery). record { at = to_host x.host; choices = x.choices; bytes = x.bytes }) i)
delivered_first (to_host h) choices bytes es ds d f (inr i) = inr (f i)
delivered_first (to_switch s p) choices bytes es ds d f i = inr (f i)

pub delivered_at_host : (es : List End) (d : Delivery) → Among d (delivered es) → Among (record { at = to_host d.host; choices = d.choices; bytes = d.bytes }) es
delivered_at_host [] d i = absurd i
delivered_at_host (e ∷ es) d i = delivered_first e.at e.choices e.bytes es (delivered es) d (delivered_at_host es d) i

-- ---- from a host

attached_end : (net : NetData) (n : ℕ) (bytes : List ℕ) (o : Option (ℕ × ℕ)) (e : End) → Among e (from_attached (ends_from net n) o bytes) → (s p : ℕ) × (o ≡ Some (s, p)) × LeadsTo net n s p bytes e
attached_end net n bytes None e h = absurd h
attached_end net n bytes (Some (s, p)) e h = (s, p, refl, sound net n s p bytes e h)

pub delivery_goes : (net : NetData) (a : ℕ) (bytes : List ℕ) (n : ℕ) (d : Delivery) → Among d (deliveries net a bytes n) → NetGo net a bytes d.choices n d.host d.bytes
delivery_goes net a bytes n d h = attached_end net n bytes (attach_at net.hosts a) _ (delivered_at_host (ends net a bytes n) d h)

pub going_delivered : (net : NetData) (a : ℕ) (bytes rids : List ℕ) (n b : ℕ) (out : List ℕ) → NetGo net a bytes rids n b out → Among (record { host = b; choices = rids; bytes = out }) (deliveries net a bytes n)
going_delivered net a bytes rids n b out (s, p, e, v) =
    host_delivered (ends net a bytes n) b rids out
    (subst (λ o. Among (record { at = to_host b; choices = rids; bytes = out }) (from_attached (ends_from net n) o bytes)) (sym e) (visits_listed net n b out s p bytes rids v))

pub end_travels : (net : NetData) (a : ℕ) (bytes : List ℕ) (n t q : ℕ) (rids out : List ℕ) → Among (record { at = to_switch t q; choices = rids; bytes = out }) (ends net a bytes n) → TravelsFrom net a bytes rids n t q out
end_travels net a bytes n t q rids out h = attached_end net n bytes (attach_at net.hosts a) _ h

pub traveller_ends : (net : NetData) (a : ℕ) (bytes : List ℕ) (n t q : ℕ) (rids out : List ℕ) → TravelsFrom net a bytes rids n t q out → Among (record { at = to_switch t q; choices = rids; bytes = out }) (ends net a bytes n)
traveller_ends net a bytes n t q rids out (s, p, e, v) =
    subst (λ o. Among (record { at = to_switch t q; choices = rids; bytes = out }) (from_attached (ends_from net n) o bytes)) (sym e) (travels_listed net n t q out s p bytes rids v)

-- ---- more visits

more_onward : (net : NetData) (m n b : ℕ) (out : List ℕ) → ((s p : ℕ) (bytes rids : List ℕ) → Visits net (plus n m) b out s p bytes rids → Visits net n b out s p bytes rids ⊎ GoesOn net n m b out s p bytes rids)
    → (l : Option LinkEnd) (left more : List ℕ) → Onward (Visits net (plus n m) b out) l left more b out
    → Onward (Visits net n b out) l left more b out ⊎ ((t q : ℕ) × (l ≡ Some (to_switch t q)) × GoesOn net n m b out t q left more)
more_onward net m n b out ih None left more v = absurd v
more_onward net m n b out ih (Some (to_host h)) left more v = inl v
more_onward net m n b out ih (Some (to_switch t q)) left more v = elim (ih t q left more v) [ inl w ↦ inl w | inr g ↦ inr (t, q, refl, g) ]

pub parted : (net : NetData) (m n b : ℕ) (out : List ℕ) (s p : ℕ) (bytes rids : List ℕ) → Visits net (plus n m) b out s p bytes rids → Visits net n b out s p bytes rids ⊎ GoesOn net n m b out s p bytes rids
parted net m zero b out s p bytes rids v =
    inr (record { switch = s; port = p; left = bytes; first = []; more = rids; travels = (refl, refl, refl, refl); visits = v; joined = refl })
parted net m (suc n) b out s p bytes rids (f, port, left, first, more, e, g, joined, o) =
    elim (more_onward net m n b out (parted net m n b out) (link_at net.links s port) left more o) [
      | inl w ↦ inl (f, port, left, first, more, e, g, joined, w)
      | inr r ↦ inr (record {
        switch = r.3.switch;
        port = r.3.port;
        left = r.3.left;
        first = first ++ r.3.first;
        more = r.3.more;
        travels = (f, port, left, first, r.3.first, e, g, refl, subst (λ l. Forth (Travels net n r.3.switch r.3.port r.3.left) l left r.3.first) (sym r.2) r.3.travels);
        visits = r.3.visits;
        joined = joined ∙ ap (λ cs. first ++ cs) r.3.joined ∙ sym (append_assoc first r.3.first r.3.more);
      })
    ]

kept_onward : (net : NetData) (m n b : ℕ) (out : List ℕ) → ((s p : ℕ) (bytes rids : List ℕ) → Visits net n b out s p bytes rids → Visits net (plus n m) b out s p bytes rids)
    → (l : Option LinkEnd) (left more : List ℕ) → Onward (Visits net n b out) l left more b out → Onward (Visits net (plus n m) b out) l left more b out
kept_onward net m n b out ih None left more v = absurd v
kept_onward net m n b out ih (Some (to_host h)) left more v = v
kept_onward net m n b out ih (Some (to_switch t q)) left more v = ih t q left more v

pub kept : (net : NetData) (m n b : ℕ) (out : List ℕ) (s p : ℕ) (bytes rids : List ℕ) → Visits net n b out s p bytes rids → Visits net (plus n m) b out s p bytes rids
kept net m zero b out s p bytes rids v = absurd v
kept net m (suc n) b out s p bytes rids (f, port, left, first, more, e, g, joined, o) =
    (f, port, left, first, more, e, g, joined, kept_onward net m n b out (kept net m n b out) (link_at net.links s port) left more o)

forth_onward : (net : NetData) (m n b : ℕ) (out : List ℕ) (t q : ℕ) (there : List ℕ) (last : List ℕ)
    → ((s p : ℕ) (bytes first : List ℕ) → Travels net n t q there s p bytes first → Visits net (plus n m) b out s p bytes (first ++ last))
    → (l : Option LinkEnd) (left more : List ℕ) → Forth (Travels net n t q there) l left more → Onward (Visits net (plus n m) b out) l left (more ++ last) b out
forth_onward net m n b out t q there last ih None left more v = absurd v
forth_onward net m n b out t q there last ih (Some (to_host h)) left more v = absurd v
forth_onward net m n b out t q there last ih (Some (to_switch s p)) left more v = ih s p left more v

pub on_and_on : (net : NetData) (m n b : ℕ) (out : List ℕ) (t q : ℕ) (there last : List ℕ) → Visits net m b out t q there last
    → (s p : ℕ) (bytes first : List ℕ) → Travels net n t q there s p bytes first → Visits net (plus n m) b out s p bytes (first ++ last)
on_and_on net m zero b out t q there last v s p bytes first (a, c, d, e) =
    subst (λ cs. Visits net m b out s p bytes (cs ++ last)) (sym e) (subst (λ k. Visits net m b out k p bytes last) (sym a) (subst (λ k. Visits net m b out t k bytes last) (sym c)
    (subst (λ k. Visits net m b out t q k last) (sym d) v)))
on_and_on net m (suc n) b out t q there last v s p bytes first (f, port, left, now, more, e, g, joined, o) = (
  f,
  port,
  left,
  now,
  more ++ last,
  e,
  g,
  ap (λ cs. cs ++ last) joined ∙ append_assoc now more last,
  forth_onward net m n b out t q there last (on_and_on net m n b out t q there last v) (link_at net.links s port) left more o,
)

pub goes_on : (net : NetData) (m n b : ℕ) (out : List ℕ) (s p : ℕ) (bytes rids : List ℕ) → GoesOn net n m b out s p bytes rids → Visits net (plus n m) b out s p bytes rids
goes_on net m n b out s p bytes rids g =
    subst (Visits net (plus n m) b out s p bytes) (sym g.joined) (on_and_on net m n b out g.switch g.port g.left g.more g.visits s p bytes g.first g.travels)
