-- Cited by the private clauses of `following`: the deliveries among the ends of a packet, and how many
-- of its copies still travel.
use Rattle.std.specs.Prelude.{ℕ, suc, List, [], ◌∷◌}
use Rattle.p4_ir.specs.NetTree.{LinkEnd, to_switch, to_host, NetData}
use Rattle.net_run.specs.Ends.{End, ends}
use Rattle.net_run.specs.Outcomes.{Delivery}

-- a delivery before others, where an end is at a host
abbrev pub deliver_at : LinkEnd → End → List Delivery → List Delivery
deliver_at (to_host h) e ds = record { host = h; choices = e.choices; bytes = e.bytes } ∷ ds
deliver_at (to_switch s p) e ds = ds

abbrev pub delivered : List End → List Delivery
delivered [] = []
delivered (e ∷ es) = deliver_at e.at e (delivered es)

abbrev pub count_at : LinkEnd → ℕ → ℕ
count_at (to_host h) n = n
count_at (to_switch s p) n = suc n

-- how many stand before a switch
abbrev pub standing : List End → ℕ
standing [] = 0
standing (e ∷ es) = count_at e.at (standing es)

-- what is delivered of a packet of host a within n visits
abbrev pub deliveries : NetData → (a : ℕ) → (bytes : List ℕ) → (n : ℕ) → List Delivery
deliveries net a bytes n = delivered (ends net a bytes n)

-- how many of its copies made n visits, and stand before a switch
abbrev pub travelling : NetData → (a : ℕ) → (bytes : List ℕ) → (n : ℕ) → ℕ
travelling net a bytes n = standing (ends net a bytes n)
