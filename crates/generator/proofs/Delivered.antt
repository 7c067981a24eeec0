-- A packet arrives if and only if something of it is delivered.
use Rattle.std.proofs.Common.{◌≡◌, ◌↔◌, ◌≤◌, ◌<◌, Bool, true, false, not, ℕ, zero, suc, List, [], ◌∷◌, length, map, refl, sym, ap, subst, arith}
use Rattle.std.proofs.lemmas.Bool.Decides.{nat_tests}
use Rattle.std.specs.Prelude.{◌==◌, IsTrue}
use Rattle.generator.specs.Packets.{bytes, source}
use Rattle.net_run.specs.Delivering.{delivery_of}
use Rattle.net_run.specs.Outcomes.{AreDelivered}
use Rattle.net_run.specs.Outcomes as spec
use Rattle.net_run.specs.declared.delivering.Delivery.{Delivery}
use Rattle.p4_ir.specs.NetTree.{NetData}
use Rattle.generator.specs.Arriving.{Arrives, most_visits}

pub untrue : IsTrue false → ⊥
untrue t = cc

of_list : (net : NetData) (hosts k : ℕ) (ds : List Delivery) → AreDelivered net (source hosts k) (bytes hosts k) most_visits (map delivery_of ds)
    → IsTrue (not (length ds == 0)) ↔ Arrives net hosts k
of_list net hosts k [] h = (
  (λ t. absurd (untrue t)),
  (λ (a : Arrives net hosts k).
      let d : spec.Delivery = record { host = a.host; choices = a.choices; bytes = a.sent } in
      let in_ = (h.exact d).1 a.goes in
      absurd (let l : in_.0 < 0 = in_.1 in omega (arith, l))),
)
of_list net hosts k (d ∷ ds) h = (
  (λ t. let x = delivery_of d in record { choices = x.choices; host = x.host; sent = x.bytes; goes = (h.exact x).0 (0, omega (arith), refl) }),
  (λ a. let some : (length (d ∷ ds) == 0) ≡ false = grind (arith, nat_tests) in ap not some),
)

pub is_delivered : (net : NetData) (hosts k a : ℕ) (bs : List ℕ) → a ≡ source hosts k → bs ≡ bytes hosts k → (ds : List Delivery)
    → AreDelivered net a bs most_visits (map delivery_of ds) → (b : Bool) → b ≡ (length ds == 0) → IsTrue (not b) ↔ Arrives net hosts k
is_delivered net hosts k a bs e f ds h b g =
    subst (λ (x : Bool). IsTrue (not x) ↔ Arrives net hosts k) (sym g)
    (of_list net hosts k ds (subst (λ (x : ℕ). AreDelivered net x (bytes hosts k) most_visits (map delivery_of ds)) e
    (subst (λ (x : List ℕ). AreDelivered net a x most_visits (map delivery_of ds)) f h)))
