-- What becomes of packets is one list of outcomes.
use Rattle.std.proofs.Common.{◌≡◌, ℕ, List, [], ◌∷◌, ap, refl, sym, ◌∙◌}
use Rattle.net_run.specs.Outcomes.{AreDelivered, AreTravelling, Delivery}
use Rattle.p4_ir.specs.NetTree.{NetData}
use Rattle.packet_runs.specs.Packets.{Packet}
use Rattle.packet_runs.specs.Reports.{AreOutcomes, IsOutcome, IsReport, lines_from, Outcome}

abbrev pub OneDelivered : Type 0
OneDelivered = (net : NetData) (a : ℕ) (bytes : List ℕ) (n : ℕ) (ds es : List Delivery) → AreDelivered net a bytes n ds → AreDelivered net a bytes n es → ds ≡ es

abbrev pub OneTravelling : Type 0
OneTravelling = (net : NetData) (a : ℕ) (bytes : List ℕ) (n c d : ℕ) → AreTravelling net a bytes n c → AreTravelling net a bytes n d → c ≡ d

same_outcome : OneDelivered → OneTravelling → (net : NetData) (hops : ℕ) (p : Packet) (o q : Outcome) → IsOutcome net hops p o → IsOutcome net hops p q → o ≡ q
same_outcome one other net hops p o q a b =
    let d = one net p.host p.bytes hops o.delivered q.delivered a.delivered b.delivered in
    let t = other net p.host p.bytes hops o.travelling q.travelling a.travelling b.travelling in
    λ i. record { delivered = d i; travelling = t i }

same_outcomes : OneDelivered → OneTravelling → (net : NetData) (hops : ℕ) (ps : List Packet) (os qs : List Outcome) → AreOutcomes net hops ps os → AreOutcomes net hops ps qs → os ≡ qs
same_outcomes one other net hops [] [] [] a b = refl
same_outcomes one other net hops [] [] (q ∷ qs) a b = absurd b
same_outcomes one other net hops [] (o ∷ os) qs a b = absurd a
same_outcomes one other net hops (p ∷ ps) [] qs a b = absurd a
same_outcomes one other net hops (p ∷ ps) (o ∷ os) [] a b = absurd b
same_outcomes one other net hops (p ∷ ps) (o ∷ os) (q ∷ qs) a b =
    ap (λ x. x ∷ os) (same_outcome one other net hops p o q a.0 b.0) ∙ ap (λ xs. q ∷ xs) (same_outcomes one other net hops ps os qs a.1 b.1)

pub same_report : OneDelivered → OneTravelling → (net : NetData) (hops : ℕ) (ps : List Packet) (r s : List ℕ) → IsReport net hops ps r → IsReport net hops ps s → r ≡ s
same_report one other net hops ps r s a b = a.lines ∙ ap (lines_from 1) (same_outcomes one other net hops ps a.outcomes b.outcomes a.are b.are) ∙ sym b.lines
