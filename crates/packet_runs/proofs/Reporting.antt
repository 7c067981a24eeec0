-- Reports that grow packet by packet.
use Rattle.std.proofs.Common.{◌≡◌, ◌≤◌, ◌<◌, ◌++◌, ◌+◌, ℕ, suc, List, [], ◌∷◌, length, drop, take, map, slice_index_or, append_assoc, codes, decimal, sym, ap, subst, ◌∙◌, inr, refl, arith}
use Rattle.std.proofs.lemmas.List.{append-nil, at_drop_more, length-map, length-take-le, map_more}
use Rattle.net_run.specs.RunCounts.{most_runs, runs}
use Rattle.p4_ir.specs.NetTree.{NetData}
use Rattle.packet_runs.specs.Judging.{packet_in}
use Rattle.packet_runs.specs.Packets.{AllKnown, Packet}
use Rattle.packet_runs.specs.declared.packet.Packet as code
use Rattle.packet_runs.specs.Growing.{AddsPacket}
use Rattle.net_run.specs.Outcomes.{Delivery}
use Rattle.packet_runs.specs.Reports.{AreOutcomes, bytes_text, delivery_line, delivery_lines, IsOutcome, IsReport, lines_from, Outcome, outcome_line, outcome_lines}
use Rattle.packet_runs.specs.Stopping.{AllWithin, SomeOver}

-- the line of a packet, and those of what is delivered of it
pub one_outcome : (before with_line after line : List ℕ) (number n : ℕ) (o : Outcome) → n ≡ length o.delivered → line ≡ outcome_line number n o.travelling → with_line ≡ before ++ line
    → after ≡ with_line ++ delivery_lines o.delivered → after ≡ before ++ outcome_lines number o
one_outcome before with_line after line number n o e p q r =
    r
    ∙ ap (λ x. x ++ delivery_lines o.delivered) (q ∙ ap (λ l. before ++ l) (p ∙ ap (λ k. outcome_line number k o.travelling) e))
    ∙ append_assoc before (outcome_line number (length o.delivered) o.travelling) (delivery_lines o.delivered)

-- the parts of the line of a delivery
regrouped : (before a b c text end : List ℕ) → ((before ++ (a ++ (b ++ c))) ++ text) ++ end ≡ before ++ (a ++ (b ++ (c ++ (text ++ end))))
regrouped before a b c text end = simp append_assoc

pub one_delivery : (before with_front with_text after front text : List ℕ) (d : Delivery) → front ≡ codes "> " ++ (decimal d.host ++ codes " ") → text ≡ bytes_text d.bytes
    → with_front ≡ before ++ front → with_text ≡ with_front ++ text → after ≡ with_text ++ codes "\n" → after ≡ before ++ delivery_line d
one_delivery before with_front with_text after front text d f t p q r =
    r
    ∙ ap (λ x. x ++ codes "\n") (q ∙ (λ k. p k ++ t k) ∙ ap (λ x. (before ++ x) ++ bytes_text d.bytes) f)
    ∙ regrouped before (codes "> ") (decimal d.host) (codes " ") (bytes_text d.bytes) (codes "\n")

-- ---- one packet more

lines_more : (number : ℕ) (os : List Outcome) (o : Outcome) → lines_from number (os ++ (o ∷ [])) ≡ lines_from number os ++ outcome_lines (number + length os) o
lines_more number [] o = append-nil (outcome_lines number o) ∙ ap (λ n. outcome_lines n o) (omega arith)
lines_more number (q ∷ os) o =
    ap (λ t. outcome_lines number q ++ t) (lines_more (number + 1) os o)
    ∙ sym (append_assoc (outcome_lines number q) (lines_from (number + 1) os) (outcome_lines (number + 1 + length os) o))
    ∙ ap (λ n. (outcome_lines number q ++ lines_from (number + 1) os) ++ outcome_lines n o) (omega arith)

outcomes_more : (net : NetData) (hops : ℕ) (ps : List Packet) (os : List Outcome) (p : Packet) (o : Outcome) → AreOutcomes net hops ps os → IsOutcome net hops p o
    → AreOutcomes net hops (ps ++ (p ∷ [])) (os ++ (o ∷ []))
outcomes_more net hops [] [] p o a b = (b, tt)
outcomes_more net hops [] (q ∷ os) p o a b = absurd a
outcomes_more net hops (q ∷ ps) [] p o a b = absurd a
outcomes_more net hops (q ∷ ps) (r ∷ os) p o a b = (a.0, outcomes_more net hops ps os p o a.1 b)

outcomes_counted : (net : NetData) (hops : ℕ) (ps : List Packet) (os : List Outcome) → AreOutcomes net hops ps os → length os ≡ length ps
outcomes_counted net hops [] [] a = refl
outcomes_counted net hops [] (o ∷ os) a = absurd a
outcomes_counted net hops (p ∷ ps) [] a = absurd a
outcomes_counted net hops (p ∷ ps) (o ∷ os) a = ap suc (outcomes_counted net hops ps os a.1)

one_more : (net : NetData) (hops number : ℕ) (ps : List Packet) (p : Packet) (before after : List ℕ) → number ≡ length ps → IsReport net hops ps before → AddsPacket net hops (number + 1) p before after
    → IsReport net hops (ps ++ (p ∷ [])) after
one_more net hops number ps p before after counted r a =
    let c = outcomes_counted net hops ps r.outcomes r.are in
    let n : number + 1 ≡ 1 + length r.outcomes = omega (arith, counted, c) in
    record {
      outcomes = r.outcomes ++ (a.outcome ∷ []);
      are = outcomes_more net hops ps r.outcomes p a.outcome r.are a.is;
      lines = a.lines ∙ ap (λ t. t ++ outcome_lines (number + 1) a.outcome) r.lines ∙ ap (λ k. lines_from 1 r.outcomes ++ outcome_lines k a.outcome) n ∙ sym (lines_more 1 r.outcomes a.outcome);
    }

taken : (ps : List code.Packet) (i : ℕ) → i < length ps → i ≡ length (map packet_in (take i ps))
taken ps i l = let e = length-take-le i ps (omega (arith, l)) in let m = length-map (take i ps) packet_in in omega (arith, e, m)

-- the report of the packets so far, after the next of them
pub report_more : (net : NetData) (hops number i : ℕ) (ps : List code.Packet) (p d : code.Packet) (before after : List ℕ) → i < length ps → number ≡ i → p ≡ slice_index_or ps i d
    → IsReport net hops (map packet_in (take i ps)) before → AddsPacket net hops (number + 1) (packet_in p) before after → IsReport net hops (map packet_in (take (i + 1) ps)) after
report_more net hops number i ps p d before after l n e r a =
    subst (λ qs. IsReport net hops qs after) (sym (map_more packet_in ps i d l ∙ ap (λ q. map packet_in (take i ps) ++ (packet_in q ∷ [])) (sym e)))
    (one_more net hops number (map packet_in (take i ps)) (packet_in p) before after (n ∙ taken ps i l) r a)

-- ---- what is still to come

-- the first packet of those that are left
pub opened : (ps : List code.Packet) (i : ℕ) (p d : code.Packet) → i < length ps → p ≡ slice_index_or ps i d → map packet_in (drop i ps) ≡ packet_in p ∷ map packet_in (drop (i + 1) ps)
opened ps i p d h e = at_drop_more (map packet_in) ps i d h ∙ sym (ap (λ x. packet_in x ∷ map packet_in (drop (i + 1) ps)) e)

pub known_more : (hosts : List ℕ) (p : Packet) (left rest : List Packet) → left ≡ p ∷ rest → AllKnown hosts left → AllKnown hosts rest
known_more hosts p left rest e h = (subst (AllKnown hosts) e h).1

pub within_more : (net : NetData) (hops : ℕ) (p : Packet) (left rest : List Packet) → left ≡ p ∷ rest → runs net p.host p.bytes hops ≤ most_runs → AllWithin net hops rest → AllWithin net hops left
within_more net hops p left rest e here h = subst (AllWithin net hops) (sym e) (here, h)

pub over_more : (net : NetData) (hops : ℕ) (p : Packet) (left rest : List Packet) → left ≡ p ∷ rest → SomeOver net hops rest → SomeOver net hops left
over_more net hops p left rest e h = subst (SomeOver net hops) (sym e) (inr h)
