-- Where runs lead with all of their choices.
use Rattle.std.proofs.Common.{◌≡◌, ℕ, List, [], ◌∷◌, Option, Some, None, option_map, option_and_then, refl, sym, ap, subst, ◌∙◌}
use Rattle.std.proofs.lemmas.List.{append-nil}
use Rattle.cocoon_num.specs.Packets.{Packet}
use Rattle.cocoon_num.specs.Tree.{Design, Role}
use Rattle.cocoon_types.specs.Design.{widths_of}
use Rattle.cocoon_num.specs.PacketForms.{FieldsFit}
use Rattle.cocoon_types.specs.Runs.{Go, Loc, World}
use Rattle.cocoon_types.specs.Taken.{body_go, go, if_true, Reached, RunsAreTaken}
use Rattle.cocoon_types.specs.Val.{bind, Env, value}
use Rattle.role_meaning.specs.Goings.{all_taken, led_of, went_of}
use Rattle.role_meaning.specs.Leading.{Leads, LeadsOn}
use Rattle.role_meaning.specs.Located.{loc_of, sent_of}
use Rattle.role_meaning.specs.declared.place.Loc as code
use Rattle.role_meaning.specs.declared.place.Packet as sent
use Rattle.role_meaning.specs.declared.place.Led.{Led}
use Rattle.role_values.specs.FittingRuns.{fitting_body, fitting_go}
use Rattle.role_meaning.proofs.Bridges.{bound_fit}

-- ---- values that do not fit

stuck : (w : World) (at : Loc) (packet : Packet) (cs : List ℕ) (r : Role) → w.role at.role ≡ Some r → bind r.params at.values ≡ None → go w at packet cs ≡ None
stuck w at packet cs r h none =
    ap (λ (o : Option Role). if_true (option_and_then (λ (r : Role). option_and_then (λ env. value w.context env [] r.guard) (bind r.params at.values)) o) (option_and_then (λ (r : Role). body_go w r r.body at packet cs) o)) h
    ∙ ap (λ (o : Option Env). if_true (option_and_then (λ env. value w.context env [] r.guard) o) (body_go w r r.body at packet cs)) none

fitting_stuck : (w : World) (at : Loc) (packet : Packet) (cs : List ℕ) (r : Role) → w.role at.role ≡ Some r → bind r.params at.values ≡ None → fitting_go w at packet cs ≡ None
fitting_stuck w at packet cs r h none =
    ap (λ (o : Option Role). if_true (option_and_then (λ (r : Role). option_and_then (λ env. value w.context env [] r.guard) (bind r.params at.values)) o) (option_and_then (λ (r : Role). fitting_body w r r.body at packet cs) o)) h
    ∙ ap (λ (o : Option Env). if_true (option_and_then (λ env. value w.context env [] r.guard) o) (fitting_body w r r.body at packet cs)) none

by_bind : (v w : World) (at : Loc) (packet : Packet) (cs : List ℕ) (r : Role) (o : Option Env) → bind r.params at.values ≡ o → v.role at.role ≡ Some r → w.role at.role ≡ Some r
    → (FieldsFit (widths_of r.params) at.values → fitting_go v at packet cs ≡ go w at packet cs) → fitting_go v at packet cs ≡ go w at packet cs
by_bind v w at packet cs r None e h k f = fitting_stuck v at packet cs r h e ∙ sym (stuck w at packet cs r k e)
by_bind v w at packet cs r (Some env) e h k f = f (bound_fit r.params at.values env e)

-- two runs are the same, if they are where the values fit
pub where_fits : (v w : World) (at : Loc) (packet : Packet) (cs : List ℕ) (r : Role) → v.role at.role ≡ Some r → w.role at.role ≡ Some r
    → (FieldsFit (widths_of r.params) at.values → fitting_go v at packet cs ≡ go w at packet cs) → fitting_go v at packet cs ≡ go w at packet cs
where_fits v w at packet cs r h k f = by_bind v w at packet cs r (bind r.params at.values) refl h k f

-- ---- answers

taken_some : (x : Reached) (to : Loc) (packet : Packet) → Some (to, packet) ≡ all_taken x → x ≡ Some (to, packet, [])
taken_some None to packet h = absurd (cc)
taken_some (Some (to', sent', [])) to packet h = let e : (to', sent') ≡ (to, packet) = cc in ap (λ (p : Loc × Packet). Some (p.0, p.1, [])) e
taken_some (Some (to', sent', c ∷ cs)) to packet h = absurd (cc)

taken_none : (x : Reached) (to : Loc) (packet : Packet) → None ≡ all_taken x → x ≡ Some (to, packet, []) → ⊥
taken_none None to packet h k = cc
taken_none (Some (to', sent', [])) to packet h k = cc
taken_none (Some (to', sent', c ∷ cs)) to packet h k = cc

pub leads : (laws : RunsAreTaken) (d : Design) (w : World) (at : code.Loc) (packet : sent.Packet) (cs : List ℕ) (to : Option (code.Loc × sent.Packet))
    → option_map (went_of d) to ≡ all_taken (go w (loc_of d at) (sent_of d packet) cs) → Leads d w at packet cs to
leads laws d w at packet cs None h = λ to sent g.
    taken_none (go w (loc_of d at) (sent_of d packet) cs) to sent h
    (ap (go w (loc_of d at) (sent_of d packet)) (sym (append-nil cs)) ∙ laws.takes w (loc_of d at) (sent_of d packet) cs to sent g [])
leads laws d w at packet cs (Some r) h =
    let e : go w (loc_of d at) (sent_of d packet) cs ≡ Some (loc_of d r.0, sent_of d r.1, []) = taken_some (go w (loc_of d at) (sent_of d packet) cs) (loc_of d r.0) (sent_of d r.1) h in
    let used = laws.gives w (loc_of d at) (sent_of d packet) cs (loc_of d r.0) (sent_of d r.1) [] e in
    subst (λ xs. Go w (loc_of d at) (sent_of d packet) xs (loc_of d r.0) (sent_of d r.1)) (sym (append-nil used.0) ∙ sym used.1) used.2

pub leads_on : (laws : RunsAreTaken) (d : Design) (w : World) (at : code.Loc) (packet : sent.Packet) (cs : List ℕ) (led : Option Led)
    → option_map (led_of d) led ≡ go w (loc_of d at) (sent_of d packet) cs → LeadsOn d w at packet cs led
leads_on laws d w at packet cs None h = λ used rest to sent e g.
    let some : go w (loc_of d at) (sent_of d packet) cs ≡ Some (to, sent, rest) = ap (go w (loc_of d at) (sent_of d packet)) e ∙ laws.takes w (loc_of d at) (sent_of d packet) used to sent g rest in
    let both : None ≡ Some (to, sent, rest) = h ∙ some in cc
leads_on laws d w at packet cs (Some r) h = laws.gives w (loc_of d at) (sent_of d packet) cs (loc_of d r.to) (sent_of d r.packet) r.rest.now (sym h)
