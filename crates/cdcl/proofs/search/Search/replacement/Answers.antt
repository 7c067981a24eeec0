use Rattle.std.proofs.Common.{◌≤◌, ◌+◌, ◌∙◌, List, ap, arith, length, subst, sym, None, Some}
use Rattle.std.specs.List.{All}
use Rattle.std.proofs.lemmas.List.{drop-map, length-map, take-map}
use Rattle.std.proofs.lemmas.List.Elements.{All-drop, All-take}
use Rattle.cnf_core.specs.Literals.{Names}
use Rattle.cnf_core.specs.Trails.{numbers}
use Rattle.cnf_core.specs.TrailViews.{room, trues}
use Rattle.cnf_core.specs.declared.lit.Lit.{Lit}
use Rattle.cdcl.specs.States.{ReplacesAt}
use Rattle.cdcl.proofs.Visiting.{replaces-after, replaces-before}
use Rattle.cdcl.proofs.search.Search.replacement.Goals as goal

pub find_open-requires : goal.find_open-requires
find_open-requires c =
    let lits = c.items-lits.result.now in
    let named = subst (λ (ls : List Lit). All (Names (room c.args.self.now.trail)) (numbers ls)) (sym c.items-lits.ensures) c.requires in
    subst (All (Names (room c.args.self.now.trail))) (drop-map (λ (l : Lit). l.number) c.min.result lits ∙ ap numbers (sym c.split_at.ensures.back))
    (All-drop (Names (room c.args.self.now.trail)) c.min.result (numbers lits) named)

pub find_open-requires-in-None : goal.find_open-requires-in-None
find_open-requires-in-None c =
    let lits = c.items-lits.result.now in
    let named = subst (λ (ls : List Lit). All (Names (room c.args.self.now.trail)) (numbers ls)) (sym c.items-lits.ensures) c.requires in
    subst (All (Names (room c.args.self.now.trail))) (take-map (λ (l : Lit). l.number) c.min.result lits ∙ ap numbers (sym c.split_at.ensures.front))
    (All-take (Names (room c.args.self.now.trail)) c.min.result (numbers lits) named)

pub returns-in-Some : goal.returns-in-Some
returns-in-Some c =
    let ts = trues c.args.self.now.trail in
    let lits = c.items-lits.result.now in
    let other = c.args.other.number in
    let from = c.min.result in
    let within : from ≤ length (numbers lits) = omega (arith, c.split_at.ensures.back_len, length-map lits (λ (l : Lit). l.number)) in
    let found = subst (λ ls. ReplacesAt ts ls other (Some c.in-Some.place)) (ap numbers c.split_at.ensures.back ∙ sym (drop-map (λ (l : Lit). l.number) from lits))
    (subst (ReplacesAt ts (numbers c.split_at.result.1.now) other) c.in-Some.is c.find_open.ensures) in
    subst (λ (ls : List Lit). ReplacesAt ts (numbers ls) other (Some (length c.split_at.result.0.now + c.in-Some.place))) c.items-lits.ensures
    (replaces-after ts (numbers lits) other from within c.in-Some.place (length c.split_at.result.0.now) c.split_at.ensures.front_len found)

pub returns-in-None : goal.returns-in-None
returns-in-None c =
    let ts = trues c.args.self.now.trail in
    let lits = c.items-lits.result.now in
    let other = c.args.other.number in
    let from = c.min.result in
    let within : from ≤ length (numbers lits) = omega (arith, c.split_at.ensures.back_len, length-map lits (λ (l : Lit). l.number)) in
    let none = subst (λ ls. ReplacesAt ts ls other None) (ap numbers c.split_at.ensures.back ∙ sym (drop-map (λ (l : Lit). l.number) from lits))
    (subst (ReplacesAt ts (numbers c.split_at.result.1.now) other) c.in-None.is c.find_open.ensures) in
    let found = subst (λ ls. ReplacesAt ts ls other c.find_open-in-None.result) (ap numbers c.split_at.ensures.front ∙ sym (take-map (λ (l : Lit). l.number) from lits)) c.find_open-in-None.ensures in
    subst (λ (ls : List Lit). ReplacesAt ts (numbers ls) other c.find_open-in-None.result) c.items-lits.ensures
    (replaces-before ts (numbers lits) other from within c.find_open-in-None.result none found)
