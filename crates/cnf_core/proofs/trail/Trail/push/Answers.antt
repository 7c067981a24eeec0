use Rattle.std.proofs.Common.{◌≡◌, ◌+◌, ◌<◌, ◌∙◌, ap, arith, List, length, get_or, sym}
use Rattle.std.proofs.Math.ListN.{length-set}
use Rattle.std.proofs.lemmas.List.{length-map}
use Rattle.cnf_core.specs.Trails.{numbers}
use Rattle.cnf_core.specs.TrailViews.{trues}
use Rattle.cnf_core.specs.declared.lit.Lit.{Lit}
use Rattle.cnf_core.proofs.LiteralFacts.{index_of-below}
use Rattle.cnf_core.proofs.ClauseStatuses.{open-not_true}
use Rattle.cnf_core.proofs.Placing.{apart-more, fewer-zeros, named-more, named-variable, numbers-push, place-none, placed-more}
use Rattle.cnf_core.proofs.trail.Trail.push.Goals as goal

pub invariant_of-self-2 : goal.invariant_of-self-2
invariant_of-self-2 c =
    let t = c.args.self.now in
    let l = c.args.lit.number in
    let more = numbers c.push.new.self.items in
    let whole = numbers-push t.lits.items c.push.new.self.items c.args.lit c.in_ok-push.ensures.items in
    let count : c.len.result ≡ length (trues t) + 1 = c.len.ensures ∙ c.in_ok-push.ensures.len ∙ ap (λ n. n + 1) (t.lits.ok.0) ∙ ap (λ n. n + 1) (length-count t.lits.items) in
    record {
      few = t.few;
      sized = length-set t.places.items c.index.result c.len.result ∙ t.sized;
      placed = placed-more (trues t) t.places.items l more c.index.result c.len.result t.placed (omega (arith, index_of-below l t.vars c.requires.named, t.sized)) c.requires.no_value whole c.index.ensures count;
      named = named-more t.vars (trues t) l more t.named (named-variable l c.args.lit.named, c.requires.named) whole;
      apart = apart-more (trues t) l more t.apart c.requires.no_value whole;
    }
  where
    length-count : (lits : List Lit) → length lits ≡ length (numbers lits)
    length-count lits = sym (length-map lits (λ (l : Lit). l.number))

pub returns-clause-fewer : goal.returns-clause-fewer
returns-clause-fewer c =
    let t = c.args.self.now in
    let l = c.args.lit.number in
    let within : c.index.result < length t.places.items = omega (arith, c.index.ensures, index_of-below l t.vars c.requires.named, t.sized) in
    fewer-zeros t.places.items c.index.result c.len.result within
    (ap (λ i. get_or t.places.items i 0) c.index.ensures ∙ place-none (trues t) t.places.items l t.placed (open-not_true (trues t) l c.requires.no_value))
    (omega (arith, c.len.ensures, c.in_ok-push.ensures.len))
