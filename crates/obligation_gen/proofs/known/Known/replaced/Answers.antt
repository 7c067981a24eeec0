use Rattle.std.proofs.Common.{◌≡◌, ◌<◌, ◌++◌, ◌∷◌, [], ℕ, List, rules, sym, subst}
use Rattle.bv_terms.specs.declared.node.Node.{Node}
use Rattle.expr_terms.proofs.Making.{keeps_on}
use Rattle.obligation_gen.specs.declared.known.Known.{Known}
use Rattle.obligation_gen.proofs.Chains.{stand_on}
use Rattle.obligation_gen.proofs.KnownTerms.{Walking, knows_now, walk_down, walk_last, walk_up}
use Rattle.obligation_gen.proofs.known.Known.replaced.Goals.{in-Some-unknown_part+in_ok-push-2+in_ok-push-3, in_default-unknown_part+in_ok-id+in_ok-set+else-own-old}
use Rattle.obligation_gen.proofs.known.Known.replaced.Goals as goal

pub other-requires-clause-stand : goal.other-requires-clause-stand
other-requires-clause-stand c = stand_on c.args.terms.now c.loop.terms c.args.by.now c.loop.invariant.kept.kept c.requires.stand

pub other-requires-clause-knows : goal.other-requires-clause-knows
other-requires-clause-knows c = knows_now c.args.terms.now c.loop.terms c.args.by.now c.loop.self c.loop.invariant.kept.kept c.requires.stand c.loop.invariant.knows

pub returns-in_err-set-clause-kept : goal.returns-in_err-set-clause-kept
returns-in_err-set-clause-kept c = keeps_on c.args.terms.now c.loop.terms c.other.new.terms c.loop.invariant.kept c.other.ensures.kept

pub returns-then-own-old-clause-made : goal.returns-then-own-old-clause-made
returns-then-own-old-clause-made c =
    let e : c.loop.waiting.items ≡ c.pop.new.self.items ++ c.in-Some.own ∷ [] = search rules in
    walk_last c.args.terms.now c.loop.terms c.args.by.now c.loop.self c.loop.waiting.items c.pop.new.self.items c.in-Some.own c.loop.invariant e
    c.other.new.terms c.in_ok-id.id c.args.old c.requires.stand c.other.ensures.kept c.in_ok-id.ensures.becomes c.if-own-old.true

pub returns-then-own-old-clause-knows : goal.returns-then-own-old-clause-knows
returns-then-own-old-clause-knows c =
    let e : c.loop.waiting.items ≡ c.pop.new.self.items ++ c.in-Some.own ∷ [] = search rules in
    (walk_up c.args.terms.now c.loop.terms c.args.by.now c.loop.self c.loop.waiting.items c.pop.new.self.items c.in-Some.own c.loop.invariant e
    c.other.new.terms c.in_ok-id.id (record { ids = c.set.new.self }) c.requires.stand c.other.ensures.kept c.in_ok-id.ensures.becomes c.in_ok-set.ensures).knows

pub returns-then-own-old-clause-kept : goal.returns-then-own-old-clause-kept
returns-then-own-old-clause-kept c = keeps_on c.args.terms.now c.loop.terms c.other.new.terms c.loop.invariant.kept c.other.ensures.kept

pub loop-preserved : goal.loop-preserved
loop-preserved c =
    let start = c.args.terms.now in
    let by = c.args.by.now in
    let e : c.loop.waiting.items ≡ c.pop.new.self.items ++ c.in-Some.own ∷ [] = search rules in
    elim c.match-unknown_part.branch [
      | in-Some-unknown_part+in_ok-push-2+in_ok-push-3 w ↦
          subst (λ (p : Known × List Node × List ℕ). Walking start p.1 by p.0 p.2) (λ j. (sym w.self-is j, sym w.terms-is j, (sym w.waiting-is j).items))
          (walk_down start c.loop.terms by c.loop.self c.loop.waiting.items c.pop.new.self.items c.in-Some.own c.loop.invariant e
          w.in-Some-unknown_part.part w.push-in-Some-unknown_part-2.new.self.items w.push-in-Some-unknown_part.new.self.items w.in-Some-unknown_part.ensures.part
          w.in_ok-push-2.ensures.items w.in_ok-push-3.ensures.items)
      | in_default-unknown_part+in_ok-id+in_ok-set+else-own-old w ↦
          subst (λ (p : Known × List Node × List ℕ). Walking start p.1 by p.0 p.2) (λ j. (sym w.self-is j, sym w.terms-is j, (sym w.waiting-is j).items))
          (walk_up start c.loop.terms by c.loop.self c.loop.waiting.items c.pop.new.self.items c.in-Some.own c.loop.invariant e
          w.other.new.terms w.in_ok-id.id (record { ids = w.set.new.self }) c.requires.stand w.other.ensures.kept w.in_ok-id.ensures.becomes w.in_ok-set.ensures)
    ]
