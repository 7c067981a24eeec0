use Rattle.std.proofs.Common.{◌<◌, [], arith, get_or, length, subst}
use Rattle.std.proofs.lemmas.Option.{slice_get-get_or, slice_get_within}
use Rattle.cdcl.specs.States.{clauses_of}
use Rattle.cdcl.specs.Watching.{WatchesOther}
use Rattle.cdcl.proofs.Visiting.{visits-number}
use Rattle.cdcl.proofs.Watched.{turned}
use Rattle.cdcl.proofs.search.Search.visit.Goals as goal

pub visit_number-requires-clause-inside : goal.visit_number-requires-clause-inside
visit_number-requires-clause-inside c =
    let s = c.args.self.now in
    let cs = clauses_of c.args.cnf.now s in
    let n = c.args.number in
    let r = subst (WatchesOther s.watches n c.args.off.number) c.in-Some.is c.other.ensures in
    let lt : n < length cs = omega (arith, slice_get_within s.watches.pairs.items n r.0 r.1, c.requires.ready.count) in
    let known = slice_get-get_or cs n [] lt in
    let h = c.requires.ready.watched.watching n (get_or cs n []) r.0 known r.1 in
    (get_or cs n [], known, h.inside c.in-Some.other.number c.args.off.number (turned r.0 c.args.off.number c.in-Some.other.number r.2))

pub returns-in-Some : goal.returns-in-Some
returns-in-Some c =
    let s = c.args.self.now in
    let cs = clauses_of c.args.cnf.now s in
    let n = c.args.number in
    let r = subst (WatchesOther s.watches n c.args.off.number) c.in-Some.is c.other.ensures in
    let lt : n < length cs = omega (arith, slice_get_within s.watches.pairs.items n r.0 r.1, c.requires.ready.count) in
    let known = slice_get-get_or cs n [] lt in
    visits-number c.args.cnf.now s n c.args.off.number c.in-Some.other.number r.0 (get_or cs n []) r.1 r.2 known c.visit_number.result (c.visit_number.ensures (get_or cs n []) known)

pub returns-in-None : goal.returns-in-None
returns-in-None c = λ pair b e h. absurd (subst (WatchesOther c.args.self.now.watches c.args.number c.args.off.number) c.in-None.is c.other.ensures pair b e h)
