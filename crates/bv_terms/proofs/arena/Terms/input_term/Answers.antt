use Rattle.std.proofs.Common.{◌<◌, subst, refl, arith, length, ap}
use Rattle.std.proofs.lemmas.Option.{slice_get_read}
use Rattle.bv_terms.specs.Arenas.{IsInputTerm, inputs_in}
use Rattle.bv_terms.proofs.arena.Terms.input_term.Goals as goal

pub returns : goal.returns
returns c =
    let e = c.self.invariant.input_count in
    let r = ap inputs_in c.self.view_is in
    let l : c.args.input < length c.self.inside.inputs.items = omega (arith, c.requires) in
    subst (λ nodes. IsInputTerm nodes c.args.input c.index.result.now) c.self.view_is
    (c.self.invariant.inputs c.args.input c.index.result.now (slice_get_read c.self.inside.inputs.items _ c.args.input c.index.result.now refl l c.index.ensures))
