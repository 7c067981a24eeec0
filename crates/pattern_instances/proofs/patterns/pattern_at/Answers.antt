use Rattle.std.proofs.Common.{◌≡◌, ℕ, Some, Vec, option_map, sym, ap, ◌∙◌}
use Rattle.std.specs.declared.alloc.Global.{Global}
use Rattle.bv_terms.specs.Arenas.{args_of, term_at}
use Rattle.query_laws.specs.Patterns.{arg_count, places_from}
use Rattle.pattern_instances.proofs.Ids.{as-many}
use Rattle.pattern_instances.proofs.Places.{other-count, same-count}
use Rattle.pattern_instances.proofs.patterns.pattern_at.Goals as goal

pub returns-then-args-count : goal.returns-then-args-count
returns-then-args-count c = λ w.
    let args = args_of (term_at c.args.terms.now) c.args.args.now in
    sym (other-count (arg_count args) c.args.count _ (λ e. c.if-args-count.true (sym (as-many (term_at c.args.terms.now) c.args.args.now) ∙ e)))

pub returns-in-Some : goal.returns-in-Some
returns-in-Some c = λ w.
    let args = args_of (term_at c.args.terms.now) c.args.args.now in
    let found : Some c.in-Some.places.items ≡ places_from 0 c.args.count args = ap (option_map (λ (v : Vec ℕ Global). v.items)) (sym c.in-Some.is) ∙ c.in_ok-places.ensures in
    ap (option_map (λ ks. record { function = c.args.function; places = ks })) found
    ∙ sym (same-count (arg_count args) c.args.count _ (as-many (term_at c.args.terms.now) c.args.args.now ∙ c.if-args-count.false))
