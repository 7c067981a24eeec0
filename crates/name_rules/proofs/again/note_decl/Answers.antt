use Rattle.std.proofs.Common.{◌++◌, subst, ◌∙◌, sym, ap, append-nil}
use Rattle.std.specs.Prelude.{option_map}
use Rattle.cocoon_syntax.specs.TreeOf.{decl_of, function_of}
use Rattle.cocoon_types.specs.Noting.{Notes}
use Rattle.cocoon_types.specs.Rules.{twice}
use Rattle.cocoon_types.specs.RuleParts.{repeated}
use Rattle.cocoon_types.specs.Among.{among}
use Rattle.name_rules.specs.Among.{Seen, again}
use Rattle.name_rules.proofs.AgainFacts.{one-function, no-function}
use Rattle.name_rules.proofs.again.note_decl.Goals as goal

pub returns-in_ok-note_again-in-Some : goal.returns-in_ok-note_again-in-Some
returns-in_ok-note_again-in-Some c =
    let found = sym c.function_in.ensures ∙ ap (option_map (λ f. function_of f.now)) c.in-Some.is in
    let one = one-function (decl_of c.args.decl.now) (function_of c.in-Some.function.now) found in
    record {
      kept = λ names h. subst (λ l. Seen c.note_again.new.table (names ++ l)) (sym one) (c.in_ok-note_again-in-Some.ensures.kept names h);
      notes = λ names h. subst (λ l. Notes (among twice (repeated names l)) c.args.noted.now c.note_again.new.noted) (sym one)
          (subst (λ l. Notes (among twice l) c.args.noted.now c.note_again.new.noted) (sym (append-nil (again names (function_of c.in-Some.function.now).name))) (c.in_ok-note_again-in-Some.ensures.notes names h));
    }

pub returns-in-None : goal.returns-in-None
returns-in-None c =
    let found = sym c.function_in.ensures ∙ ap (option_map (λ f. function_of f.now)) c.in-None.is in
    let none = no-function (decl_of c.args.decl.now) found in
    record {
      kept = λ names h. subst (λ l. Seen c.args.table.now (names ++ l)) (sym none) (subst (Seen c.args.table.now) (sym (append-nil names)) h);
      notes = λ names h. subst (λ l. Notes (among twice (repeated names l)) c.args.noted.now c.args.noted.now) (sym none) (c.among_laws.ensures.none twice c.args.noted.now);
    }
