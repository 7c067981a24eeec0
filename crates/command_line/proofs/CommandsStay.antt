-- The words that are a command by a command line with fewer subcommands are the same command.
use Rattle.std.proofs.Common.{◌≡◌, ◌||◌, ℕ, List, [], ◌∷◌, Option, Some, None, option_and_then, Bool, true, false, refl, sym, ap, ◌∙◌}
use Rattle.std.specs.Prelude.{codes}
use Rattle.std.specs.Str.{bytes_eq}
use Rattle.std.proofs.lemmas.Slice.Eq.{bytes_eq-Decides}
use Rattle.clap.specs.Kinds.{Kinds}
use Rattle.clap.specs.Simple.{App, Shape, argument_words, built}
use Rattle.clap.specs.Walk.{Row, Text}
use Rattle.clap.specs.Words.{fault_of, subcommand_of}
use Rattle.command_line.specs.Command.{Command, compile}
use Rattle.command_line.specs.Subcommands.{check_app, cocoon_app, command_of, compile_app, forward_app, step_app, update_app}
use Rattle.command_line.specs.Syntax.{app_with}
use Rattle.command_line.specs.Words.{command, command_by, subcommand_by, unless_refused}
use Rattle.command_line.proofs.Staying.{Grows, stays}

-- ---- the command lines as they are built

abbrev first : List Shape → Shape → Shape
first [] d = d
first (s ∷ ss) d = s

abbrev second : List Shape → Shape → Shape
second [] d = d
second (s ∷ ss) d = first ss d

abbrev third : List Shape → Shape → Shape
third [] d = d
third (s ∷ ss) d = second ss d

abbrev compile_alone : App
compile_alone = app_with (compile_app ∷ [])

abbrev with_step : App
with_step = app_with (compile_app ∷ step_app ∷ [])

abbrev with_forward : App
with_forward = app_with (compile_app ∷ step_app ∷ forward_app ∷ [])

abbrev top : Shape
top = (built compile_alone).top

abbrev compiles : Shape
compiles = first (built compile_alone).subs top

abbrev helps : Shape
helps = second (built compile_alone).subs top

abbrev steps : Shape
steps = second (built with_step).subs top

abbrev forwards : Shape
forwards = third (built with_forward).subs top

abbrev with_check : App
with_check = app_with (check_app ∷ compile_app ∷ step_app ∷ forward_app ∷ [])

abbrev checks : Shape
checks = first (built with_check).subs top

abbrev with_update : App
with_update = app_with (check_app ∷ compile_app ∷ update_app ∷ step_app ∷ forward_app ∷ [])

abbrev updates : Shape
updates = third (built with_update).subs top

abbrev sixth : List Shape → Shape → Shape
sixth [] d = d
sixth (s ∷ []) d = d
sixth (s ∷ t ∷ []) d = d
sixth (s ∷ t ∷ u ∷ ss) d = third ss d

abbrev gens : Shape
gens = sixth (built cocoon_app).subs top

or_false : (b : Bool) → (b || false) ≡ b
or_false true = refl
or_false false = refl

step_grows : Grows top (compiles ∷ []) steps (helps ∷ [])
step_grows = record {
  word = codes "step";
  answers = λ x e. sym ((bytes_eq-Decides (codes "step") x).0 (sym (or_false (bytes_eq (codes "step") x)) ∙ e));
  unknown = refl;
  plain = λ w. refl;
}

forward_grows : Grows top (compiles ∷ steps ∷ []) forwards (helps ∷ [])
forward_grows = record {
  word = codes "forward";
  answers = λ x e. sym ((bytes_eq-Decides (codes "forward") x).0 (sym (or_false (bytes_eq (codes "forward") x)) ∙ e));
  unknown = refl;
  plain = λ w. refl;
}

check_grows : Grows top [] checks (compiles ∷ steps ∷ forwards ∷ helps ∷ [])
check_grows = record {
  word = codes "check";
  answers = λ x e. sym ((bytes_eq-Decides (codes "check") x).0 (sym (or_false (bytes_eq (codes "check") x)) ∙ e));
  unknown = refl;
  plain = λ w. refl;
}

update_grows : Grows top (checks ∷ compiles ∷ []) updates (steps ∷ forwards ∷ helps ∷ [])
update_grows = record {
  word = codes "update";
  answers = λ x e. sym ((bytes_eq-Decides (codes "update") x).0 (sym (or_false (bytes_eq (codes "update") x)) ∙ e));
  unknown = refl;
  plain = λ w. refl;
}

gen_grows : Grows top (checks ∷ compiles ∷ updates ∷ steps ∷ forwards ∷ []) gens (helps ∷ [])
gen_grows = record {
  word = codes "gen";
  answers = λ x e. sym ((bytes_eq-Decides (codes "gen") x).0 (sym (or_false (bytes_eq (codes "gen") x)) ∙ e));
  unknown = refl;
  plain = λ w. refl;
}

-- ---- the laws

still : (kinds now : Kinds) (met met_now : Option (Text × List Row)) (asked : Command)
    → ((m : Text × List Row) → kinds ≡ [] → met ≡ Some m → (now ≡ []) × (met_now ≡ Some m))
    → option_and_then command_of (unless_refused kinds met) ≡ Some asked → option_and_then command_of (unless_refused now met_now) ≡ Some asked
still (k ∷ ks) now met met_now asked stay h = cc
still [] now None met_now asked stay h = cc
still [] now (Some m) met_now asked stay h =
    let same = stay m refl refl in
    ap (λ k. option_and_then command_of (unless_refused k met_now)) same.0 ∙ ap (option_and_then command_of) same.1 ∙ h

step_added : (words : List Text) (asked : Command) → command_by compile_alone words ≡ Some asked → command_by with_step words ≡ Some asked
unfolding subcommand_by
step_added words asked h =
    still (fault_of compile_alone words) (fault_of with_step words) (subcommand_of compile_alone words) (subcommand_of with_step words) asked
    (stays top (compiles ∷ []) steps (helps ∷ []) step_grows (argument_words compile_alone words)) h

forward_added : (words : List Text) (asked : Command) → command_by with_step words ≡ Some asked → command_by with_forward words ≡ Some asked
unfolding subcommand_by
forward_added words asked h =
    still (fault_of with_step words) (fault_of with_forward words) (subcommand_of with_step words) (subcommand_of with_forward words) asked
    (stays top (compiles ∷ steps ∷ []) forwards (helps ∷ []) forward_grows (argument_words with_step words)) h

check_added : (words : List Text) (asked : Command) → command_by with_forward words ≡ Some asked → command_by with_check words ≡ Some asked
unfolding subcommand_by
check_added words asked h =
    still (fault_of with_forward words) (fault_of with_check words) (subcommand_of with_forward words) (subcommand_of with_check words) asked
    (stays top [] checks (compiles ∷ steps ∷ forwards ∷ helps ∷ []) check_grows (argument_words with_forward words)) h

update_added : (words : List Text) (asked : Command) → command_by with_check words ≡ Some asked → command_by with_update words ≡ Some asked
unfolding subcommand_by
update_added words asked h =
    still (fault_of with_check words) (fault_of with_update words) (subcommand_of with_check words) (subcommand_of with_update words) asked
    (stays top (checks ∷ compiles ∷ []) updates (steps ∷ forwards ∷ helps ∷ []) update_grows (argument_words with_check words)) h

gen_added : (words : List Text) (asked : Command) → command_by with_update words ≡ Some asked → command words ≡ Some asked
unfolding command subcommand_by
gen_added words asked h =
    still (fault_of with_update words) (fault_of cocoon_app words) (subcommand_of with_update words) (subcommand_of cocoon_app words) asked
    (stays top (checks ∷ compiles ∷ updates ∷ steps ∷ forwards ∷ []) gens (helps ∷ []) gen_grows (argument_words with_update words)) h

pub others_stay : (words : List Text) (asked : Command) → command_by with_check words ≡ Some asked → command words ≡ Some asked
others_stay words asked h = gen_added words asked (update_added words asked h)

pub commands_stay : (words : List Text) (asked : Command) → command_by with_forward words ≡ Some asked → command words ≡ Some asked
commands_stay words asked h = others_stay words asked (check_added words asked h)

pub compile_and_step_stay : (words : List Text) (asked : Command) → command_by with_step words ≡ Some asked → command words ≡ Some asked
compile_and_step_stay words asked h = commands_stay words asked (forward_added words asked h)

pub compile_stays : (words : List Text) (d e o : List ℕ) (n m : ℕ) → command_by compile_alone words ≡ Some (compile d e o n m) → command words ≡ Some (compile d e o n m)
compile_stays words d e o n m h = compile_and_step_stay words (compile d e o n m) (step_added words (compile d e o n m) h)
