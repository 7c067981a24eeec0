-- Which places the resolved names of expressions have. The clauses of the functions of `exprs` cite it.
use Rattle.std.specs.Prelude.{◌≡◌, ℕ, ◌||◌, List, Option, Some, None}
use Rattle.cocoon_num.specs.Tree.{Expr, Exprs}
use Rattle.form_rules.specs.declared.state.Held.{Held}
use Rattle.form_rules.specs.declared.steps.Place.{Place}
use Rattle.form_rules.specs.declared.steps.Value.{Value}
use Rattle.form_rules.specs.Following.{Names, Holding, at_choice, nothing, mentions, any_mentions, is_alone, held}
use Rattle.form_rules.specs.Following as follow
use Rattle.form_rules.specs.Steps.{place_held, any_within, any_alone, value_held}

abbrev pub option_held : ℕ → Holding → Option Place → Held
option_held c s None = nothing
option_held c s (Some p) = place_held c s p

-- places with one more, if there is one
abbrev pub NotesPlace : Option Place → List Place → List Place → Type 0
NotesPlace p old new = (c : ℕ) (s : Holding) →
    (any_within c s new ≡ (any_within c s old || (option_held c s p).within)) × (any_alone c s new ≡ (any_alone c s old || (option_held c s p).alone))

-- places with those within an expression
abbrev pub Notes : Names → Expr → List Place → List Place → Type 0
Notes n e old new = (c : ℕ) (s : Holding) → any_within c s new ≡ (any_within c s old || mentions (at_choice c n) s e)

-- the same of some expressions
abbrev pub NotesAll : Names → Exprs → List Place → List Place → Type 0
NotesAll n es old new = (c : ℕ) (s : Holding) → any_within c s new ≡ (any_within c s old || any_mentions (at_choice c n) s es)

-- places with that of an expression that is no more than a name or a field
abbrev pub NotesWhole : Names → Expr → List Place → List Place → Type 0
NotesWhole n e old new = (c : ℕ) (s : Holding) → any_alone c s new ≡ (any_alone c s old || is_alone (at_choice c n) s e)

-- the same of some expressions
abbrev pub NotesWholes : Names → Exprs → List Place → List Place → Type 0
NotesWholes n es old new = (c : ℕ) (s : Holding) → any_alone c s new ≡ (any_alone c s old || follow.any_alone (at_choice c n) s es)

-- the places of an expression
abbrev pub ValueOf : Names → Expr → Value → Type 0
ValueOf n e v = (c : ℕ) (s : Holding) → value_held c s v ≡ held (at_choice c n) s e

-- the places of some expressions
abbrev pub ValuesOf : Names → Exprs → Value → Type 0
ValuesOf n es v = (c : ℕ) (s : Holding) →
    (any_within c s v.within.items ≡ any_mentions (at_choice c n) s es) × (any_alone c s v.whole.items ≡ follow.any_alone (at_choice c n) s es)
