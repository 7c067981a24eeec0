-- What steps do to a path, by what it holds of one choice. The clauses of the functions that make and follow steps cite it.
use Rattle.std.specs.Prelude.{◌≡◌, ℕ, ◌==◌, ◌&&◌, ◌||◌, Bool, false, not, List, [], ◌∷◌, map, take, set, get_or, Option, Some, None}
use Rattle.std.specs.List.{list_any}
use Rattle.form_rules.specs.declared.state.Held.{Held}
use Rattle.form_rules.specs.declared.state.State.{State}
use Rattle.form_rules.specs.declared.run.Reached.{Reached}
use Rattle.form_rules.specs.declared.steps.Place.{Place}
use Rattle.form_rules.specs.declared.steps.Place.TheVariants.{Field, Var, Token}
use Rattle.form_rules.specs.declared.steps.Value.{Value}
use Rattle.form_rules.specs.declared.steps.Move.{Move}
use Rattle.form_rules.specs.declared.steps.Move.TheVariants as moves
use Rattle.form_rules.specs.declared.steps.Step.{Step, fold-Step}
use Rattle.form_rules.specs.declared.steps.Step.TheOpen.{Step-F}
use Rattle.cocoon_num.specs.Tree.{Stmt, Block, Exprs}
use Rattle.form_rules.specs.Following.{Names, Holding, at_choice, nothing, with_var, leaves, hides, finds, finds_in}

abbrev pub holding_of : State → Holding
holding_of s = record { made = s.made; met = s.met; fields = s.fields.items; vars = s.vars.items }

-- ---- values

-- what the choice of a token index holds
abbrev pub made_by : ℕ → ℕ → Held
made_by c at = record { within = c == at; alone = c == at }

abbrev pub place_held : ℕ → Holding → Place → Held
place_held c s (Field i) = get_or s.fields i nothing
place_held c s (Var i) = get_or s.vars i nothing
place_held c s (Token at) = made_by c at

-- the choice is within one of some places
abbrev pub any_within : ℕ → Holding → List Place → Bool
any_within c s ps = list_any (λ (p : Place). (place_held c s p).within) ps

-- it is alone in one of them
abbrev pub any_alone : ℕ → Holding → List Place → Bool
any_alone c s ps = list_any (λ (p : Place). (place_held c s p).alone) ps

abbrev pub value_held : ℕ → Holding → Value → Held
value_held c s v = record { within = any_within c s v.within.items; alone = any_alone c s v.whole.items }

-- ---- steps

-- with a field set, if there is one
abbrev pub with_field_at : Option ℕ → Held → Holding → Holding
with_field_at i h s = record s { fields = elim i [ None ↦ s.fields | Some k ↦ set s.fields k h ] }

-- the choice was made, if it has this token index
abbrev pub chosen : ℕ → ℕ → Holding → Holding
chosen c at s = record s { made = (c == at) || s.made }

-- the choice is within a condition, if it is within one of its places
abbrev pub meets : ℕ → Value → Holding → Holding
meets c v s = record s { met = any_within c s v.within.items || s.met }

abbrev pub moved_by : ℕ → Move → Holding → Holding
moved_by c (moves.Bind v) s = with_var (value_held c s v) s
moved_by c (moves.Set i v) s = with_field_at i (value_held c s v) s
moved_by c (moves.Meet v) s = meets c v s
moved_by c (moves.ChooseVar at) s = with_var (made_by c at) (chosen c at s)
moved_by c (moves.ChooseField i at) s = with_field_at i (made_by c at) (chosen c at s)

-- with the first variables alone
abbrev pub first_held : (count : ℕ) → Holding → Holding
first_held count s = record s { vars = take count s.vars }

-- the choice occurs in a condition or in what is sent
abbrev pub occurs_in : ℕ → Value → Holding → Bool
occurs_in c v s = s.met || (any_within c s v.within.items || list_any (λ (h : Held). h.within) s.fields)

-- it stands alone in what is sent
abbrev pub stands_in : ℕ → Value → Holding → Bool
stands_in c v s = any_alone c s v.whole.items || list_any (λ (h : Held). h.alone) s.fields

-- the choice was made, and a path that sends these values hides it
abbrev pub hides_in : ℕ → Value → Holding → Bool
hides_in c v s = s.made && occurs_in c v s && not (stands_in c v s)

-- whether some path from here hides the choice where it sends, or goes on holding what passes a test
abbrev pub Finder : Type 0
Finder = (Holding → Bool) → Holding → Bool

-- one after another
abbrev pub chain : List Finder → Finder
chain [] t = t
chain (f ∷ fs) t = f (chain fs t)

-- one step, with the blocks inside already seen
abbrev pub step_finds : ℕ → Step-F Finder → Finder
step_finds c (Step-F.Move m) = λ t s. t (moved_by c m s)
step_finds c (Step-F.Branch k a b) = λ t s. chain a.items (λ q. t (first_held k q)) s || chain b.items (λ q. t (first_held k q)) s
step_finds c (Step-F.Fork a) = λ t s. chain a.items (λ q. false) s
step_finds c (Step-F.Send v) = λ t s. hides_in c v s

-- of a step
abbrev pub finder : ℕ → Step → Finder
finder c = fold-Step Finder (step_finds c)

-- of some steps
abbrev pub finder_of : ℕ → List Step → Finder
finder_of c ss = chain (map (finder c) ss)

-- some path that holds these steps before it hides the choice
abbrev pub is_hidden_by : ℕ → List Step → Holding → Bool
is_hidden_by c ss s = finder_of c ss (λ q. false) s

-- ---- statements as steps

-- steps with a move after them, of which this is what it does where a choice is followed
abbrev pub AddsMove : (ℕ → Holding → Holding) → List Step → List Step → Type 0
AddsMove f old new = (c : ℕ) (t : Holding → Bool) → finder_of c new t ≡ finder_of c old (λ q. t (f c q))

-- steps with a statement after them
abbrev pub Adds : Names → Stmt → List Step → List Step → Type 0
Adds n s old new = (c : ℕ) (t : Holding → Bool) → finder_of c new t ≡ finder_of c old (finds (at_choice c n) s t)

-- steps with both blocks of an `if` after them
abbrev pub AddsBranch : Names → List Step → List Step → List Step → List Step → Type 0
AddsBranch n first second old new =
    (c : ℕ) (t : Holding → Bool) → finder_of c new t
    ≡ finder_of c old (λ s. finder_of c first (λ q. t (leaves n q)) s || finder_of c second (λ q. t (leaves n q)) s)

-- steps with a `send` after them
abbrev pub AddsSend : Names → Exprs → List Step → List Step → Type 0
AddsSend n es old new = (c : ℕ) (t : Holding → Bool) → finder_of c new t ≡ finder_of c old (hides (at_choice c n) es)

-- steps with the block of a `fork` after them
abbrev pub AddsFork : List Step → List Step → List Step → Type 0
AddsFork body old new = (c : ℕ) (t : Holding → Bool) → finder_of c new t ≡ finder_of c old (λ s. is_hidden_by c body s)

-- the steps of a block
abbrev pub StepsOf : Names → Block → List Step → Type 0
StepsOf n b ss = (c : ℕ) (t : Holding → Bool) → finder_of c ss t ≡ finds_in (at_choice c n) b t

-- ---- states of the code

-- some state passes a test
abbrev pub some_holds : (Holding → Bool) → List State → Bool
some_holds t ss = list_any (λ (s : State). t (holding_of s)) ss

-- the choice was hidden, or some state that goes on passes a test
abbrev pub reaches : (Holding → Bool) → Reached → Bool
reaches t r = r.hides || some_holds t r.states.items

-- of states, those after a move
abbrev pub Moves : ℕ → Move → List State → List State → Type 0
Moves c m states found = (t : Holding → Bool) → some_holds t found ≡ some_holds (λ q. t (moved_by c m q)) states

-- the same states
abbrev pub SameStates : List State → List State → Type 0
SameStates old new = (t : Holding → Bool) → some_holds t new ≡ some_holds t old

-- some states with others, which leave a block
abbrev pub Leaves : (count : ℕ) → List State → List State → List State → Type 0
Leaves count states leaving found =
    (t : Holding → Bool) → some_holds t found ≡ (some_holds t states || some_holds (λ q. t (first_held count q)) leaving)

-- what was reached of some states by steps
abbrev pub ReachesBy : ℕ → List Step → List State → Reached → Type 0
ReachesBy c ss states r = (t : Holding → Bool) → reaches t r ≡ some_holds (finder_of c ss t) states

-- what was reached of them by one step
abbrev pub ReachesAfter : ℕ → Step → List State → Reached → Type 0
ReachesAfter c s states r = (t : Holding → Bool) → reaches t r ≡ some_holds (finder c s t) states

-- what was reached by two blocks, after leaving them
abbrev pub Joins : (count : ℕ) → Reached → Reached → Reached → Type 0
Joins count first second r =
    (t : Holding → Bool) → reaches t r ≡ (reaches (λ q. t (first_held count q)) first || reaches (λ q. t (first_held count q)) second)
