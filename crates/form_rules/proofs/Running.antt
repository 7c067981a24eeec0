-- Steps made one after another, and states followed through them.
use Rattle.std.specs.Prelude.{◌≡◌, ℕ, ◌||◌, Bool, false, List, [], ◌∷◌, ◌++◌, map, length, take, refl}
use Rattle.std.proofs.Common.{sym, ◌∙◌, ap, ap₂, subst}
use Rattle.std.proofs.Math.Bool.{or_assoc, or-false}
use Rattle.std.proofs.Math.Path.{fun_ext}
use Rattle.std.proofs.lemmas.List.{append_assoc, append-nil}
use Rattle.cocoon_num.specs.Tree.{Name, Expr, Exprs, Stmt, let_, if_, havoc_var, fork, send, Block, no_stmts, stmt}
use Rattle.form_rules.specs.declared.scope.FieldName.{FieldName}
use Rattle.form_rules.specs.declared.state.State.{State}
use Rattle.form_rules.specs.declared.steps.Step.{Step}
use Rattle.form_rules.specs.declared.run.Reached.{Reached}
use Rattle.form_rules.specs.Following.{Names, Holding, at_choice, first_vars, leaves, bound, after, meets, chooses_var, finds, finds_in}
use Rattle.form_rules.specs.Steps.{Finder, Adds, AddsBranch, AddsFork, AddsMove, AddsSend, StepsOf, chain, finder, finder_of, first_held, is_hidden_by, some_holds, reaches, ReachesBy, ReachesAfter, Joins}
use Rattle.form_rules.proofs.Lists.{either, take_front, map_append}
use Rattle.form_rules.proofs.Tests.{some_either, none_holds}

-- the names of later are those of earlier with more variables
pub record Grown (earlier later : Names) : Type 0 where
  pub choice : later.choice ≡ earlier.choice
  pub fields : later.fields ≡ earlier.fields
  pub more : List (List ℕ)
  pub vars : later.vars ≡ earlier.vars ++ more

pub grown_none : (n : Names) → Grown n n
grown_none n = record { choice = refl; fields = refl; more = []; vars = sym (append-nil n.vars) }

grown_more : (n m : Names) (x : List ℕ) → Grown n m → Grown n (record m { vars = m.vars ++ (x ∷ []) })
grown_more n m x g = record { choice = g.choice; fields = g.fields; more = g.more ++ (x ∷ []); vars = ap (λ (ys : List (List ℕ)). ys ++ (x ∷ [])) g.vars ∙ append_assoc n.vars g.more (x ∷ []) }

pub grown_after : (n m : Names) (s : Stmt) → Grown n m → Grown n (after s m)
grown_after n m (let_ at x w e) g = grown_more n m x.text g
grown_after n m (havoc_var at x w) g = grown_more n m x.text g
grown_after n m s g = g

-- what is left of them where the later variables end
pub cut : (n m : Names) → Grown n m → first_vars (length n.vars) m ≡ n
cut n m g =
    let names : ℕ → List FieldName → List (List ℕ) → Names = λ c fs vs. record { choice = c; fields = fs; vars = vs } in
    ap₂ (λ (c : ℕ) (fs : List FieldName). names c fs (take (length n.vars) m.vars)) g.choice g.fields
    ∙ ap (names n.choice n.fields) (ap (take (length n.vars)) g.vars ∙ take_front n.vars g.more)

-- the names after a block, of which `count` were bound before
pub block_names : (n m after_it : Names) (count : ℕ) → Grown n m → count ≡ length n.vars → after_it ≡ first_vars count m → after_it ≡ n
block_names n m after_it count g many is = is ∙ ap (λ k. first_vars k m) many ∙ cut n m g

-- the same where a variable was bound before it
pub fork_names : (n m after_it : Names) (x : Name) (count : ℕ) → m ≡ bound x n → count ≡ length n.vars → after_it ≡ first_vars count m → after_it ≡ n
fork_names n m after_it x count same many is =
    let more : Grown n (bound x n) = record { choice = refl; fields = refl; more = x.text ∷ []; vars = refl } in
    block_names n m after_it count (subst (λ (y : Names). Grown n y) (sym same) more) many is

-- the names of a choice after a statement
pub after_choice : (s : Stmt) (c : ℕ) (n : Names) → at_choice c (after s n) ≡ after s (at_choice c n)
after_choice (let_ at x w e) c n = refl
after_choice (havoc_var at x w) c n = refl
after_choice s c n = refl

-- ---- steps that are made

chain_append : (fs gs : List Finder) (t : Holding → Bool) → chain (fs ++ gs) t ≡ chain fs (chain gs t)
chain_append [] gs t = refl
chain_append (f ∷ fs) gs t = ap f (chain_append fs gs t)

pub finder_append : (c : ℕ) (xs ys : List Step) (t : Holding → Bool) → finder_of c (xs ++ ys) t ≡ finder_of c xs (finder_of c ys t)
finder_append c xs ys t = ap (λ fs. chain fs t) (map_append (finder c) xs ys) ∙ chain_append (map (finder c) xs) (map (finder c) ys) t

-- one more step
pub one_step : (c : ℕ) (old new : List Step) (s : Step) (t : Holding → Bool) → new ≡ old ++ (s ∷ []) → finder_of c new t ≡ finder_of c old (finder c s t)
one_step c old new s t is = ap (λ ss. finder_of c ss t) is ∙ finder_append c old (s ∷ []) t

-- moves that do the same
pub same_move : (f g : ℕ → Holding → Holding) (old new : List Step) → ((c : ℕ) (q : Holding) → f c q ≡ g c q) → AddsMove f old new → AddsMove g old new
same_move f g old new same adds c t = adds c t ∙ ap (finder_of c old) (fun_ext (λ q. ap t (same c q)))

-- some statements are made steps, and the rest is to be
pub record Made (first now : Names) (rest all : Block) (steps : List Step) : Type 0 where
  pub finds : (c : ℕ) (t : Holding → Bool) → finder_of c steps (finds_in (at_choice c now) rest t) ≡ finds_in (at_choice c first) all t
  pub grown : Grown first now

pub none_made : (n : Names) (all : Block) → Made n n all all []
none_made n all = record { finds = λ c t. refl; grown = grown_none n }

pub one_made : (first now later : Names) (s : Stmt) (rest all : Block) (old new : List Step) →
    Made first now (stmt s rest) all old → later ≡ after s now → Adds now s old new → Made first later rest all new
one_made first now later s rest all old new made is adds =
    let at_names : Made first (after s now) rest all new = record {
      finds = λ c t.
          ap (λ n. finder_of c new (finds_in n rest t)) (after_choice s c now)
          ∙ adds c (finds_in (after s (at_choice c now)) rest t) ∙ made.finds c t;
      grown = grown_after first now s made.grown;
    } in
    subst (λ (n : Names). Made first n rest all new) (sym is) at_names

pub all_made : (n now : Names) (rest all : Block) (steps : List Step) → rest ≡ no_stmts → Made n now rest all steps → StepsOf n all steps
all_made n now rest all steps end made c t =
    ap (finder_of c steps) (fun_ext (λ s. refl)) ∙ sym (ap (λ b. finder_of c steps (finds_in (at_choice c now) b t)) end) ∙ made.finds c t

-- a statement that is one move
pub one_move : (n : Names) (s r : Stmt) (f : ℕ → Holding → Holding) (old new : List Step) → s ≡ r → ((c : ℕ) (t : Holding → Bool) (q : Holding) → t (f c q) ≡ finds (at_choice c n) r t q) → AddsMove f old new → Adds n s old new
one_move n s r f old new is same adds c t = adds c t ∙ ap (finder_of c old) (fun_ext (same c t)) ∙ ap (λ x. finder_of c old (finds (at_choice c n) x t)) (sym is)

-- the condition of an `if`, and then both of its blocks
pub if_made : (n m k : Names) (at : ℕ) (e : Expr) (a b : Block) (old met new first second : List Step) →
    AddsMove (λ c. meets (at_choice c n) e) old met → StepsOf n a first → m ≡ n → StepsOf m b second → k ≡ m → AddsBranch k first second met new →
    Adds n (if_ at e a b) old new
if_made n m k at e a b old met new first second meeting firsts same seconds again branches c t =
    let u : Holding → Bool = λ q. t (leaves (at_choice c n) q) in
    branches c t
    ∙ ap (λ (x : Names). finder_of c met (λ s. finder_of c first (λ q. t (leaves x q)) s || finder_of c second (λ q. t (leaves x q)) s)) (again ∙ same)
    ∙ ap₂ (λ (f g : Holding → Bool). finder_of c met (λ s. f s || g s)) (firsts c u) (seconds c u ∙ ap (λ x. finds_in (at_choice c x) b u) same)
    ∙ meeting c (λ s. finds_in (at_choice c n) a u s || finds_in (at_choice c n) b u s)

-- the variable and the condition of a `fork`, and then its block
pub fork_made : (n m : Names) (at : ℕ) (x : Name) (w : ℕ) (e : Expr) (b : Block) (old chosen met new body : List Step) →
    AddsMove (λ c. chooses_var (at_choice c n) at) old chosen → m ≡ bound x n → AddsMove (λ c. meets (at_choice c m) e) chosen met →
    StepsOf m b body → AddsFork body met new → Adds n (fork at x w e b) old new
fork_made n m at x w e b old chosen met new body choosing is meeting steps forks c t =
    forks c t
    ∙ ap (finder_of c met) (steps c (λ q. false))
    ∙ meeting c (finds_in (at_choice c m) b (λ q. false))
    ∙ choosing c (λ q. finds_in (at_choice c m) b (λ r. false) (meets (at_choice c m) e q))
    ∙ ap (λ (k : Names). finder_of c old (λ q. finds_in (at_choice c k) b (λ r. false) (meets (at_choice c k) e (chooses_var (at_choice c n) at q)))) is

-- a `send`
pub send_made : (n : Names) (s : Stmt) (at : ℕ) (r : Name) (es : Exprs) (old new : List Step) → s ≡ send at r es → AddsSend n es old new → Adds n s old new
send_made n s at r es old new is sends c t = sends c t ∙ ap (finder_of c old) (fun_ext (λ q. refl)) ∙ ap (λ x. finder_of c old (finds (at_choice c n) x t)) (sym is)

-- ---- steps that are followed

-- some steps were followed, and the rest is to be
pub record Followed (c : ℕ) (rest all : List Step) (states : List State) (reached : Reached) : Type 0 where
  pub finds : (t : Holding → Bool) → reaches (finder_of c rest t) reached ≡ some_holds (finder_of c all t) states

pub none_followed : (c : ℕ) (all : List Step) (reached : Reached) → reached.hides ≡ false → Followed c all all reached.states.items reached
none_followed c all reached h = record { finds = λ t. ap (λ b. b || some_holds (finder_of c all t) reached.states.items) h }

pub all_followed : (c : ℕ) (rest all : List Step) (states : List State) (reached : Reached) → rest ≡ [] → Followed c rest all states reached → ReachesBy c all states reached
all_followed c rest all states reached end f t = sym (ap (λ ss. reaches (finder_of c ss t) reached) end) ∙ f.finds t

pub one_followed : (c : ℕ) (s : Step) (rest all : List Step) (states : List State) (reached next after_both : Reached) →
    Followed c (s ∷ rest) all states reached → ReachesAfter c s reached.states.items next →
    after_both.states.items ≡ next.states.items → after_both.hides ≡ (reached.hides || next.hides) →
    Followed c rest all states after_both
one_followed c s rest all states reached next after_both f found same either = record {
  finds = λ t. let u : Holding → Bool = finder_of c rest t in
      ap₂ (λ (b : Bool) (ss : List State). b || some_holds u ss) either same
      ∙ or_assoc reached.hides next.hides (some_holds u next.states.items)
      ∙ ap (λ b. reached.hides || b) (found u)
      ∙ f.finds t;
}

pub branch_reached : (c : ℕ) (s : Step) (count : ℕ) (a b : List Step) (states copies : List State) (first second r : Reached) →
    ((t : Holding → Bool) → finder c s t ≡ λ q. finder_of c a (λ p. t (first_held count p)) q || finder_of c b (λ p. t (first_held count p)) q) →
    ((t : Holding → Bool) → some_holds t copies ≡ some_holds t states) →
    ReachesBy c a states first → ReachesBy c b copies second → Joins count first second r → ReachesAfter c s states r
branch_reached c s count a b states copies first second r is same firsts seconds joins t =
    let u : Holding → Bool = λ p. t (first_held count p) in
    joins t
    ∙ ap₂ either (firsts u) (seconds u ∙ same (finder_of c b u))
    ∙ sym (some_either (finder_of c a u) (finder_of c b u) states)
    ∙ ap (λ (f : Holding → Bool). some_holds f states) (sym (is t))

-- whether none goes on and one hides
pub hides_is : (r : Reached) → reaches (λ q. false) r ≡ r.hides
hides_is r = ap (either r.hides) (none_holds r.states.items) ∙ or-false r.hides

pub fork_reached : (c : ℕ) (s : Step) (body : List Step) (states : List State) (reached r : Reached) →
    ((t : Holding → Bool) → finder c s t ≡ is_hidden_by c body) → ReachesBy c body states reached →
    ((t : Holding → Bool) → reaches t r ≡ reached.hides) → ReachesAfter c s states r
fork_reached c s body states reached r is found none t =
    none t ∙ sym (hides_is reached) ∙ found (λ q. false) ∙ ap (λ (f : Holding → Bool). some_holds f states) (sym (is t))
