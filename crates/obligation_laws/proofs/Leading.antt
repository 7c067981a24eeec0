-- A state that comes of another, and the run that leads from one to the other, for given inputs.
use Rattle.std.proofs.Common.{◌≡◌, ℕ, List, [], ◌∷◌, ◌++◌, Bool, true, false, Option, Some, None, option_and_then, option_map, refl, sym, ap, subst, ◌∙◌}
use Rattle.std.specs.Prelude.{not}
use Rattle.std.proofs.lemmas.List.{append-nil, append_assoc, append_cancel_left}
use Rattle.cocoon_num.specs.Packets.{Packet}
use Rattle.cocoon_num.specs.Tree.{Param, Design}
use Rattle.cocoon_num.specs.Values.{truth, FitsWidth}
use Rattle.cocoon_types.specs.Runs.{End, falls, sends, back_to}
use Rattle.cocoon_types.specs.Tables.{Defs}
use Rattle.cocoon_types.specs.Val.{Env}
use Rattle.refinement.specs.Ways.{Course, Way, branch, if_sends, in_branch, on_true, since, then_on}
use Rattle.bv_terms.specs.TermTrees.{Term}
use Rattle.bv_terms.specs.TermValues.{Functions, Inputs, term_value}
use Rattle.sound_types.specs.Matching.{Binds}
use Rattle.obligation_laws.specs.Shown.{functions_by}
use Rattle.obligation_laws.proofs.OperatorTerms.{shown}
use Rattle.obligation_laws.specs.States.{NewInput, Place, State, and_with}
use Rattle.obligation_laws.specs.States as states
use Rattle.obligation_laws.specs.Meant.{AllFit, IsOne, given}
use Rattle.obligation_laws.proofs.Meaning.{Fits, FitsBy, end_by, end_of, env_at, packet_at}
use Rattle.obligation_laws.proofs.TruthValues.{chain_holds, holds, is_one, parts_hold}

-- ---- courses

abbrev pub course : End → List ℕ → Way → Course
course e rest way = record { end = e; rest = rest; way = way }

pub some_there : {A B : Type 0} (f : A → Option B) (o : Option A) (b : B) → option_and_then f o ≡ Some b → (a : A) × (o ≡ Some a) × (f a ≡ Some b)
some_there f None b h = absurd (cc)
some_there f (Some a) b h = (a, refl, h)

pub map_there : {A B : Type 0} (f : A → B) (o : Option A) (b : B) → option_map f o ≡ Some b → (a : A) × (o ≡ Some a) × (f a ≡ b)
map_there f None b h = absurd (cc)
map_there f (Some a) b h = let e : f a ≡ b = cc in (a, refl, e)

pub was_true : {A : Type 0} (b : Bool) (x : Option A) (y : A) → on_true (Some (truth b)) x ≡ Some y → (b ≡ true) × (x ≡ Some y)
was_true true x y h = (refl, h)
was_true false x y h = absurd (cc)

pub sends_only : (o : Option Course) (c : Course) → option_and_then (λ (r : Course). if_sends r.end r) o ≡ Some c → o ≡ Some c
sends_only None c h = absurd (cc)
sends_only (Some r) c h = by r.end h
  where
    by : (e : End) → if_sends e r ≡ Some c → Some r ≡ Some c
    by (falls env packet) k = absurd (cc)
    by (sends to packet) k = k

-- what follows a course only makes its way longer
longer : (e : End) (c : Course) (more : Env → Packet → List ℕ → Option Course) (d : Course) → then_on e c more ≡ Some d → (way : Way) × (d.way ≡ c.way ++ way)
longer (falls env packet) c more d h = let m = map_there (since c.way) (more env packet c.rest) d h in (m.0.way, ap (λ (x : Course). x.way) (sym m.2))
longer (sends to packet) c more d h = let e : c ≡ d = cc in ([], ap (λ (x : Course). x.way) (sym e) ∙ sym (append-nil c.way))

-- the branch that ran, or the other one
abbrev chosen_run : Bool → Option Course → Option Course → Option Course
chosen_run true x y = x
chosen_run false x y = y

-- a truth value is that of a branch
abbrev agree : Bool → Bool → Bool
agree true c = c
agree false c = not c

agree_is : (k c : Bool) → agree k c ≡ true → c ≡ k
agree_is true c h = h
agree_is false true h = absurd (cc)
agree_is false false h = refl

is_agree : (k c : Bool) → c ≡ k → agree k c ≡ true
is_agree true c h = h
is_agree false true h = absurd (cc)
is_agree false false h = refl

in_mapped : (k : Bool) (env : Env) (x : Option Course) (c : Course) (a b way : Way) → option_map (in_branch k env) x ≡ Some c → c.way ++ a ≡ (k ∷ way) ++ b → (c' : Course) × (x ≡ Some c') × (c'.way ++ a ≡ way ++ b)
in_mapped k env x c a b way h same =
    let m = map_there (in_branch k env) x c h in
    let e : k ∷ (m.0.way ++ a) ≡ k ∷ (way ++ b) = ap (λ (z : Course). z.way ++ a) m.2 ∙ same in
    let tails : m.0.way ++ a ≡ way ++ b = cc in
    (m.0, m.1, tails)

other_way : (k l : Bool) (env : Env) (x : Option Course) (c : Course) (a b way : Way) → option_map (in_branch l env) x ≡ Some c → c.way ++ a ≡ (k ∷ way) ++ b → l ≡ k
other_way k l env x c a b way h same =
    let m = map_there (in_branch l env) x c h in
    let e : l ∷ (m.0.way ++ a) ≡ k ∷ (way ++ b) = ap (λ (z : Course). z.way ++ a) m.2 ∙ same in
    cc

-- a run through an `if` that takes a way's branch ran that branch
branch_ran : (k c : Bool) (env : Env) (x y : Option Course) (d : Course) (a b way : Way)
    → branch (Some (truth c)) (option_map (in_branch true env) x) (option_map (in_branch false env) y) ≡ Some d → d.way ++ a ≡ (k ∷ way) ++ b
    → (c ≡ k) × ((d' : Course) × (chosen_run k x y ≡ Some d') × (d'.way ++ a ≡ way ++ b))
branch_ran true true env x y d a b way h same = (refl, in_mapped true env x d a b way h same)
branch_ran true false env x y d a b way h same = absurd (let e : false ≡ true = other_way true false env y d a b way h same in cc)
branch_ran false true env x y d a b way h same = absurd (let e : true ≡ false = other_way false true env x d a b way h same in cc)
branch_ran false false env x y d a b way h same = (refl, in_mapped false env y d a b way h same)

branch_runs : (k c : Bool) (env : Env) (x y : Option Course) → c ≡ k → branch (Some (truth c)) (option_map (in_branch true env) x) (option_map (in_branch false env) y) ≡ option_map (in_branch k env) (chosen_run k x y)
branch_runs true true env x y h = refl
branch_runs true false env x y h = absurd (cc)
branch_runs false true env x y h = absurd (cc)
branch_runs false false env x y h = refl

-- ---- given numbers

pub given_join : (ins : Inputs) (is js : List NewInput) (rest : List ℕ) → given ins (is ++ js) ++ rest ≡ given ins is ++ (given ins js ++ rest)
given_join ins [] js rest = refl
given_join ins (i ∷ is) js rest = ap (λ ns. ins i.number ∷ ns) (given_join ins is js rest)

pub fit_split : (ins : Inputs) (is js : List NewInput) → AllFit ins (is ++ js) → AllFit ins is × AllFit ins js
fit_split ins [] js h = (tt, h)
fit_split ins (i ∷ is) js h = let r = fit_split ins is js h.1 in ((h.0, r.0), r.1)

-- ---- leading

abbrev pub Run : Type 0
Run = List ℕ → Option Course

module _ (d : Design) (defs : Defs) (ins : Inputs) (level : ℕ) where
  abbrev G : Functions
  G = functions_by d defs

  abbrev Fit : List Param → State → Type 0
  Fit vars s = Fits d defs ins level vars s

  abbrev End_of : State → End
  End_of t = end_of d defs ins level t

  -- From a state with these variables in scope a run leads to another, with those in scope after it: if the condition there
  -- is true, it was true before, and the run takes the way, by the numbers of the choices that are new; and if it was true
  -- before, and the run takes the way or begins with it, it is true there.
  pub record Leads (vars after : List Param) (s t : State) (run : Run) : Type 0 where
    pub way : Way
    pub chosen : List NewInput
    pub way_is : t.way ≡ s.way ++ way
    pub chosen_is : t.choices ≡ s.choices ++ chosen
    pub fits : Fits d defs ins level vars s → AllFit ins chosen → Fits d defs ins level after t
    pub sound : Fits d defs ins level vars s → AllFit ins chosen → IsOne (functions_by d defs) ins t.cond
        → IsOne (functions_by d defs) ins s.cond × ((rest : List ℕ) → run (given ins chosen ++ rest) ≡ Some (course (end_of d defs ins level t) rest way))
    pub back : Fits d defs ins level vars s → AllFit ins chosen → IsOne (functions_by d defs) ins s.cond
        → (rest : List ℕ) (c : Course) (a b : Way) → run (given ins chosen ++ rest) ≡ Some c → c.way ++ a ≡ way ++ b → IsOne (functions_by d defs) ins t.cond

  -- ---- ends

  falls_at : (t : State) → t.sent ≡ None → End_of t ≡ falls (env_at d defs ins level t) (packet_at d defs ins level t)
  falls_at t p = ap (λ o. end_by d defs ins level o (env_at d defs ins level t) (packet_at d defs ins level t)) p

  sends_on : (t : State) (at : Place) → t.sent ≡ Some at → (c : Course) → if_sends (End_of t) c ≡ Some c
  sends_on t at p c = ap (λ o. if_sends (end_by d defs ins level o (env_at d defs ins level t) (packet_at d defs ins level t)) c) p

  sends_then : (t : State) (at : Place) → t.sent ≡ Some at → (c : Course) (more : Env → Packet → List ℕ → Option Course) → then_on (End_of t) c more ≡ Some c
  sends_then t at p c more = ap (λ o. then_on (end_by d defs ins level o (env_at d defs ins level t) (packet_at d defs ins level t)) c more) p

  -- what has sent fits, whatever is in scope
  pub sent_fits : (vars after : List Param) (t : State) (at : Place) → t.sent ≡ Some at → Fit vars t → Fit after t
  sent_fits vars after t at p f = record { fields = f.fields; cond = f.cond; place = subst (λ o. FitsBy d defs ins level after o t) (sym p) (subst (λ o. FitsBy d defs ins level vars o t) p f.place) }

  pub binds_of : (vars : List Param) (s : State) → s.sent ≡ None → Fit vars s → Binds vars (env_at d defs ins level s)
  binds_of vars s p f = subst (λ o. FitsBy d defs ins level vars o s) p f.place

  -- ---- statements that go straight on

  -- nothing is asked
  pub quiet : (vars after : List Param) (s t : State) (run : Run) → t.way ≡ s.way → t.choices ≡ s.choices → t.cond ≡ s.cond
      → (Fit vars s → Fit after t × ((rest : List ℕ) → run rest ≡ Some (course (End_of t) rest []))) → Leads vars after s t run
  quiet vars after s t run way choices cond h = record {
    way = [];
    chosen = [];
    way_is = way ∙ sym (append-nil s.way);
    chosen_is = choices ∙ sym (append-nil s.choices);
    fits = λ f g. (h f).0;
    sound = λ f g one. (subst (IsOne G ins) cond one, (h f).1);
    back = λ f g one rest c a b ran same. subst (IsOne G ins) (sym cond) one;
  }

  pub record Tested (after : List Param) (t : State) (run : Run) (u : Term) : Type 0 where
    pub fit : Fits d defs ins level after t
    pub truth_ : Bool
    pub term : term_value (functions_by d defs) ins u ≡ shown (truth truth_)
    pub runs : (rest : List ℕ) → run rest ≡ on_true (Some (truth truth_)) (Some (course (end_of d defs ins level t) rest []))

  -- a term must be true
  pub tested : (vars after : List Param) (s t : State) (run : Run) (u : Term) → t.way ≡ s.way → t.choices ≡ s.choices → t.cond ≡ and_with s.cond u
      → (Fit vars s → Tested after t run u) → Leads vars after s t run
  tested vars after s t run u way choices cond h = record {
    way = [];
    chosen = [];
    way_is = way ∙ sym (append-nil s.way);
    chosen_is = choices ∙ sym (append-nil s.choices);
    fits = λ f g. (h f).fit;
    sound = λ f g one.
        let x = h f in
        let p = parts_hold G ins s.cond u f.cond (x.truth_, x.term) (subst (IsOne G ins) cond one) in
        (p.0, λ rest. x.runs rest ∙ ap (λ b. on_true (Some (truth b)) (Some (course (End_of t) rest []))) (holds G ins u x.truth_ x.term p.1));
    back = λ f g one rest c a b ran same.
        let x = h f in
        let was = was_true x.truth_ (Some (course (End_of t) rest [])) c (sym (x.runs rest) ∙ ran) in
        subst (IsOne G ins) (sym cond) (chain_holds G ins s.cond u one (is_one G ins u x.truth_ x.term was.0));
  }

  -- a number is chosen
  pub picks : (vars after : List Param) (s t : State) (run : Run) (i : NewInput) → t.way ≡ s.way → t.choices ≡ s.choices ++ i ∷ [] → t.cond ≡ s.cond
      → (Fit vars s → FitsWidth i.width (ins i.number) → Fit after t × ((rest : List ℕ) → run (ins i.number ∷ rest) ≡ Some (course (End_of t) rest []))) → Leads vars after s t run
  picks vars after s t run i way choices cond h = record {
    way = [];
    chosen = i ∷ [];
    way_is = way ∙ sym (append-nil s.way);
    chosen_is = choices;
    fits = λ f g. (h f g.0).0;
    sound = λ f g one. (subst (IsOne G ins) cond one, (h f g.0).1);
    back = λ f g one rest c a b ran same. subst (IsOne G ins) (sym cond) one;
  }

  -- ---- blocks within statements

  pub record Forked (more : List Param) (u : State) (run inner : Run) (i : NewInput) (q : Term) : Type 0 where
    pub fit : Fits d defs ins level more u
    pub truth_ : Bool
    pub term : term_value (functions_by d defs) ins q ≡ shown (truth truth_)
    pub runs : (rest : List ℕ) → run (ins i.number ∷ rest) ≡ on_true (Some (truth truth_)) (option_and_then (λ (r : Course). if_sends r.end r) (inner rest))

  -- a number is chosen, a term must be true, and a block sends
  pub forked : (vars more inside after : List Param) (s u t : State) (run inner : Run) (i : NewInput) (q : Term) (at : Place) → u.way ≡ s.way → u.choices ≡ s.choices ++ i ∷ [] → u.cond ≡ and_with s.cond q → t.sent ≡ Some at
      → (Fit vars s → FitsWidth i.width (ins i.number) → Forked more u run inner i q) → Leads more inside u t inner → Leads vars after s t run
  forked vars more inside after s u t run inner i q at way choices cond sent h l = record {
    way = l.way;
    chosen = i ∷ l.chosen;
    way_is = l.way_is ∙ ap (λ v. v ++ l.way) way;
    chosen_is = l.chosen_is ∙ ap (λ cs. cs ++ l.chosen) choices ∙ append_assoc s.choices (i ∷ []) l.chosen;
    fits = λ f g. sent_fits inside after t at sent (l.fits (h f g.0).fit g.1);
    sound = λ f g one.
        let x = h f g.0 in
        let k = l.sound x.fit g.1 one in
        let p = parts_hold G ins s.cond q f.cond (x.truth_, x.term) (subst (IsOne G ins) cond k.0) in (
          p.0,
          λ rest. x.runs (given ins l.chosen ++ rest)
              ∙ (λ j. on_true (Some (truth (holds G ins q x.truth_ x.term p.1 j))) (option_and_then (λ (r : Course). if_sends r.end r) (k.1 rest j)))
              ∙ sends_on t at sent (course (End_of t) rest l.way),
        );
    back = λ f g one rest c a b ran same.
        let x = h f g.0 in
        let was = was_true x.truth_ (option_and_then (λ (r : Course). if_sends r.end r) (inner (given ins l.chosen ++ rest))) c (sym (x.runs (given ins l.chosen ++ rest)) ∙ ran) in
        l.back x.fit g.1 (subst (IsOne G ins) (sym cond) (chain_holds G ins s.cond q one (is_one G ins q x.truth_ x.term was.0)))
        rest c a b (sends_only (inner (given ins l.chosen ++ rest)) c was.1) same;
  }

  pub record Branched (vars : List Param) (k : Bool) (s u : State) (run first second : Run) (q : Term) : Type 0 where
    pub fit : Fits d defs ins level vars u
    pub truth_ : Bool
    pub term : term_value (functions_by d defs) ins q ≡ shown (truth (agree k truth_))
    pub runs : (rest : List ℕ) → run rest ≡ branch (Some (truth truth_)) (option_map (in_branch true (env_at d defs ins level s)) (first rest)) (option_map (in_branch false (env_at d defs ins level s)) (second rest))

  back_place : (vars inside : List Param) (s t : State) (o : Option Place) → Binds vars (env_at d defs ins level s) → FitsBy d defs ins level inside o t → FitsBy d defs ins level vars o (states.back_to s.vars t)
  back_place vars inside s t None b f = b
  back_place vars inside s t (Some at) b f = f

  back_fits : (vars inside : List Param) (s t : State) → s.sent ≡ None → Fit vars s → Fit inside t → Fit vars (states.back_to s.vars t)
  back_fits vars inside s t p f g = record { fields = g.fields; cond = g.cond; place = back_place vars inside s t t.sent (binds_of vars s p f) g.place }

  back_end : (s t : State) (o : Option Place) → back_to (env_at d defs ins level s) (end_by d defs ins level o (env_at d defs ins level t) (packet_at d defs ins level t)) ≡ end_by d defs ins level o (env_at d defs ins level s) (packet_at d defs ins level t)
  back_end s t None = refl
  back_end s t (Some at) = refl

  -- one of two blocks runs
  pub branched : (vars inside : List Param) (k : Bool) (s u t : State) (run first second : Run) (q : Term) → s.sent ≡ None → u.way ≡ s.way ++ k ∷ [] → u.choices ≡ s.choices → u.cond ≡ and_with s.cond q
      → (Fit vars s → Branched vars k s u run first second q) → Leads vars inside u t (λ rest. chosen_run k (first rest) (second rest)) → Leads vars vars s (states.back_to s.vars t) run
  branched vars inside k s u t run first second q p way choices cond h l = record {
    way = k ∷ l.way;
    chosen = l.chosen;
    way_is = l.way_is ∙ ap (λ v. v ++ l.way) way ∙ append_assoc s.way (k ∷ []) l.way;
    chosen_is = l.chosen_is ∙ ap (λ cs. cs ++ l.chosen) choices;
    fits = λ f g. back_fits vars inside s t p f (l.fits (h f).fit g);
    sound = λ f g one.
        let x = h f in
        let m = l.sound x.fit g one in
        let n = parts_hold G ins s.cond q f.cond (agree k x.truth_, x.term) (subst (IsOne G ins) cond m.0) in (
          n.0,
          λ rest. x.runs (given ins l.chosen ++ rest)
              ∙ branch_runs k x.truth_ (env_at d defs ins level s) (first (given ins l.chosen ++ rest)) (second (given ins l.chosen ++ rest)) (agree_is k x.truth_ (holds G ins q (agree k x.truth_) x.term n.1))
              ∙ ap (option_map (in_branch k (env_at d defs ins level s))) (m.1 rest)
              ∙ ap (λ e. Some (course e rest (k ∷ l.way))) (back_end s t t.sent),
        );
    back = λ f g one rest c a b ran same.
        let x = h f in
        let cs = given ins l.chosen ++ rest in
        let was = branch_ran k x.truth_ (env_at d defs ins level s) (first cs) (second cs) c a b l.way (sym (x.runs cs) ∙ ran) same in
        l.back x.fit g (subst (IsOne G ins) (sym cond) (chain_holds G ins s.cond q one (is_one G ins q (agree k x.truth_) x.term (is_agree k x.truth_ was.0)))) rest was.1.0 a b was.1.1 was.1.2;
  }

  -- ---- one after another

  abbrev then_run : Run → (Env → Packet → List ℕ → Option Course) → Run
  then_run run more cs = option_and_then (λ (c : Course). then_on c.end c more) (run cs)

  pub composed : (vars mid after : List Param) (s m t : State) (run : Run) (more : Env → Packet → List ℕ → Option Course) → m.sent ≡ None
      → Leads vars mid s m run → Leads mid after m t (more (env_at d defs ins level m) (packet_at d defs ins level m)) → Leads vars after s t (then_run run more)
  composed vars mid after s m t run more p l k = record {
    way = l.way ++ k.way;
    chosen = l.chosen ++ k.chosen;
    way_is = k.way_is ∙ ap (λ v. v ++ k.way) l.way_is ∙ append_assoc s.way l.way k.way;
    chosen_is = k.chosen_is ∙ ap (λ cs. cs ++ k.chosen) l.chosen_is ∙ append_assoc s.choices l.chosen k.chosen;
    fits = λ f g. let e = fit_split ins l.chosen k.chosen g in k.fits (l.fits f e.0) e.1;
    sound = λ f g one.
        let e = fit_split ins l.chosen k.chosen g in
        let two = k.sound (l.fits f e.0) e.1 one in
        let first = l.sound f e.0 two.0 in
        (first.0, λ rest. ap (then_run run more) (given_join ins l.chosen k.chosen rest) ∙ goes rest (first.1 (given ins k.chosen ++ rest)) ∙ ap (option_map (since l.way)) (two.1 rest));
    back = λ f g one rest c a b ran same.
        let e = fit_split ins l.chosen k.chosen g in
        let last = given ins k.chosen ++ rest in
        let ran' : then_run run more (given ins l.chosen ++ last) ≡ Some c = sym (ap (then_run run more) (given_join ins l.chosen k.chosen rest)) ∙ ran in
        let there = some_there (λ (x : Course). then_on x.end x more) (run (given ins l.chosen ++ last)) c ran' in
        let way = longer there.0.end there.0 more c there.2 in
        let same' : c.way ++ a ≡ l.way ++ (k.way ++ b) = same ∙ append_assoc l.way k.way b in
        let mid_one = l.back f e.0 one last there.0 (way.0 ++ a) (k.way ++ b) there.1 (sym (append_assoc there.0.way way.0 a) ∙ ap (λ v. v ++ a) (sym way.1) ∙ same') in
        let ran_on = map_there (since l.way) (more (env_at d defs ins level m) (packet_at d defs ins level m) last) c (sym (goes rest ((l.sound f e.0 mid_one).1 last)) ∙ ran') in
        k.back (l.fits f e.0) e.1 mid_one rest ran_on.0 a b ran_on.1
        (append_cancel_left l.way (ran_on.0.way ++ a) (k.way ++ b) (sym (append_assoc l.way ran_on.0.way a) ∙ ap (λ (x : Course). x.way ++ a) ran_on.2 ∙ same'));
  }
    where
      goes : (rest : List ℕ) → run (given ins l.chosen ++ (given ins k.chosen ++ rest)) ≡ Some (course (End_of m) (given ins k.chosen ++ rest) l.way)
          → then_run run more (given ins l.chosen ++ (given ins k.chosen ++ rest)) ≡ option_map (since l.way) (more (env_at d defs ins level m) (packet_at d defs ins level m) (given ins k.chosen ++ rest))
      goes rest h =
          ap (option_and_then (λ (c : Course). then_on c.end c more)) h
          ∙ ap (λ e. then_on e (course e (given ins k.chosen ++ rest) l.way) more) (falls_at m p)

  -- what has sent is not followed
  pub stopped : (vars mid after : List Param) (s m : State) (run : Run) (more : Env → Packet → List ℕ → Option Course) (at : Place) → m.sent ≡ Some at
      → Leads vars mid s m run → Leads vars after s m (then_run run more)
  stopped vars mid after s m run more at p l = record {
    way = l.way;
    chosen = l.chosen;
    way_is = l.way_is;
    chosen_is = l.chosen_is;
    fits = λ f g. sent_fits mid after m at p (l.fits f g);
    sound = λ f g one.
        let k = l.sound f g one in
        (k.0, λ rest. ap (option_and_then (λ (c : Course). then_on c.end c more)) (k.1 rest) ∙ sends_then m at p (course (End_of m) rest l.way) more);
    back = λ f g one rest c a b ran same.
        let there = some_there (λ (x : Course). then_on x.end x more) (run (given ins l.chosen ++ rest)) c ran in
        let way = longer there.0.end there.0 more c there.2 in
        l.back f g one rest there.0 (way.0 ++ a) b there.1 (sym (append_assoc there.0.way way.0 a) ∙ ap (λ v. v ++ a) (sym way.1) ∙ same);
  }
