-- Each run has its state: one with its way, whose new choices are as many as the run used, and fit them.
use Rattle.std.proofs.Common.{◌≡◌, ◌⊎◌, inl, inr, ℕ, zero, suc, ◌≤◌, ◌^◌, List, [], ◌∷◌, ◌++◌, Bool, true, false, cond, Option, Some, None, is_some, if◌then◌else◌, option_and_then, option_map, refl, sym, ap, subst, ◌∙◌, arith}
use Rattle.std.specs.Prelude.{filter}
use Rattle.std.proofs.lemmas.Bool.{ltb-true}
use Rattle.std.proofs.lemmas.List.{append-nil, append_assoc}
use Rattle.cocoon_num.specs.Packets.{Packet}
use Rattle.cocoon_num.specs.Tree.{Stmt, let_, set_field, if_, filter as filter_stmt, havoc_var, havoc_field, assume, fork, send, Block, no_stmts, stmt, Role, Design}
use Rattle.cocoon_num.specs.Values.{Value, number, truth, FitsWidth, as_number, fits_width}
use Rattle.cocoon_types.specs.Design.{field_width, role_at, write_field}
use Rattle.cocoon_types.specs.Runs.{End, falls, sends, Loc, World, back_to, world}
use Rattle.cocoon_types.specs.Tables.{Defs}
use Rattle.cocoon_types.specs.Taken.{guard_at}
use Rattle.cocoon_types.specs.Val.{Env, bind, bound, numbers, value}
use Rattle.refinement.specs.Ways.{Arrival, Course, Way, after, arrival, body_by, branch, choose, go_by, if_new, if_sends, in_branch, on_true, run_all_by, run_by, since, straight, then_on}
use Rattle.sound_types.proofs.Members.{In, in_left, in_map, in_right}
use Rattle.obligation_laws.specs.TermOf.{terms_of}
use Rattle.obligation_laws.specs.States as states
use Rattle.obligation_laws.specs.States.{NewInput, Place, State, TermWorld, choice_width, input_term, term_world, where_true}
use Rattle.obligation_laws.specs.Following as following
use Rattle.obligation_laws.specs.Following.{Followed, chosen_as, each, follow, follow_all, has_sent, next_input, one, sends_to, term_at, those_sent, unless_sent}
use Rattle.obligation_laws.specs.Leaves.{entered, follow_body, hops, onward}
use Rattle.obligation_laws.proofs.Growing.{Place_of, block_grows, body_grows, followed_grows, hop_grows, place_in}
use Rattle.obligation_laws.proofs.Hopping.{arrive, hops_in, new_at}
use Rattle.obligation_laws.proofs.Leading.{map_there, sends_only, some_there}
use Rattle.obligation_laws.specs.LeafForms.{Ascend}
use Rattle.obligation_laws.proofs.Numbering.{Fill, fill_join, numbered_join, numbered_wider}

-- ---- parts of runs

choose_there : {A : Type 0} (width : ℕ) (cs : List ℕ) (f : ℕ → List ℕ → Option A) (c : A) → choose width cs f ≡ Some c
    → (n : ℕ) × (rest : List ℕ) × (cs ≡ n ∷ rest) × FitsWidth width n × (f n rest ≡ Some c)
choose_there width [] f c h = absurd (cc)
choose_there width (n ∷ cs) f c h = by (fits_width width n) refl h
  where
    by : (b : Bool) → fits_width width n ≡ b → (if b then f n cs else None) ≡ Some c → (m : ℕ) × (rest : List ℕ) × (n ∷ cs ≡ m ∷ rest) × FitsWidth width m × (f m rest ≡ Some c)
    by true e k = (n, cs, refl, ltb-true n (2 ^ width) e, k)
    by false e k = absurd (cc)

passes : {A : Type 0} (v : Option Value) (x : Option A) (c : A) → on_true v x ≡ Some c → x ≡ Some c
passes None x c h = absurd (cc)
passes (Some (truth true)) x c h = h
passes (Some (truth false)) x c h = absurd (cc)
passes (Some (number w n)) x c h = absurd (cc)

abbrev Ran : Bool → Env → Option Course → Course → Type 0
Ran k env x c = (c' : Course) × (x ≡ Some c') × (in_branch k env c' ≡ c)

branch_there : (v : Option Value) (env : Env) (x y : Option Course) (c : Course) → branch v (option_map (in_branch true env) x) (option_map (in_branch false env) y) ≡ Some c → Ran true env x c ⊎ Ran false env y c
branch_there None env x y c h = absurd (cc)
branch_there (Some (truth true)) env x y c h = inl (map_there (in_branch true env) x c h)
branch_there (Some (truth false)) env x y c h = inr (map_there (in_branch false env) y c h)
branch_there (Some (number w n)) env x y c h = absurd (cc)

kept : {A : Type 0} (p : A → Bool) (xs : List A) (x : A) → In x xs → p x ≡ true → In x (filter p xs)
kept p [] x i h = absurd i
kept p (y ∷ xs) x i h = by (kept p xs x) (p y) refl i
  where
    by : (In x xs → p x ≡ true → In x (filter p xs)) → (b : Bool) → p y ≡ b → In x (y ∷ xs) → In x (cond b (y ∷ filter p xs) (filter p xs))
    by later true e j = elim j [ inl same ↦ inl same | inr k ↦ inr (later k h) ]
    by later false e j = elim j [
      | inl same ↦ absurd (let f : true ≡ false = sym h ∙ ap p same ∙ e in cc)
      | inr k ↦ later k h
    ]

-- ---- what is found

-- a state has sent where a run ends with a send, to the same role
abbrev pub Ends : End → State → Type 0
Ends (falls env packet) t = t.sent ≡ None
Ends (sends to packet) t = (at : Place) × (t.sent ≡ Some at) × (at.role ≡ to.role)

pub record Found (s t : State) (way : Way) (cs rest : List ℕ) (first last : ℕ) : Type 0 where
  pub chosen : List NewInput
  pub chosen_is : t.choices ≡ s.choices ++ chosen
  pub way_is : t.way ≡ s.way ++ way
  pub used : List ℕ
  pub used_is : cs ≡ used ++ rest
  pub fill : Fill chosen used
  pub numbers : Ascend first last chosen

nothing : (s t : State) (cs : List ℕ) (first last : ℕ) → t.choices ≡ s.choices → t.way ≡ s.way → first ≤ last → Found s t [] cs cs first last
nothing s t cs first last choices way l = record { chosen = []; chosen_is = choices ∙ sym (append-nil s.choices); way_is = way ∙ sym (append-nil s.way); used = []; used_is = refl; fill = tt; numbers = l }

one_choice : (s t : State) (i : NewInput) (n : ℕ) (cs rest : List ℕ) (first last : ℕ) → t.choices ≡ s.choices ++ i ∷ [] → t.way ≡ s.way → cs ≡ n ∷ rest → FitsWidth i.width n → first ≤ i.number → suc i.number ≤ last → Found s t [] cs rest first last
one_choice s t i n cs rest first last choices way is fit l k = record { chosen = i ∷ []; chosen_is = choices; way_is = way ∙ sym (append-nil s.way); used = n ∷ []; used_is = is; fill = (fit, tt); numbers = (l, k) }

found_join : (s m t : State) (way more : Way) (cs mid rest : List ℕ) (first to from last : ℕ) → to ≤ from → Found s m way cs mid first to → Found m t more mid rest from last → Found s t (way ++ more) cs rest first last
found_join s m t way more cs mid rest first to from last l a b = record {
  chosen = a.chosen ++ b.chosen;
  chosen_is = b.chosen_is ∙ ap (λ x. x ++ b.chosen) a.chosen_is ∙ append_assoc s.choices a.chosen b.chosen;
  way_is = b.way_is ∙ ap (λ x. x ++ more) a.way_is ∙ append_assoc s.way way more;
  used = a.used ++ b.used;
  used_is = a.used_is ∙ ap (λ x. a.used ++ x) b.used_is ∙ sym (append_assoc a.used b.used rest);
  fill = fill_join a.chosen b.chosen a.used b.used a.fill b.fill;
  numbers = numbered_join first from last a.chosen b.chosen (numbered_wider first to first from a.chosen (omega arith) l a.numbers) b.numbers;
}

found_wider : (s t : State) (way : Way) (cs rest : List ℕ) (first last low high : ℕ) → low ≤ first → last ≤ high → Found s t way cs rest first last → Found s t way cs rest low high
found_wider s t way cs rest first last low high l k a = record { chosen = a.chosen; chosen_is = a.chosen_is; way_is = a.way_is; used = a.used; used_is = a.used_is; fill = a.fill; numbers = numbered_wider first last low high a.chosen l k a.numbers }

-- behind a branch
found_branch : (k : Bool) (s u t : State) (way : Way) (cs rest : List ℕ) (first last : ℕ) → u.choices ≡ s.choices → u.way ≡ s.way ++ k ∷ [] → Found u t way cs rest first last → Found s (states.back_to s.vars t) (k ∷ way) cs rest first last
found_branch k s u t way cs rest first last choices ways a = record {
  chosen = a.chosen;
  chosen_is = a.chosen_is ∙ ap (λ x. x ++ a.chosen) choices;
  way_is = a.way_is ∙ ap (λ x. x ++ way) ways ∙ append_assoc s.way (k ∷ []) way;
  used = a.used;
  used_is = a.used_is;
  fill = a.fill;
  numbers = a.numbers;
}

ends_back : (s t : State) (env : Env) (e : End) → Ends e t → Ends (back_to env e) (states.back_to s.vars t)
ends_back s t env (falls inner packet) h = h
ends_back s t env (sends to packet) h = h

-- behind a choice
found_choice : (s u t : State) (i : NewInput) (n : ℕ) (way : Way) (cs more rest : List ℕ) (first last : ℕ) → u.choices ≡ s.choices ++ i ∷ [] → u.way ≡ s.way → cs ≡ n ∷ more → FitsWidth i.width n → first ≤ i.number
    → Found u t way more rest (suc i.number) last → Found s t way cs rest first last
found_choice s u t i n way cs more rest first last choices ways is fit l a = record {
  chosen = i ∷ a.chosen;
  chosen_is = a.chosen_is ∙ ap (λ x. x ++ a.chosen) choices ∙ append_assoc s.choices (i ∷ []) a.chosen;
  way_is = a.way_is ∙ ap (λ x. x ++ way) ways;
  used = n ∷ a.used;
  used_is = is ∙ ap (λ x. n ∷ x) a.used_is;
  fill = (fit, a.fill);
  numbers = (l, a.numbers);
}

sent_end : (o : Option Course) (c : Course) → option_and_then (λ (r : Course). if_sends r.end r) o ≡ Some c → (to : Loc) × (packet : Packet) × (c.end ≡ sends to packet)
sent_end None c h = absurd (cc)
sent_end (Some r) c h = by r.end refl h
  where
    by : (e : End) → r.end ≡ e → if_sends e r ≡ Some c → (to : Loc) × (packet : Packet) × (c.end ≡ sends to packet)
    by (falls env packet) is k = absurd (cc)
    by (sends to packet) is k = let e : r ≡ c = cc in (to, packet, ap (λ (x : Course). x.end) (sym e) ∙ is)

has_of : (t : State) (at : Place) → t.sent ≡ Some at → has_sent t ≡ true
has_of t at p = ap (λ (o : Option Place). is_some o) p

-- a state that has sent stays
stays : (w : TermWorld) (b : Block) (ss : List State) (n : ℕ) (m : State) (at : Place) → m.sent ≡ Some at → In m ss → In m (follow_all w b (ss, n)).0
stays w no_stmts ss n m at p i = i
stays w (stmt x rest) ss n m at p i =
    let f = unless_sent (follow w x) in
    let k = place_in f (followed_grows w x) m ss i n in
    let own : In m (f m k.from).0 = subst (λ (o : Option Place). In m (elim o as (λ z. Followed) [ None ↦ follow w x m k.from | Some to ↦ one m k.from ]).0) (sym p) (inl refl) in
    stays w rest (each f ss n).0 (each f ss n).1 m at p (k.within m own)

unless_is : (f : State → ℕ → Followed) (s : State) (n : ℕ) → s.sent ≡ None → unless_sent f s n ≡ f s n
unless_is f s n p = ap (λ (o : Option Place). elim o as (λ x. Followed) [ None ↦ f s n | Some to ↦ one s n ]) p

module _ (d : Design) (defs : Defs) (level : ℕ) where
  abbrev W : World
  W = world level d defs

  abbrev T : TermWorld
  T = term_world level d

  pub record StmtFound (x : Stmt) (s : State) (n : ℕ) (cs : List ℕ) (c : Course) : Type 0 where
    pub state : State
    pub within : In state (follow (term_world level d) x s n).0
    pub found : Found s state c.way cs c.rest n (follow (term_world level d) x s n).1
    pub ends : Ends c.end state

  pub record BlockFound (b : Block) (ss : List State) (s : State) (n from : ℕ) (cs : List ℕ) (c : Course) : Type 0 where
    pub state : State
    pub within : In state (follow_all (term_world level d) b (ss, n)).0
    pub found : Found s state c.way cs c.rest from (follow_all (term_world level d) b (ss, n)).1
    pub ends : Ends c.end state

  -- the rest of a block, behind a statement
  behind : (x : Stmt) (rest : Block) (ss : List State) (s : State) (i : In s ss) (p : s.sent ≡ None) (n : ℕ) (cs : List ℕ) (c c1 : Course)
      → ((k : ℕ) → StmtFound x s k cs c1)
      → ((m : State) → In m (each (unless_sent (follow T x)) ss n).0 → m.sent ≡ None → (env : Env) (packet : Packet) (c2 : Course) → run_all_by W rest env packet c1.rest ≡ Some c2
      → BlockFound rest (each (unless_sent (follow T x)) ss n).0 m (each (unless_sent (follow T x)) ss n).1 (each (unless_sent (follow T x)) ss n).1 c1.rest c2)
      → then_on c1.end c1 (λ env packet more. run_all_by W rest env packet more) ≡ Some c → BlockFound (stmt x rest) ss s n n cs c
  behind x rest ss s i p n cs c c1 first later h = by c1.end refl h
    where
      f : State → ℕ → Followed
      f = unless_sent (follow T x)

      k : Place_of (unless_sent (follow T x)) s ss n
      k = place_in (unless_sent (follow T x)) (followed_grows T x) s ss i n

      m : StmtFound x s k.from cs c1
      m = first k.from

      same : unless_sent (follow T x) s k.from ≡ follow T x s k.from
      same = unless_is (follow T x) s k.from p

      inside : In m.state (each (unless_sent (follow T x)) ss n).0
      inside = k.within m.state (subst (λ (r : Followed). In m.state r.0) (sym same) m.within)

      last : (follow T x s k.from).1 ≤ (each (unless_sent (follow T x)) ss n).1
      last = subst (λ (r : Followed). r.1 ≤ (each (unless_sent (follow T x)) ss n).1) same k.last

      by : (e : End) → c1.end ≡ e → then_on e c1 (λ env packet more. run_all_by W rest env packet more) ≡ Some c → BlockFound (stmt x rest) ss s n n cs c
      by (falls env packet) is g =
          let two = map_there (since c1.way) (run_all_by W rest env packet c1.rest) c g in
          let none : m.state.sent ≡ None = subst (λ e. Ends e m.state) is m.ends in
          let t = later m.state inside none env packet two.0 two.1 in
          let join = found_join s m.state t.state c1.way two.0.way cs c1.rest two.0.rest k.from (follow T x s k.from).1 (each f ss n).1 (follow_all T rest ((each f ss n).0, (each f ss n).1)).1 last m.found t.found in
          subst (BlockFound (stmt x rest) ss s n n cs) two.2 (record {
            state = t.state;
            within = t.within;
            found = found_wider s t.state (c1.way ++ two.0.way) cs two.0.rest k.from (follow_all T rest ((each f ss n).0, (each f ss n).1)).1 n (follow_all T rest ((each f ss n).0, (each f ss n).1)).1 k.first (omega arith) join;
            ends = t.ends;
          })
      by (sends to packet) is g =
          let e : c1 ≡ c = cc in
          let at : Ends (sends to packet) m.state = subst (λ y. Ends y m.state) is m.ends in
          let l = block_grows T rest (each f ss n).0 (each f ss n).1 in
          subst (BlockFound (stmt x rest) ss s n n cs) e (record {
            state = m.state;
            within = stays T rest (each f ss n).0 (each f ss n).1 m.state at.0 at.1 inside;
            found = found_wider s m.state c1.way cs c1.rest k.from (follow T x s k.from).1 n (follow_all T rest ((each f ss n).0, (each f ss n).1)).1 k.first (omega (arith, l, last)) m.found;
            ends = m.ends;
          })

  mutual
    pub stmt_found : (x : Stmt) (s : State) → s.sent ≡ None → (n : ℕ) (env : Env) (packet : Packet) (cs : List ℕ) (c : Course) → run_by W x env packet cs ≡ Some c → StmtFound x s n cs c
    stmt_found (let_ at x width e) s p n env packet cs c h =
        let v = map_there (λ (y : Value). straight (falls (bound x.text y env) packet) cs) (value W.context env packet e) c h in
        let t = states.with_variable x.text (term_at T s e) s in
        subst (StmtFound (let_ at x width e) s n cs) v.2 (record { state = t; within = inl refl; found = nothing s t cs n n refl refl (omega arith); ends = p })
    stmt_found (set_field at x f e) s p n env packet cs c h =
        let v = map_there (λ (y : ℕ). straight (falls env (write_field W.context.headers packet x.text f.text y)) cs) (option_and_then as_number (value W.context env packet e)) c h in
        let t = states.with_field d.headers x.text f.text (term_at T s e) s in
        subst (StmtFound (set_field at x f e) s n cs) v.2 (record { state = t; within = inl refl; found = nothing s t cs n n refl refl (omega arith); ends = p })
    stmt_found (if_ at e first second) s p n env packet cs c h =
        let yes = following.in_branch true (term_at T s e) s in
        let other = following.in_branch false (term_at T s e) s in
        let A = follow_all T first (one yes n) in
        let B = follow_all T second (one other A.1) in
        let l = block_grows T first (yes ∷ []) n in
        let k = block_grows T second (other ∷ []) A.1 in
        elim (branch_there (value W.context env packet e) env (run_all_by W first env packet cs) (run_all_by W second env packet cs) c h) [
          | inl r ↦
              let q = block_found first (yes ∷ []) yes (inl refl) p n env packet cs r.0 r.1 in
              let t = states.back_to s.vars q.state in
              subst (StmtFound (if_ at e first second) s n cs) r.2 (record {
                state = t;
                within = in_map (states.back_to s.vars) q.state (A.0 ++ B.0) (in_left q.state A.0 B.0 q.within);
                found = found_wider s t (true ∷ r.0.way) cs r.0.rest n A.1 n B.1 (omega arith) k (found_branch true s yes q.state r.0.way cs r.0.rest n A.1 refl refl q.found);
                ends = ends_back s q.state env r.0.end q.ends;
              })
          | inr r ↦
              let q = block_found second (other ∷ []) other (inl refl) p A.1 env packet cs r.0 r.1 in
              let t = states.back_to s.vars q.state in
              subst (StmtFound (if_ at e first second) s n cs) r.2 (record {
                state = t;
                within = in_map (states.back_to s.vars) q.state (A.0 ++ B.0) (in_right q.state A.0 B.0 q.within);
                found = found_wider s t (false ∷ r.0.way) cs r.0.rest A.1 B.1 n B.1 l (omega arith) (found_branch false s other q.state r.0.way cs r.0.rest A.1 B.1 refl refl q.found);
                ends = ends_back s q.state env r.0.end q.ends;
              })
        ]
    stmt_found (filter_stmt at e) s p n env packet cs c h =
        let k = passes (value W.context env packet e) (Some (straight (falls env packet) cs)) c h in
        let is : straight (falls env packet) cs ≡ c = cc in
        let t = where_true (term_at T s e) s in
        subst (StmtFound (filter_stmt at e) s n cs) is (record { state = t; within = inl refl; found = nothing s t cs n n refl refl (omega arith); ends = p })
    stmt_found (havoc_var at x width) s p n env packet cs c h =
        let k = choose_there width cs (λ m rest. Some (straight (falls (bound x.text (number width m) env) packet) rest)) c h in
        let g = k.4 in
        let is : straight (falls (bound x.text (number width k.0) env) packet) k.1 ≡ c = cc in
        let t = chosen_as x.text (next_input n width) s in
        subst (StmtFound (havoc_var at x width) s n cs) is (record { state = t; within = inl refl; found = one_choice s t (next_input n width) k.0 cs k.1 n (suc n) refl refl k.2 k.3 (omega arith) (omega arith); ends = p })
    stmt_found (havoc_field at x f) s p n env packet cs c h =
        let goes : ℕ → List ℕ → Option Course = λ m rest. Some (straight (falls env (write_field W.context.headers packet x.text f.text m)) rest) in
        let v = some_there (λ width. choose width cs goes) (field_width d.headers x.text f.text) c h in
        let wide : choice_width d.headers x.text f.text ≡ v.0 = ap (λ (o : Option ℕ). elim o as (λ y. ℕ) [ None ↦ 1 | Some w ↦ w ]) v.1 in
        let k = choose_there v.0 cs goes c v.2 in
        let g = k.4 in
        let is : straight (falls env (write_field W.context.headers packet x.text f.text k.0)) k.1 ≡ c = cc in
        let i = next_input n (choice_width d.headers x.text f.text) in
        let t = states.with_choice i (states.with_field d.headers x.text f.text (input_term i) s) in
        subst (StmtFound (havoc_field at x f) s n cs) is (record { state = t; within = inl refl; found = one_choice s t i k.0 cs k.1 n (suc n) refl refl k.2 (subst (λ w. FitsWidth w k.0) (sym wide) k.3) (omega arith) (omega arith); ends = p })
    stmt_found (assume at e) s p n env packet cs c h =
        let k = passes (value W.context env packet e) (Some (straight (falls env packet) cs)) c h in
        let is : straight (falls env packet) cs ≡ c = cc in
        let t = where_true (term_at T s e) s in
        subst (StmtFound (assume at e) s n cs) is (record { state = t; within = inl refl; found = nothing s t cs n n refl refl (omega arith); ends = p })
    stmt_found (fork at x width e body) s p n env packet cs c h =
        let inner : ℕ → List ℕ → Option Course = λ m rest. run_all_by W body (bound x.text (number width m) env) packet rest in
        let k = choose_there width cs (λ m rest. on_true (value W.context (bound x.text (number width m) env) packet e) (option_and_then (λ (r : Course). if_sends r.end r) (inner m rest))) c h in
        let g = passes (value W.context (bound x.text (number width k.0) env) packet e) (option_and_then (λ (r : Course). if_sends r.end r) (inner k.0 k.1)) c k.4 in
        let sent = sent_end (inner k.0 k.1) c g in
        let i = next_input n width in
        let z = chosen_as x.text i s in
        let y = where_true (term_at T z e) z in
        let q = block_found body (y ∷ []) y (inl refl) p (suc n) (bound x.text (number width k.0) env) packet k.1 c (sends_only (inner k.0 k.1) c g) in
        let at : Ends (sends sent.0 sent.1) q.state = subst (λ v. Ends v q.state) sent.2 q.ends in
        record {
          state = q.state;
          within = kept has_sent (follow_all T body (one y (suc n))).0 q.state q.within (has_of q.state at.0 at.1);
          found = found_choice s y q.state i k.0 c.way cs k.1 c.rest n (follow_all T body (one y (suc n))).1 refl refl k.2 k.3 (omega arith) q.found;
          ends = q.ends;
        }
    stmt_found (send at r es) s p n env packet cs c h =
        let to : List ℕ → Loc = λ ns. record { role = r.text; values = ns } in
        let v = some_there (λ ns. on_true (guard_at W (to ns)) (Some (straight (sends (to ns) packet) cs))) (numbers W.context env packet es) c h in
        let k = passes (guard_at W (to v.0)) (Some (straight (sends (to v.0) packet) cs)) c v.2 in
        let is : straight (sends (to v.0) packet) cs ≡ c = cc in
        let place : Place = record { role = r.text; values = terms_of T.context s.vars s.fields es } in
        let t = sends_to T place s in
        subst (StmtFound (send at r es) s n cs) is (record { state = t; within = inl refl; found = nothing s t cs n n refl refl (omega arith); ends = (place, refl, refl) })

    pub block_found : (b : Block) (ss : List State) (s : State) → In s ss → s.sent ≡ None → (n : ℕ) (env : Env) (packet : Packet) (cs : List ℕ) (c : Course) → run_all_by W b env packet cs ≡ Some c → BlockFound b ss s n n cs c
    block_found no_stmts ss s i p n env packet cs c h =
        let is : straight (falls env packet) cs ≡ c = cc in
        subst (BlockFound no_stmts ss s n n cs) is (record { state = s; within = i; found = nothing s s cs n n refl refl (omega arith); ends = p })
    block_found (stmt x rest) ss s i p n env packet cs c h =
        let one_ = some_there (λ (r : Course). then_on r.end r (λ env' packet' more. run_all_by W rest env' packet' more)) (run_by W x env packet cs) c h in
        behind x rest ss s i p n cs c one_.0
        (λ k. stmt_found x s p k env packet cs one_.0 one_.1)
        (λ m j none env' packet' c2 g. block_found rest (each (unless_sent (follow T x)) ss n).0 m j none (each (unless_sent (follow T x)) ss n).1 env' packet' one_.0.rest c2 g)
        one_.2

  -- ---- bodies

  pub record BodyFound (at : Place) (s : State) (n : ℕ) (cs : List ℕ) (a : Arrival) : Type 0 where
    pub state : State
    pub within : In state (follow_body (term_world level d) at s n).0
    pub found : Found s state a.way cs a.rest n (follow_body (term_world level d) at s n).1
    pub to : Place
    pub sent : state.sent ≡ Some to
    pub role : to.role ≡ a.to.role

  arrival_there : (e : End) (c : Course) (a : Arrival) → arrival e c ≡ Some a → (packet : Packet) × (e ≡ sends a.to packet) × (c.rest ≡ a.rest) × (c.way ≡ a.way)
  arrival_there (falls env packet) c a h = absurd (cc)
  arrival_there (sends to packet) c a h =
      let e : arrive to packet c.rest c.way ≡ a = cc in
      (packet, ap (λ (x : Arrival). sends x.to packet) e, ap (λ (x : Arrival). x.rest) e, ap (λ (x : Arrival). x.way) e)

  pub body_found : (at : Place) (s : State) (n : ℕ) (from : Loc) (packet : Packet) (cs : List ℕ) (a : Arrival) → from.role ≡ at.role → go_by W from packet cs ≡ Some a → BodyFound at s n cs a
  body_found at s n from packet cs a same h =
      let g = passes (guard_at W from) (option_and_then (λ (r : Role). body_by W r r.body from packet cs) (role_at level d from.role)) a h in
      let r = some_there (λ (x : Role). body_by W x x.body from packet cs) (role_at level d from.role) a g in
      by_body r.0 r.0.body refl r.2 (ap (role_at level d) (sym same) ∙ r.1)
    where
      by_body : (r : Role) (o : Option Block) → r.body ≡ o → body_by W r o from packet cs ≡ Some a → role_at level d at.role ≡ Some r → BodyFound at s n cs a
      by_body r None body k is = absurd (cc)
      by_body r (Some b) body k is =
          let env = some_there (λ env. option_and_then (λ (c : Course). arrival c.end c) (run_all_by W b env packet cs)) (bind r.params from.values) a k in
          let c = some_there (λ (x : Course). arrival x.end x) (run_all_by W b env.0 packet cs) a env.2 in
          let e = arrival_there c.0.end c.0 a c.2 in
          let u = entered r at s in
          let q = block_found b (u ∷ []) u (inl refl) refl n env.0 packet cs c.0 c.1 in
          let to : Ends (sends a.to e.0) q.state = subst (λ v. Ends v q.state) e.1 q.ends in
          let all = follow_all T b (one u n) in
          let led : follow_body T at s n ≡ those_sent all =
          ap (λ (o : Option Role). elim o as (λ x. Followed) [ None ↦ ([], n) | Some x ↦ elim x.body [ None ↦ ([], n) | Some y ↦ those_sent (follow_all T y (one (entered x at s) n)) ] ]) is
          ∙ ap (λ (o : Option Block). elim o as (λ x. Followed) [ None ↦ ([], n) | Some y ↦ those_sent (follow_all T y (one u n)) ]) body in
          let found : Found s q.state c.0.way cs c.0.rest n all.1 = record { chosen = q.found.chosen; chosen_is = q.found.chosen_is; way_is = q.found.way_is; used = q.found.used; used_is = q.found.used_is; fill = q.found.fill; numbers = q.found.numbers } in
          record {
            state = q.state;
            within = subst (λ (x : Followed). In q.state x.0) (sym led) (kept has_sent all.0 q.state q.within (has_of q.state to.0 to.1));
            found = subst (λ (x : Followed). Found s q.state a.way cs a.rest n x.1) (sym led) (subst (λ w. Found s q.state w cs a.rest n all.1) e.3 (subst (λ x. Found s q.state c.0.way cs x n all.1) e.2 found));
            to = to.0;
            sent = to.1;
            role = to.2;
          }

  -- ---- several bodies

  pub record HopsFound (new : List ℕ → Bool) (k : ℕ) (s : State) (n from : ℕ) (cs : List ℕ) (a : Arrival) : Type 0 where
    pub state : State
    pub within : In state (hops (term_world level d) new k s n).0
    pub found : Found s state a.way cs a.rest from (hops (term_world level d) new k s n).1
    pub to : Place
    pub sent : state.sent ≡ Some to
    pub role : to.role ≡ a.to.role

  pub hops_found : (new : List ℕ → Bool) (k : ℕ) (s : State) (at : Place) → s.sent ≡ Some at → (n : ℕ) (from : Loc) (packet : Packet) (cs : List ℕ) (a : Arrival) → from.role ≡ at.role
      → hops_in W new k from packet cs ≡ Some a → HopsFound new k s n n cs a
  hops_found new zero s at p n from packet cs a same h =
      let is : arrive from packet cs [] ≡ a = cc in
      subst (HopsFound new zero s n n cs) is (record { state = s; within = inl refl; found = nothing s s cs n n refl refl (omega arith); to = at; sent = p; role = sym same })
  hops_found new (suc k) s at p n from packet cs a same h =
      let m = some_there (λ (x : Arrival). if_new (new x.to.role) x (hops_in W new k)) (go_by W from packet cs) a h in
      let body = body_found at s n from packet cs m.0 same m.1 in
      behind_body body.state body.to m.0 body.sent body.role body.within body.found (hops_found new k body.state body.to body.sent) (new m.0.to.role) refl m.2
    where
      led : Followed
      led = follow_body T at s n

      f : State → ℕ → Followed
      f = onward new (hops T new k)

      opened : hops T new (suc k) s n ≡ each (onward new (hops T new k)) (follow_body T at s n).0 (follow_body T at s n).1
      opened = ap (λ (o : Option Place). elim o as (λ x. Followed) [ None ↦ ([], n) | Some to ↦ each (onward new (hops T new k)) (follow_body T to s n).0 (follow_body T to s n).1 ]) p

      behind_body : (m : State) (to : Place) (b : Arrival) → m.sent ≡ Some to → to.role ≡ b.to.role → In m (follow_body T at s n).0 → Found s m b.way cs b.rest n (follow_body T at s n).1
          → ((j : ℕ) (from' : Loc) (packet' : Packet) (more : List ℕ) (c : Arrival) → from'.role ≡ to.role → hops_in W new k from' packet' more ≡ Some c → HopsFound new k m j j more c)
          → (is_new : Bool) → new b.to.role ≡ is_new → if_new is_new b (hops_in W new k) ≡ Some a → HopsFound new (suc k) s n n cs a
      behind_body m to b sent role i found later true e g =
          let c = map_there (after b.way) (hops_in W new k b.to b.sent b.rest) a g in
          let j = place_in f (hop_grows T new k) m led.0 i led.1 in
          let q = later j.from b.to b.sent b.rest c.0 (sym role) c.1 in
          let goes : f m j.from ≡ hops T new k m j.from = ap (λ x. if x then hops T new k m j.from else one m j.from) (new_at new m to sent ∙ ap new role ∙ e) in
          let last : (hops T new k m j.from).1 ≤ (each f led.0 led.1).1 = subst (λ (x : Followed). x.1 ≤ (each f led.0 led.1).1) goes j.last in
          let inside : In q.state (each f led.0 led.1).0 = j.within q.state (subst (λ (x : Followed). In q.state x.0) (sym goes) q.within) in
          let l = body_grows T at s n in
          let two : Found m q.state c.0.way b.rest c.0.rest j.from (each f led.0 led.1).1 = found_wider m q.state c.0.way b.rest c.0.rest j.from (hops T new k m j.from).1 j.from (each f led.0 led.1).1 (omega arith) last q.found in
          let all = found_join s m q.state b.way c.0.way cs b.rest c.0.rest n led.1 j.from (each f led.0 led.1).1 j.first found two in
          subst (HopsFound new (suc k) s n n cs) c.2 (record {
            state = q.state;
            within = subst (λ (x : Followed). In q.state x.0) (sym opened) inside;
            found = subst (λ (x : Followed). Found s q.state (b.way ++ c.0.way) cs c.0.rest n x.1) (sym opened) all;
            to = q.to;
            sent = q.sent;
            role = q.role;
          })
      behind_body m to b sent role i found later false e g =
          let is : b ≡ a = cc in
          let j = place_in f (hop_grows T new k) m led.0 i led.1 in
          let stops : f m j.from ≡ one m j.from = ap (λ x. if x then hops T new k m j.from else one m j.from) (new_at new m to sent ∙ ap new role ∙ e) in
          let inside : In m (each f led.0 led.1).0 = j.within m (subst (λ (x : Followed). In m x.0) (sym stops) (inl refl)) in
          let first = j.first in
          let last : j.from ≤ (each f led.0 led.1).1 = subst (λ (x : Followed). x.1 ≤ (each f led.0 led.1).1) stops j.last in
          subst (HopsFound new (suc k) s n n cs) is (record {
            state = m;
            within = subst (λ (x : Followed). In m x.0) (sym opened) inside;
            found = subst (λ (x : Followed). Found s m b.way cs b.rest n x.1) (sym opened) (found_wider s m b.way cs b.rest n led.1 n (each f led.0 led.1).1 (omega arith) (omega (arith, first, last)) found);
            to = to;
            sent = sent;
            role = role;
          })
