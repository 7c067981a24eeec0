-- Runs of statements, one by one.
use Rattle.std.proofs.Common.{◌≡◌, ◌≢◌, ℕ, ◌+◌, ◌<◌, List, [], ◌∷◌, map, take, drop, length, get_or, Bool, true, false, Option, Some, None, option_map, option_and_then, if◌then◌else◌, Vec, Global, refl, sym, ap, subst, ◌∙◌}
use Rattle.std.proofs.lemmas.List.{drop_more}
use Rattle.std.proofs.lemmas.Option.{same_Some}
use Rattle.cocoon_num.specs.Packets.{Packet}
use Rattle.cocoon_num.specs.Tree.{Expr, fork, Name, Stmt, Block, HeaderDecl}
use Rattle.cocoon_num.specs.Values.{Value, truth, number, fits_width}
use Rattle.cocoon_syntax.specs.TreeOf.{block_of}
use Rattle.cocoon_types.specs.Design.{field_width, write_field}
use Rattle.cocoon_types.specs.Runs.{falls, World}
use Rattle.cocoon_types.specs.Taken.{by_truth, Ended, go_on, only_sends, take_one, where_true}
use Rattle.cocoon_types.specs.Val.{bound, Env, value}
use Rattle.role_meaning.specs.Levels.{is_true, truth_in, world_at}
use Rattle.role_meaning.specs.Progresses.{BindsTo, Chooses, ended_of, Enters, env_in, packet_in, picked}
use Rattle.role_meaning.specs.declared.level.Level.{Level}
use Rattle.role_meaning.specs.declared.progress.End.{End}
use Rattle.role_meaning.specs.declared.progress.End.TheVariants.{Falls, Sends}
use Rattle.role_meaning.specs.declared.progress.Progress.{Progress}
use Rattle.role_values.specs.Bound.{env_of}
use Rattle.role_values.specs.Flat.{packet_of}
use Rattle.role_values.specs.Scenes.{headers_of}
use Rattle.role_values.specs.declared.evaluation.State.{State}
use Rattle.role_values.specs.FittingRuns.{fitting_all, fitting_run}
use Rattle.role_values.specs.Written.{written}

-- ---- conditions

pub where_is : (v : Option Value) (r : Ended) → where_true v r ≡ (if is_true v then r else None)
where_is None r = refl
where_is (Some (truth true)) r = refl
where_is (Some (truth false)) r = refl
where_is (Some (number w n)) r = refl

-- the block that is picked runs
pub picks : (v : Option Value) (first second b : Block) (run : Block → Ended) → picked (truth_in v) first second ≡ Some b → by_truth v (run first) (run second) ≡ run b
picks None first second b run h = absurd (cc)
picks (Some (truth true)) first second b run h = ap run (same_Some first b h)
picks (Some (truth false)) first second b run h = ap run (same_Some second b h)
picks (Some (number w n)) first second b run h = absurd (cc)

pub picks_none : (v : Option Value) (first second : Block) (r s : Ended) → picked (truth_in v) first second ≡ None → by_truth v r s ≡ None
picks_none None first second r s h = refl
picks_none (Some (truth true)) first second r s h = absurd (cc)
picks_none (Some (truth false)) first second r s h = absurd (cc)
picks_none (Some (number w n)) first second r s h = refl

-- ---- fields that are chosen

chosen_at : (hs : List HeaderDecl) (env : Env) (packet : Packet) (h f : List ℕ) (c : ℕ) (rest : List ℕ) (width : ℕ) (b : Bool)
    → if◌then◌else◌ {A = Ended} b (Some (falls env (write_field hs packet h f c), rest)) None ≡ option_map (λ set. (falls env set, rest)) (if b then Some (write_field hs packet h f c) else None)
chosen_at hs env packet h f c rest width true = refl
chosen_at hs env packet h f c rest width false = refl

chosen_by : (hs : List HeaderDecl) (env : Env) (packet : Packet) (h f : List ℕ) (c : ℕ) (rest : List ℕ) (w : Option ℕ)
    → option_and_then (λ width. take_one width (c ∷ rest) (λ c rest. Some (falls env (write_field hs packet h f c), rest))) w
    ≡ option_map (λ set. (falls env set, rest)) (option_and_then (λ width. if fits_width width c then Some (write_field hs packet h f c) else None) w)
chosen_by hs env packet h f c rest None = refl
chosen_by hs env packet h f c rest (Some width) = chosen_at hs env packet h f c rest width (fits_width width c)

-- a chosen field is a field that is set
pub field_chosen : (hs : List HeaderDecl) (env : Env) (packet : Packet) (h f : List ℕ) (c : ℕ) (rest : List ℕ)
    → option_and_then (λ width. take_one width (c ∷ rest) (λ c rest. Some (falls env (write_field hs packet h f c), rest))) (field_width hs h f)
    ≡ option_map (λ set. (falls env set, rest)) (written hs packet h f c)
field_chosen hs env packet h f c rest = chosen_by hs env packet h f c rest (field_width hs h f)

none_by : (hs : List HeaderDecl) (env : Env) (packet : Packet) (h f : List ℕ) (w : Option ℕ)
    → option_and_then (λ width. take_one width [] (λ c rest. Some (falls env (write_field hs packet h f c), rest))) w ≡ None
none_by hs env packet h f None = refl
none_by hs env packet h f (Some width) = refl

pub none_chosen : (hs : List HeaderDecl) (env : Env) (packet : Packet) (h f : List ℕ)
    → option_and_then (λ width. take_one width [] (λ c rest. Some (falls env (write_field hs packet h f c), rest))) (field_width hs h f) ≡ None
none_chosen hs env packet h f = none_by hs env packet h f (field_width hs h f)

-- ---- blocks

pub block_step : {A : Type 0} (f : A → Stmt) (w : World) (xs : List A) (i : ℕ) (x : A) (env : Env) (packet : Packet) (cs : List ℕ) → i < length xs → x ≡ get_or xs i x
    → fitting_all w (block_of (map f (drop i xs))) env packet cs
    ≡ go_on (fitting_run w (f x) env packet cs) (λ env' packet' more. fitting_all w (block_of (map f (drop (i + 1) xs))) env' packet' more)
block_step f w xs i x env packet cs l e =
    ap (λ ys. fitting_all w (block_of (map f ys)) env packet cs) (drop_more xs i x l ∙ ap (λ z. z ∷ drop (i + 1) xs) (sym e))

-- ---- forks

by_does : (l : Level) (old new : Progress) (x : Name) (width : ℕ) (e : Expr) (does : Bool)
    → ((body : Block) → fitting_run (world_at l) (fork 0 x width e body) (env_in old) (packet_in l old) old.choices.now
    ≡ (if does then only_sends (fitting_all (world_at l) body (env_in new) (packet_in l new) new.choices.now) else None))
    → Enters l old x width e does new
by_does l old new x width e true h = h
by_does l old new x width e false h = h

pub enters : (l : Level) (old mid new : Progress) (x : Name) (width : ℕ) (e : Expr) (v : Value) → Chooses width old.choices.now (Some v) mid.choices.now → mid.state ≡ old.state
    → BindsTo mid x.text v new → (does : Bool) → does ≡ is_true (value (world_at l).context (env_in new) (packet_in l new) e) → Enters l old x width e does new
enters l old mid new x width e v ch same b does is =
    let w = world_at l in
    let c = ch.0 in
    let env : bound x.text (number width c) (env_in old) ≡ env_in new =
    ap (λ z. bound x.text z (env_in old)) (sym ch.1) ∙ ap (λ (s : State). bound x.text v (env_of s.variables.items)) (sym same) ∙ sym b.variables in
    let packet : packet_in l old ≡ packet_in l new = ap (λ (s : State). packet_of (headers_of l.scene) s.fields.items) (sym same) ∙ ap (λ (fs : Vec ℕ Global). packet_of (headers_of l.scene) fs.items) (sym b.fields) in
    let all : (body : Block) → fitting_run w (fork 0 x width e body) (env_in old) (packet_in l old) old.choices.now
    ≡ (if does then only_sends (fitting_all w body (env_in new) (packet_in l new) new.choices.now) else None) = λ body.
    ch.2 (λ c rest. where_true (value w.context (bound x.text (number width c) (env_in old)) (packet_in l old) e) (only_sends (fitting_all w body (bound x.text (number width c) (env_in old)) (packet_in l old) rest)))
    ∙ (λ i. where_true (value w.context (env i) (packet i) e) (only_sends (fitting_all w body (env i) (packet i) (sym b.choices i))))
    ∙ where_is (value w.context (env_in new) (packet_in l new) e) (only_sends (fitting_all w body (env_in new) (packet_in l new) new.choices.now))
    ∙ ap (λ t. if t then only_sends (fitting_all w body (env_in new) (packet_in l new) new.choices.now) else None) (sym is) in
    by_does l old new x width e does all

pub not_entered : (l : Level) (old new : Progress) (x : Name) (width : ℕ) (e : Expr) (does : Bool) (body : Block) → Enters l old x width e does new → does ≡ false
    → None ≡ fitting_run (world_at l) (fork 0 x width e body) (env_in old) (packet_in l old) old.choices.now
not_entered l old new x width e does body h other =
    let is : Enters l old x width e false new = subst (λ b. Enters l old x width e b new) other h in
    sym (is body)

-- ---- blocks that go on and that stop

pub stops : (l : Level) (end : Option End) (new : Progress) (f : Env → Packet → List ℕ → Ended) → end ≢ Some Falls → go_on (ended_of l end new) f ≡ ended_of l end new
stops l None new f h = refl
stops l (Some Falls) new f h = absurd (h refl)
stops l (Some (Sends to)) new f h = refl

pub goes_on : (l : Level) (end : Option End) (new : Progress) (f : Env → Packet → List ℕ → Ended) → end ≡ Some Falls
    → go_on (ended_of l end new) f ≡ f (env_in new) (packet_in l new) new.choices.now
goes_on l end new f h = ap (λ e. go_on (ended_of l e new) f) h

pub still : {A : Type 0} (xs ys zs : List A) → take (length xs) ys ≡ xs → take (length ys) zs ≡ ys → take (length xs) zs ≡ xs
still [] ys zs h k = refl
still (x ∷ xs) [] zs h k = absurd (cc)
still (x ∷ xs) (y ∷ ys) [] h k = absurd (cc)
still (x ∷ xs) (y ∷ ys) (z ∷ zs) h k =
    let a : y ≡ x = cc in
    let b : z ≡ y = cc in
    let c : take (length xs) ys ≡ xs = cc in
    let d : take (length ys) zs ≡ ys = cc in
    (λ i. (b ∙ a) i ∷ still xs ys zs c d i)
