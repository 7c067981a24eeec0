-- Guards, which see no packet, and the roles that they belong to.
use Rattle.std.proofs.Common.{◌≡◌, ℕ, zero, suc, ◌<◌, ◌≤◌, ◌^◌, List, [], ◌∷◌, Bool, true, false, Option, Some, None, option_map, option_and_then, is_some, get_or, length, if◌then◌else◌, refl, sym, ap, subst, ◌∙◌, arith}
use Rattle.std.specs.Option.{option_map_or}
use Rattle.std.proofs.lemmas.Bool.{ltb-true}
use Rattle.std.proofs.Math.Pow.{pow_mono}
use Rattle.cocoon_num.specs.Packets.{Packet}
use Rattle.cocoon_num.specs.Tree.{Block, Expr, name, field, lit, true_or_false, call, unary, binary, slice, pick, Exprs, no_exprs, expr, Param, HeaderDecl, Role, Design}
use Rattle.cocoon_num.specs.Values.{Value, number, truth, apply_unary, apply_binary, apply_slice, apply_pick, as_number, fits_width, with_all, with_both}
use Rattle.cocoon_types.specs.Design.{role_at, widths_of}
use Rattle.cocoon_types.specs.RuleParts.{roles_of}
use Rattle.cocoon_types.specs.Runs.{Loc, World}
use Rattle.cocoon_types.specs.Taken.{if_reached, if_true, Reached}
use Rattle.cocoon_types.specs.Val.{bind, bound, Env, numbers, value}
use Rattle.declarations.specs.Declares.{role_number, role_texts}
use Rattle.declarations.specs.NameNumbers.{firsts}
use Rattle.declarations.proofs.NameFacts.{index-at}
use Rattle.role_meaning.specs.Levels.{AllWords, arrived, entered, entered_with, is_true}
use Rattle.role_meaning.specs.Located.{role_name}
use Rattle.role_values.specs.DeclaredWidths.{AllDeclared}
use Rattle.role_values.specs.FittingRuns.{fitting_all, fitting_body, fitting_go}

-- ---- without a packet no header is seen

mutual
  pub bare : (hs : List HeaderDecl) (apply : List ℕ → List ℕ → Option Value) (env : Env) (e : Expr)
      → value (record { headers = []; apply = apply }) env [] e ≡ value (record { headers = hs; apply = apply }) env [] e
  bare hs apply env (name at x) = refl
  bare [] apply env (field at h f) = refl
  bare (d ∷ ds) apply env (field at h f) = refl
  bare hs apply env (lit at w n) = refl
  bare hs apply env (true_or_false at b) = refl
  bare hs apply env (call at f es) = ap (option_and_then (apply f.text)) (bares hs apply env es)
  bare hs apply env (unary at op a) = ap (option_and_then (apply_unary op)) (bare hs apply env a)
  bare hs apply env (binary at op a b) = (λ i. with_both (apply_binary op) (bare hs apply env a i) (bare hs apply env b i))
  bare hs apply env (slice at a high low) = ap (option_and_then (λ v. apply_slice v high low)) (bare hs apply env a)
  bare hs apply env (pick at c a b) = (λ i. with_all apply_pick (bare hs apply env c i) (bare hs apply env a i) (bare hs apply env b i))

  bares : (hs : List HeaderDecl) (apply : List ℕ → List ℕ → Option Value) (env : Env) (es : Exprs)
      → numbers (record { headers = []; apply = apply }) env [] es ≡ numbers (record { headers = hs; apply = apply }) env [] es
  bares hs apply env no_exprs = refl
  bares hs apply env (expr e es) = (λ i. with_both (λ n ns. Some (n ∷ ns)) (option_and_then as_number (bare hs apply env e i)) (bares hs apply env es i))

-- ---- names of roles

-- a role's number has its name
pub role_name_of : (d : Design) (x : List ℕ) (n : ℕ) → role_number d x ≡ Some n → role_name d n ≡ x
role_name_of d x n h = ap (λ (r : Option (List ℕ)). option_map_or (λ (y : List ℕ). y) r []) (index-at x (firsts (role_texts (roles_of d))) n h)

-- ---- numbers that fit

small : (w n : ℕ) → w ≤ 64 → fits_width w n ≡ true → n < 2 ^ 64
small w n l h =
    let a : n < 2 ^ w = ltb-true n (2 ^ w) h in
    let b : 2 ^ w ≤ 2 ^ 64 = pow_mono {i = w} {j = 64} l in
    omega arith

words_step : (b : Bool) (r : Option Env) (x : List ℕ) (v : Value) (env : Env) (P Q : Type 0) → (b ≡ true → P) → ((e : Env) → r ≡ Some e → Q)
    → (if b then option_map (bound x v) r else None) ≡ Some env → P × Q
words_step true None x v env P Q f g h = absurd (cc)
words_step true (Some e) x v env P Q f g h = (f refl, g e refl)
words_step false r x v env P Q f g h = absurd (cc)

pub bound_words : (ps : List Param) (ns : List ℕ) (env : Env) → AllDeclared (widths_of ps) → bind ps ns ≡ Some env → AllWords ns
bound_words [] [] env d h = tt
bound_words [] (n ∷ ns) env d h = absurd (cc)
bound_words (p ∷ ps) [] env d h = absurd (cc)
bound_words (p ∷ ps) (n ∷ ns) env d h =
    words_step (fits_width p.width n) (bind ps ns) p.name.text (number p.width n) env (n < 2 ^ 64) (AllWords ns)
    (λ e. small p.width n d.1 e) (λ e k. bound_words ps ns e d.2 k) h

pub word_at : (ns : List ℕ) (i d : ℕ) → AllWords ns → i < length ns → get_or ns i d < 2 ^ 64
word_at [] i d h l = absurd (omega arith)
word_at (n ∷ ns) zero d h l = h.0
word_at (n ∷ ns) (suc i) d h l = word_at ns i d h.1 (omega arith)

entered_some : (x : Option Env) (k : Env → Option Env) (P : Type 0) → ((env : Env) → x ≡ Some env → P) → is_some (option_and_then k x) ≡ true → P
entered_some None k P f h = absurd (cc)
entered_some (Some env) k P f h = f env refl

pub entered_words : (w : World) (r : Role) (ns : List ℕ) → AllDeclared (widths_of r.params) → is_some (entered w r ns) ≡ true → AllWords ns
entered_words w r ns d h = entered_some (bind r.params ns) (entered_with w r.guard) (AllWords ns) (λ env e. bound_words r.params ns env d e) h

arrived_by : (e : Option Env) (at : Loc) (b : Bool) → b ≡ is_some e → option_map (λ (env : Env). at) e ≡ (if b then Some at else None)
arrived_by None at b h = ap (λ t. if t then Some at else None) (sym h)
arrived_by (Some env) at b h = ap (λ t. if t then Some at else None) (sym h)

-- a role of a name is arrived at where it is entered
pub arrived_is : (w : World) (x ns : List ℕ) (r : Role) (b : Bool) → w.role x ≡ Some r → b ≡ is_some (entered w r ns)
    → arrived w x ns ≡ (if b then Some (record { role = x; values = ns }) else None)
arrived_is w x ns r b h e =
    ap (λ (o : Option Role). option_and_then (λ (r : Role). option_map (λ (env : Env). record { role = x; values = ns }) (entered w r ns)) o) h
    ∙ arrived_by (entered w r ns) (record { role = x; values = ns }) b e

pub not_arrived : (w : World) (x ns : List ℕ) → w.role x ≡ None → None ≡ arrived w x ns
not_arrived w x ns h = sym (ap (λ (o : Option Role). option_and_then (λ (r : Role). option_map (λ (env : Env). record { role = x; values = ns }) (entered w r ns)) o) h)

-- what is found for the number of a role is its latest declaration
pub latest : {A : Type 0} (f : A → Role) (d e : Design) (level : ℕ) (x : List ℕ) (n : ℕ) (found : Option A) (r : A) → d ≡ e → role_number e x ≡ Some n
    → ((y : List ℕ) → role_number d y ≡ Some n → option_map f found ≡ role_at level d y) → found ≡ Some r → role_at level e x ≡ Some (f r)
latest f d e level x n found r same known gives is =
    subst (λ z. role_at level z x ≡ Some (f r)) same (sym (gives x (subst (λ z. role_number z x ≡ Some n) (sym same) known)) ∙ ap (option_map f) is)

-- ---- bodies

if_true_is : (v : Option Value) (r : Reached) → if_true v r ≡ (if is_true v then r else None)
if_true_is None r = refl
if_true_is (Some (truth true)) r = refl
if_true_is (Some (truth false)) r = refl
if_true_is (Some (number w n)) r = refl

chosen : (b : Bool) (f : Env → Reached) (env : Env) → (if b then f env else None) ≡ option_and_then f (if b then Some env else None)
chosen true f env = refl
chosen false f env = refl

go_by : (v : Env → Option Value) (f : Env → Reached) (x : Option Env)
    → if_true (option_and_then v x) (option_and_then f x) ≡ option_and_then f (option_and_then (λ env. if is_true (v env) then Some env else None) x)
go_by v f None = refl
go_by v f (Some env) = if_true_is (v env) (f env) ∙ chosen (is_true (v env)) f env

never : (b : Bool) → if◌then◌else◌ {A = Reached} b None None ≡ None
never true = refl
never false = refl

-- a location's run is that of the body of its role
pub go_is : (w : World) (from : Loc) (packet : Packet) (cs : List ℕ) (r : Role) (b : Block) → w.role from.role ≡ Some r → r.body ≡ Some b
    → fitting_go w from packet cs ≡ option_and_then (λ env. if_reached (fitting_all w b env packet cs)) (entered w r from.values)
go_is w from packet cs r b h e =
    ap (λ (o : Option Role). if_true (option_and_then (λ (r : Role). option_and_then (λ env. value w.context env [] r.guard) (bind r.params from.values)) o) (option_and_then (λ (r : Role). fitting_body w r r.body from packet cs) o)) h
    ∙ ap (λ (o : Option Block). if_true (option_and_then (λ env. value w.context env [] r.guard) (bind r.params from.values)) (fitting_body w r o from packet cs)) e
    ∙ go_by (λ env. value w.context env [] r.guard) (λ env. if_reached (fitting_all w b env packet cs)) (bind r.params from.values)

-- the sink's is none
pub no_go : (w : World) (from : Loc) (packet : Packet) (cs : List ℕ) (r : Role) → w.role from.role ≡ Some r → r.body ≡ None → fitting_go w from packet cs ≡ None
no_go w from packet cs r h e =
    let v = option_and_then (λ env. value w.context env [] r.guard) (bind r.params from.values) in
    ap (λ (o : Option Role). if_true (option_and_then (λ (r : Role). option_and_then (λ env. value w.context env [] r.guard) (bind r.params from.values)) o) (option_and_then (λ (r : Role). fitting_body w r r.body from packet cs) o)) h
    ∙ ap (λ (o : Option Block). if_true v (fitting_body w r o from packet cs)) e
    ∙ if_true_is v None ∙ never (is_true v)

-- nor is there one where the role is not entered
pub no_entry : (w : World) (from : Loc) (packet : Packet) (cs : List ℕ) (r : Role) (b : Block) → w.role from.role ≡ Some r → r.body ≡ Some b → entered w r from.values ≡ None
    → fitting_go w from packet cs ≡ None
no_entry w from packet cs r b h e none = go_is w from packet cs r b h e ∙ ap (option_and_then (λ env. if_reached (fitting_all w b env packet cs))) none

pub entry : (w : World) (from : Loc) (packet : Packet) (cs : List ℕ) (r : Role) (b : Block) (env : Env) → w.role from.role ≡ Some r → r.body ≡ Some b → entered w r from.values ≡ Some env
    → fitting_go w from packet cs ≡ if_reached (fitting_all w b env packet cs)
entry w from packet cs r b env h e is = go_is w from packet cs r b h e ∙ ap (option_and_then (λ env. if_reached (fitting_all w b env packet cs))) is
