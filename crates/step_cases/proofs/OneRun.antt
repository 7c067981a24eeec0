-- A case has one run at most, and one report.
use Rattle.std.proofs.Common.{◌≡◌, ◌++◌, ℕ, List, [], Option, Some, None, refl, sym, ap, subst, ◌∙◌}
use Rattle.cocoon_num.specs.Packets.{Packet}
use Rattle.cocoon_num.specs.Tree.{Block, Design, Role}
use Rattle.cocoon_types.specs.Runs.{DoesAll, End, Go, Loc, World, sends, world}
use Rattle.cocoon_types.specs.Tables.{Defs}
use Rattle.cocoon_types.specs.Val.{Env, bind}
use Rattle.step_cases.specs.Cases.{Case}
use Rattle.step_cases.specs.declared.sent.Sent.{Sent}
use Rattle.step_cases.specs.Stepping.{IsSent, Steps, all_fields}

-- a block has one end, by the choices that it takes
abbrev pub OneEnd : Type 0
OneEnd = (w : World) (b : Block) (env : Env) (packet : Packet) (cs ds rest more : List ℕ) (x y : End) → DoesAll w b env packet cs x → DoesAll w b env packet ds y → cs ++ rest ≡ ds ++ more → (x ≡ y) × (rest ≡ more)

same : {A : Type 0} (o : Option A) (x y : A) → o ≡ Some x → o ≡ Some y → x ≡ y
same o x y p q = let e : ◌≡◌ {A = Option _} (Some x) (Some y) = sym p ∙ q in cc

same_ends : (to too : Loc) (sent other : Packet) → sends to sent ≡ sends too other → (to ≡ too) × (sent ≡ other)
same_ends to too sent other e = (cc, cc)

one_run : OneEnd → (w : World) (at : Loc) (p : Packet) (cs : List ℕ) (to too : Loc) (sent other : Packet) → Go w at p cs to sent → Go w at p cs too other → (to ≡ too) × (sent ≡ other)
one_run one w at p cs to too sent other a b =
    let role : a.role ≡ b.role = same (w.role at.role) a.role b.role a.role_is b.role_is in
    let body : a.body ≡ b.body = same b.role.body a.body b.body (ap (λ (r : Role). r.body) (sym role) ∙ a.body_is) b.body_is in
    let env : a.env ≡ b.env = same (bind b.role.params at.values) a.env b.env (ap (λ (r : Role). bind r.params at.values) (sym role) ∙ a.env_is) b.env_is in
    let does : DoesAll w b.body b.env p cs (sends to sent) = subst (λ (x : Env). DoesAll w b.body x p cs (sends to sent)) env (subst (λ (x : Block). DoesAll w x a.env p cs (sends to sent)) body a.does) in
    same_ends to too sent other (one w b.body b.env p cs cs [] [] (sends to sent) (sends too other) does b.does refl).0

same_sent : (s t : Sent) → s.role ≡ t.role → s.values ≡ t.values → s.fields ≡ t.fields → s ≡ t
same_sent s t p q r =
    ap (λ (x : List ℕ). record { role = x; values = s.values; fields = s.fields }) p
    ∙ ap (λ (x : List ℕ). record { role = t.role; values = x; fields = s.fields }) q
    ∙ ap (λ (x : List ℕ). record { role = t.role; values = t.values; fields = x }) r

pub one_step : OneEnd → (level : ℕ) (d : Design) (defs : Defs) (case : Case) (s t : Option Sent) → Steps level d defs case s → Steps level d defs case t → t ≡ s
one_step one level d defs case None None h k = refl
one_step one level d defs case None (Some t) h k = absurd (h k.0 k.1 k.2)
one_step one level d defs case (Some s) None h k = absurd (k h.0 h.1 h.2)
one_step one level d defs case (Some s) (Some t) h k =
    let e = one_run one (world level d defs) case.at _ case.choices k.0 h.0 k.1 h.1 k.2 h.2 in
    ap Some (same_sent t s
    (k.3.role ∙ ap (λ (l : Loc). l.role) e.0 ∙ sym h.3.role)
    (k.3.values ∙ ap (λ (l : Loc). l.values) e.0 ∙ sym h.3.values)
    (k.3.fields ∙ ap all_fields e.1 ∙ sym h.3.fields))
