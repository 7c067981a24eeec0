-- The faults of the bodies of the last level are those that stand in the bodies of its roles.
use Rattle.std.proofs.Common.{◌≡◌, ℕ, ◌==◌, ◌&&◌, ◌||◌, Bool, true, false, not, List, [], ◌∷◌, map, reverse, slice_get, Bor, refl, sym, ap, ◌∙◌}
use Rattle.std.proofs.lemmas.List.{reverse-append}
use Rattle.std.specs.Prelude.{flat_map, if◌then◌else◌, Option, Some, None, option_map, option_and_then, bytes_eq}
use Rattle.std.specs.Cmp.Lexicographic.{bytes_decides, nat_list_eq_equiv}
use Rattle.std.specs.List.{list_any, find}
use Rattle.cocoon_num.specs.Tree.{Name, Stmt, Block, Param, Role, HostDecl, SwitchDecl, Design}
use Rattle.cocoon_num.specs.Names.{same_name}
use Rattle.cocoon_num.specs.Lists.{first_of}
use Rattle.cocoon_syntax.specs.TreeOf.{param_of}
use Rattle.cocoon_syntax.specs.declared.decl.Param.{Param as Parameter}
use Rattle.cocoon_types.specs.Design.{all_decls, role_at, host_decl, switch_decl, last_level}
use Rattle.cocoon_types.specs.RuleParts.{has_name, role_names, roles_of, unless, stmt_at}
use Rattle.cocoon_types.specs.LastLevel.{last_stmts, into_stmts}
use Rattle.cocoon_types.specs.Sites.{StmtSite}
use Rattle.cocoon_types.specs.FormRules.{each_once, all_roles, is_wire, wire_stmt, is_choice, switch_sends}
use Rattle.cocoon_types.specs.Rules.{Rule, not_switch_form, not_wire, last_choice, fork_form, fails_at}
use Rattle.cocoon_types.specs.FirstFault.{Fault}
use Rattle.cocoon_types.specs.Among.{among}
use Rattle.form_rules.specs.BodyFaults.{is_body_fault}
use Rattle.form_rules.specs.Stmts.{stmts_in, sends_own}
use Rattle.form_rules.specs.Tested.{choice_fails}
use Rattle.form_rules.specs.Walked.{wire_at, send_at, fork_at, last_body, at_last, in_role, in_roles, role_names_in}
use Rattle.form_rules.proofs.Membership.{any-or, any-same, any-none, any-append, any-map, among-none, any-among, flat-none}
use Rattle.form_rules.proofs.SiteFacts.{wire_gives, send_given, send_gives, fork_given, fork_gives, choices-body, wires-body, sends-body, forks-body}

-- ---- names

bytes_same : (x y : List ℕ) → bytes_eq x y ≡ same_name x y
bytes_same [] [] = refl
bytes_same [] (b ∷ y) = refl
bytes_same (a ∷ x) [] = refl
bytes_same (a ∷ x) (b ∷ y) = ap (λ t. (a == b) && t) (bytes_same x y)

pub same-true : (x y : List ℕ) → same_name x y ≡ true → x ≡ y
same-true x y h = (bytes_decides x y).0 (bytes_same x y ∙ h)

pub same-symm : (x y : List ℕ) → same_name x y ≡ same_name y x
same-symm x y = sym (bytes_same x y) ∙ nat_list_eq_equiv.symm x y ∙ bytes_same y x

-- a test of names holds of one that stands among them
pub found : (p : List ℕ → Bool) (x : List ℕ) (ns : List Name) → has_name x ns ≡ true → p x ≡ true → list_any (λ (n : Name). p n.text) ns ≡ true
found p x [] h k = h
found p x (n ∷ ns) h k = by (same_name x n.text) refl h (λ g. found p x ns g k)
  where
    by : (b : Bool) → same_name x n.text ≡ b → (b || has_name x ns) ≡ true → (has_name x ns ≡ true → list_any (λ (m : Name). p m.text) ns ≡ true) → (p n.text || list_any (λ (m : Name). p m.text) ns) ≡ true
    by true e g ih = ap (λ b. b || list_any (λ (m : Name). p m.text) ns) (ap p (sym (same-true x n.text e)) ∙ k)
    by false e g ih = ap (λ b. p n.text || b) (ih g) ∙ last (p n.text)
      where
        last : (b : Bool) → (b || true) ≡ true
        last true = refl
        last false = refl

-- a name may stand once or more
once : (p : List ℕ → Bool) (ns : List Name) → list_any (λ (n : Name). p n.text) (each_once ns) ≡ list_any (λ (n : Name). p n.text) ns
once p [] = refl
once p (n ∷ ns) = by (has_name n.text ns) refl (once p ns)
  where
    absorbed : (a c : Bool) → (a ≡ true → c ≡ true) → c ≡ (a || c)
    absorbed true c h = h refl
    absorbed false c h = refl

    by : (b : Bool) → has_name n.text ns ≡ b → list_any (λ (m : Name). p m.text) (each_once ns) ≡ list_any (λ (m : Name). p m.text) ns
        → list_any (λ (m : Name). p m.text) (if b then each_once ns else n ∷ each_once ns) ≡ (p n.text || list_any (λ (m : Name). p m.text) ns)
    by true h ih = ih ∙ absorbed (p n.text) (list_any (λ (m : Name). p m.text) ns) (found p n.text ns h)
    by false h ih = ap (λ b. p n.text || b) ih

-- a test of the names of all roles
roles-any : (d : Design) (p : List ℕ → Bool) → list_any (λ (n : Name). p n.text) (all_roles d) ≡ list_any p (role_names_in (all_decls d))
roles-any d p =
    once p (role_names (all_decls d))
    ∙ any-map (λ (n : Name). p n.text) (λ (r : Role). r.name) (roles_of d)
    ∙ sym (any-map p (λ (r : Role). r.name.text) (roles_of d))

-- what a rule gives of them
roles-among : (d : Design) (rule : Rule) (g : List ℕ → List ℕ) (f : Fault) → among rule (flat_map (λ (n : Name). g n.text) (all_roles d)) f ≡ list_any (λ x. among rule (g x) f) (role_names_in (all_decls d))
roles-among d rule g f = sym (any-among rule (λ (n : Name). g n.text) (all_roles d) f) ∙ roles-any d (λ x. among rule (g x) f)

-- ---- a role that has no declaration

find-none : {A : Type 0} (p : A → Bool) (xs : List A) → list_any p xs ≡ false → find p xs ≡ None
find-none p [] h = refl
find-none p (x ∷ xs) h = by (p x) h (find-none p xs)
  where
    by : (b : Bool) → (b || list_any p xs) ≡ false → (list_any p xs ≡ false → find p xs ≡ None) → (if b then Some x else find p xs) ≡ None
    by true g ih = absurd (true≢false g)
      where
        true≢false : true ≡ false → ⊥
        true≢false e = cc
    by false g ih = ih g

any-turn : {A : Type 0} (p : A → Bool) (xs : List A) → list_any p (reverse xs) ≡ list_any p xs
any-turn p [] = refl
any-turn p (x ∷ xs) =
    ap (list_any p) (reverse-append (x ∷ []) xs)
    ∙ any-append p (reverse xs) (x ∷ [])
    ∙ ap (λ b. b || (p x || false)) (any-turn p xs)
    ∙ turned (list_any p xs) (p x)
  where
    turned : (a b : Bool) → (a || (b || false)) ≡ (b || a)
    turned true true = refl
    turned true false = refl
    turned false true = refl
    turned false false = refl

no-role : (d : Design) (y : List ℕ) → list_any (λ x. same_name y x) (role_names_in (all_decls d)) ≡ false → last_body d y ≡ []
no-role d y h = ap (λ (o : Option Role). elim o [ None ↦ [] | Some r ↦ elim r.body [ None ↦ [] | Some b ↦ stmts_in b ] ])
    (find-none (λ (r : Role). same_name y r.name.text) (reverse (roles_of d))
    (any-turn (λ (r : Role). same_name y r.name.text) (roles_of d) ∙ sym (any-map (λ x. same_name y x) (λ (r : Role). r.name.text) (roles_of d)) ∙ h))

-- what a rule gives of the role of one name
at-name : (rule : Rule) (g : List ℕ → List ℕ) (y : List ℕ) (f : Fault) (xs : List (List ℕ))
    → list_any (λ x. among rule (if same_name x y then g x else []) f) xs ≡ (list_any (λ x. same_name y x) xs && among rule (g y) f)
at-name rule g y f [] = refl
at-name rule g y f (x ∷ xs) = by (same_name x y) refl (at-name rule g y f xs)
  where
    joined : (a q : Bool) → (q || (a && q)) ≡ q
    joined true true = refl
    joined true false = refl
    joined false true = refl
    joined false false = refl

    by : (b : Bool) → same_name x y ≡ b
        → list_any (λ z. among rule (if same_name z y then g z else []) f) xs ≡ (list_any (λ z. same_name y z) xs && among rule (g y) f)
        → (among rule (if b then g x else []) f || list_any (λ z. among rule (if same_name z y then g z else []) f) xs) ≡ ((same_name y x || list_any (λ z. same_name y z) xs) && among rule (g y) f)
    by true e ih =
        (λ i. among rule (g (same-true x y e i)) f || ih i)
        ∙ joined (list_any (λ z. same_name y z) xs) (among rule (g y) f)
        ∙ ap (λ b. (b || list_any (λ z. same_name y z) xs) && among rule (g y) f) (sym (same-symm y x ∙ e))
    by false e ih =
        (λ i. among-none rule f i || ih i)
        ∙ ap (λ b. (b || list_any (λ z. same_name y z) xs) && among rule (g y) f) (sym (same-symm y x ∙ e))

of-name : (d : Design) (rule : Rule) (g : List ℕ → List ℕ) (y : List ℕ) (f : Fault) → (list_any (λ x. same_name y x) (role_names_in (all_decls d)) ≡ false → g y ≡ [])
    → among rule (g y) f ≡ list_any (λ x. among rule (if same_name x y then g x else []) f) (role_names_in (all_decls d))
of-name d rule g y f none = by (list_any (λ x. same_name y x) (role_names_in (all_decls d))) refl ∙ sym (at-name rule g y f (role_names_in (all_decls d)))
  where
    by : (b : Bool) → list_any (λ x. same_name y x) (role_names_in (all_decls d)) ≡ b → among rule (g y) f ≡ (list_any (λ x. same_name y x) (role_names_in (all_decls d)) && among rule (g y) f)
    by true e = ap (λ b. b && among rule (g y) f) (sym e)
    by false e = ap (λ l. among rule l f) (none e) ∙ among-none rule f ∙ ap (λ b. b && among rule (g y) f) (sym e)

-- what a test asks of statements, or nothing
under : (b : Bool) (g : Stmt → List ℕ) (xs : List Stmt) → (if b then flat_map g xs else []) ≡ flat_map (λ a. if b then g a else []) xs
under true g xs = refl
under false g xs = sym (flat-none xs)

-- ---- the rules, one by one

choices : (d : Design) (f : Fault) → among last_choice (fails_at last_choice d) f ≡ list_any (λ x. among last_choice (flat_map choice_fails (last_body d x)) f) (role_names_in (all_decls d))
choices d f =
    roles-among d last_choice (λ x. flat_map (λ (y : StmtSite). unless (not (is_choice y.s)) (stmt_at y.s)) (last_stmts d x)) f
    ∙ any-same _ (λ x. among last_choice (flat_map choice_fails (last_body d x)) f) (λ x. ap (λ l. among last_choice l f) (choices-body d x)) (role_names_in (all_decls d))

abbrev called : List ℕ → Name
called x = record { at = 0; text = x }

wires : (d : Design) (f : Fault) → among not_wire (fails_at not_wire d) f ≡ list_any (λ x. among not_wire (flat_map (wire_at d (called x)) (last_body d x)) f) (role_names_in (all_decls d))
wires d f = by (host_decl d) (switch_decl d)
  where
    none : false ≡ list_any (λ x. among not_wire (flat_map (λ (a : Stmt). []) (last_body d x)) f) (role_names_in (all_decls d))
    none = sym (any-none (λ x. among not_wire (flat_map (λ (a : Stmt). []) (last_body d x)) f) (λ x. ap (λ l. among not_wire l f) (flat-none (last_body d x)) ∙ among-none not_wire f) (role_names_in (all_decls d)))

    by : (h : Option HostDecl) (s : Option SwitchDecl)
        → among not_wire (elim h [ None ↦ [] | Some host ↦ elim s [ None ↦ [] | Some switch ↦ flat_map (λ (r : Name). if is_wire host switch r then flat_map (wire_stmt host switch r) (last_stmts d r.text) else []) (all_roles d) ] ]) f
        ≡ list_any (λ x. among not_wire (flat_map (λ a. elim h [ None ↦ [] | Some host ↦ elim s [ None ↦ [] | Some switch ↦ if is_wire host switch (called x) then wire_gives host switch (called x) a else [] ] ]) (last_body d x)) f) (role_names_in (all_decls d))
    by None s = among-none not_wire f ∙ none
    by (Some host) None = among-none not_wire f ∙ none
    by (Some host) (Some switch) =
        roles-among d not_wire (λ x. if is_wire host switch (called x) then flat_map (wire_stmt host switch (called x)) (last_stmts d x) else []) f
        ∙ any-same _ _ (λ x. ap (λ l. among not_wire l f)
        (ap (λ l. if is_wire host switch (called x) then l else []) (wires-body d x host switch (called x))
        ∙ under (is_wire host switch (called x)) (wire_gives host switch (called x)) (last_body d x))) (role_names_in (all_decls d))

-- the statements of the first switch role, by its name
into : (d : Design) (s : SwitchDecl) → switch_decl d ≡ Some s → into_stmts d ≡ last_stmts d s.into.text
into d s e = ap (λ (o : Option SwitchDecl). elim o [ None ↦ [] | Some t ↦ last_stmts d t.into.text ]) e

-- what a rule gives of them, where there is a first switch role
of-into : (d : Design) (rule : Rule) (f : Fault) (g : SwitchDecl → List ℕ → Stmt → List ℕ) (given : SwitchDecl → List ℕ) (so : Option SwitchDecl)
    → ((s : SwitchDecl) → so ≡ Some s → given s ≡ flat_map (g s s.into.text) (last_body d s.into.text))
    → among rule (elim so [ None ↦ [] | Some s ↦ given s ]) f
    ≡ list_any (λ x. among rule (flat_map (λ a. elim so [ None ↦ [] | Some s ↦ if same_name x s.into.text then g s x a else [] ]) (last_body d x)) f) (role_names_in (all_decls d))
of-into d rule f g given None h =
    among-none rule f
    ∙ sym (any-none (λ x. among rule (flat_map (λ (a : Stmt). []) (last_body d x)) f) (λ x. ap (λ l. among rule l f) (flat-none (last_body d x)) ∙ among-none rule f) (role_names_in (all_decls d)))
of-into d rule f g given (Some s) h =
    ap (λ l. among rule l f) (h s refl)
    ∙ of-name d rule (λ x. flat_map (g s x) (last_body d x)) s.into.text f (λ e. ap (flat_map (g s s.into.text)) (no-role d s.into.text e))
    ∙ any-same _ _ (λ x. ap (λ l. among rule l f) (under (same_name x s.into.text) (g s x) (last_body d x))) (role_names_in (all_decls d))

sends : (d : Design) (f : Fault) → among not_switch_form (elim (switch_decl d) [ None ↦ [] | Some s ↦ switch_sends d s ]) f
    ≡ list_any (λ x. among not_switch_form (flat_map (send_at d x) (last_body d x)) f) (role_names_in (all_decls d))
sends d f = of-into d not_switch_form f (λ s x. send_gives s.out.text (role_at (last_level d) d x)) (switch_sends d) (switch_decl d)
    (λ s e. ap (flat_map (send_given s.out.text (role_at (last_level d) d s.into.text))) (into d s e) ∙ sends-body d s.into.text s.out.text (role_at (last_level d) d s.into.text))

forks : (d : Design) (f : Fault) → among fork_form (fails_at fork_form d) f ≡ list_any (λ x. among fork_form (flat_map (fork_at d x) (last_body d x)) f) (role_names_in (all_decls d))
forks d f =
    ap (λ l. among fork_form l f) (known (switch_decl d))
    ∙ of-into d fork_form f (λ s x. fork_gives d) (λ s. flat_map (fork_given d) (last_stmts d s.into.text)) (switch_decl d) (λ s e. forks-body d s.into.text)
  where
    known : (so : Option SwitchDecl) → flat_map (fork_given d) (elim so [ None ↦ [] | Some s ↦ last_stmts d s.into.text ]) ≡ (elim so [ None ↦ [] | Some s ↦ flat_map (fork_given d) (last_stmts d s.into.text) ])
    known None = refl
    known (Some s) = refl

-- ---- all of them

in-role : (d : Design) (x : List ℕ) (f : Fault) → in_role d x f
    ≡ (((among last_choice (flat_map choice_fails (last_body d x)) f || among not_wire (flat_map (wire_at d (called x)) (last_body d x)) f)
    || among not_switch_form (flat_map (send_at d x) (last_body d x)) f) || among fork_form (flat_map (fork_at d x) (last_body d x)) f)
in-role d x f = by (last_body d x)
  where
    by : (b : List Stmt) → list_any (λ a. at_last d x a f) b
        ≡ (((among last_choice (flat_map choice_fails b) f || among not_wire (flat_map (wire_at d (called x)) b) f)
        || among not_switch_form (flat_map (send_at d x) b) f) || among fork_form (flat_map (fork_at d x) b) f)
    by b =
        any-or (λ a. (among last_choice (choice_fails a) f || among not_wire (wire_at d (called x) a) f) || among not_switch_form (send_at d x a) f) (λ a. among fork_form (fork_at d x a) f) b
        ∙ ap (λ t. t || list_any (λ a. among fork_form (fork_at d x a) f) b)
        (any-or (λ a. among last_choice (choice_fails a) f || among not_wire (wire_at d (called x) a) f) (λ a. among not_switch_form (send_at d x a) f) b
        ∙ ap (λ t. t || list_any (λ a. among not_switch_form (send_at d x a) f) b) (any-or (λ a. among last_choice (choice_fails a) f) (λ a. among not_wire (wire_at d (called x) a) f) b))
        ∙ (λ i. ((any-among last_choice choice_fails b f i || any-among not_wire (wire_at d (called x)) b f i) || any-among not_switch_form (send_at d x) b f i) || any-among fork_form (fork_at d x) b f i)

four : (c w s k : Bool) → (((c || w) || s) || k) ≡ (s || w || c || k)
four true true true k = refl
four true true false k = refl
four true false true k = refl
four true false false k = refl
four false true true k = refl
four false true false k = refl
four false false true k = refl
four false false false k = refl

-- tests of four rules, one by one
apart : (c w s k : List ℕ → Bool) (xs : List (List ℕ)) → list_any (λ x. ((c x || w x) || s x) || k x) xs ≡ (((list_any c xs || list_any w xs) || list_any s xs) || list_any k xs)
apart c w s k xs =
    any-or (λ x. (c x || w x) || s x) k xs
    ∙ ap (λ t. t || list_any k xs) (any-or (λ x. c x || w x) s xs ∙ ap (λ t. t || list_any s xs) (any-or c w xs))

pub of-bodies : (d : Design) (f : Fault) → in_roles d (role_names_in (all_decls d)) f ≡ is_body_fault d f
of-bodies d f =
    any-same (λ x. in_role d x f) _ (λ x. in-role d x f) (role_names_in (all_decls d))
    ∙ apart (λ x. among last_choice (flat_map choice_fails (last_body d x)) f) (λ x. among not_wire (flat_map (wire_at d (called x)) (last_body d x)) f)
    (λ x. among not_switch_form (flat_map (send_at d x) (last_body d x)) f) (λ x. among fork_form (flat_map (fork_at d x) (last_body d x)) f) (role_names_in (all_decls d))
    ∙ (λ i. ((sym (choices d f) i || sym (wires d f) i) || sym (sends d f) i) || sym (forks d f) i)
    ∙ four (among last_choice (fails_at last_choice d) f) (among not_wire (fails_at not_wire d) f) (among not_switch_form (elim (switch_decl d) [ None ↦ [] | Some t ↦ switch_sends d t ]) f) (among fork_form (fails_at fork_form d) f)

-- the sends of the first switch role, as its last declaration has it
pub sender-known : (d : Design) (x : List ℕ) (s : SwitchDecl) (role : Role) (own : Option Param) → switch_decl d ≡ Some s → same_name x s.into.text ≡ true → role_at (last_level d) d x ≡ Some role
    → own ≡ first_of role.params → (a : Stmt) → unless (sends_own s.out.text own a) (stmt_at a) ≡ send_at d x a
sender-known d x s role own hs hx hr ho a =
    ap (λ o. unless (sends_own s.out.text o a) (stmt_at a)) ho
    ∙ ap (λ (ro : Option Role). unless (sends_own s.out.text (option_and_then (λ (r : Role). first_of r.params) ro) a) (stmt_at a)) (sym hr)
    ∙ ap (λ b. if b then unless (sends_own s.out.text (option_and_then (λ (r : Role). first_of r.params) (role_at (last_level d) d x)) a) (stmt_at a) else []) (sym hx)
    ∙ ap (λ (so : Option SwitchDecl). elim so [
      | None ↦ []
      | Some t ↦ if same_name x t.into.text then unless (sends_own t.out.text (option_and_then (λ (r : Role). first_of r.params) (role_at (last_level d) d x)) a) (stmt_at a) else []
    ]) (sym hs)

-- the first parameter
pub first-param : (o : Option (Bor Parameter)) (xs ys : List Parameter) → option_map (λ (p : Bor Parameter). p.now) o ≡ slice_get xs 0 → xs ≡ ys
    → option_map (λ (p : Bor Parameter). param_of p.now) o ≡ first_of (map param_of ys)
first-param o xs ys h e = seen o ∙ ap (option_map param_of) (h ∙ ap (λ (zs : List Parameter). slice_get zs 0) e) ∙ first ys
  where
    seen : (q : Option (Bor Parameter)) → option_map (λ (p : Bor Parameter). param_of p.now) q ≡ option_map param_of (option_map (λ (p : Bor Parameter). p.now) q)
    seen None = refl
    seen (Some p) = refl

    first : (zs : List Parameter) → option_map param_of (slice_get zs 0) ≡ first_of (map param_of zs)
    first [] = refl
    first (z ∷ zs) = refl

-- the body of a role that is found
pub last-known : (d : Design) (x : List ℕ) (r : Role) (b : Block) → role_at (last_level d) d x ≡ Some r → r.body ≡ Some b → last_body d x ≡ stmts_in b
last-known d x r b hr hb =
    ap (λ (ro : Option Role). elim ro [ None ↦ [] | Some q ↦ elim q.body [ None ↦ [] | Some c ↦ stmts_in c ] ]) hr
    ∙ ap (λ (bo : Option Block). elim bo [ None ↦ [] | Some c ↦ stmts_in c ]) hb
