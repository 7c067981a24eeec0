-- The functions of guards and of forks, as the code finds them.
use Rattle.std.proofs.Common.{◌≡◌, ℕ, ◌+◌, ◌<◌, ◌||◌, Bool, true, false, List, [], ◌∷◌, ◌++◌, map, take, length, get_or, Option, Some, None, refl, sym, ap, ap₂, ◌∙◌}
use Rattle.std.specs.Prelude.{flat_map, filter_map, option_map, option_and_then}
use Rattle.std.proofs.lemmas.List.{append_assoc, append-nil, take_more}
use Rattle.std.proofs.lemmas.List.Folds.{list_any-append}
use Rattle.std.proofs.lemmas.Grind.{flat_map-append}
use Rattle.cocoon_num.specs.Tree.{Name, Role, HostDecl, SwitchDecl, Stmt, let_, set_field, if_, filter, havoc_var, havoc_field, assume, fork, send, Block, no_stmts, stmt, Design}
use Rattle.cocoon_num.specs.Names.{same_name}
use Rattle.cocoon_num.specs.Lists.{is_one_of}
use Rattle.cocoon_syntax.specs.TreeOf.{block_of, stmt_of}
use Rattle.cocoon_syntax.specs.declared.stmt.Stmt.{Stmt as Statement}
use Rattle.cocoon_types.specs.DefsRules.{fork_calls, guard_call, guard_calls}
use Rattle.cocoon_types.specs.Design.{functions, host_decl, last_level, role_at, switch_decl}
use Rattle.cocoon_types.specs.LastLevel.{called, of_host, switch_roles, last_stmts}
use Rattle.cocoon_types.specs.Sites.{StmtSite, stmts_at, stmts_in, after_stmt, stmt_ends}
use Rattle.cocoon_types.specs.Typing.{Scope, with_var}
use Rattle.runtime_defs.specs.Sets.{entry_role, forks_in, forks_of, last_role, role_forks, role_guard, switch_forks, switch_guards}

or-turn : (a b : Bool) → (a || b) ≡ (b || a)
or-turn true true = refl
or-turn true false = refl
or-turn false true = refl
or-turn false false = refl

among : List (List ℕ) → List ℕ → Bool
among fs x = is_one_of fs x

-- names in two parts, in any order
pub either-order : (fs gs : List (List ℕ)) (x : List ℕ) → is_one_of (fs ++ gs) x ≡ is_one_of (gs ++ fs) x
either-order fs gs x = list_any-append (λ y. same_name y x) fs gs ∙ or-turn (is_one_of fs x) (is_one_of gs x) ∙ sym (list_any-append (λ y. same_name y x) gs fs)

pub alike-both : (fs gs hs is : List (List ℕ)) (x : List ℕ) → is_one_of fs x ≡ is_one_of hs x → is_one_of gs x ≡ is_one_of is x → is_one_of (fs ++ gs) x ≡ is_one_of (hs ++ is) x
alike-both fs gs hs is x h k = list_any-append (λ y. same_name y x) fs gs ∙ ap₂ (◌||◌) h k ∙ sym (list_any-append (λ y. same_name y x) hs is)

-- ---- guards

sink-there : (d : Design) (h : HostDecl) (e : Role) (s : Option Role) → elim s [ None ↦ [] | Some s ↦ guard_call e.guard ] ≡ role_guard (option_map (λ (_ : Role). e) s)
sink-there d h e None = refl
sink-there d h e (Some s) = refl

entry-there : (d : Design) (h : HostDecl) (e : Option Role) (s : Option Role)
    → elim e [ None ↦ [] | Some e ↦ elim s [ None ↦ [] | Some s ↦ guard_call e.guard ] ] ≡ role_guard (option_and_then (λ (e : Role). option_map (λ (_ : Role). e) s) e)
entry-there d h None s = refl
entry-there d h (Some e) s = sink-there d h e s

host-there : (d : Design) (o : Option HostDecl)
    → elim o [ None ↦ [] | Some h ↦ elim (role_at 0 d h.entry.text) [ None ↦ [] | Some e ↦ elim (role_at 0 d h.sink.text) [ None ↦ [] | Some s ↦ guard_call e.guard ] ] ]
    ≡ role_guard (option_and_then (λ (h : HostDecl). option_and_then (λ (e : Role). option_map (λ (_ : Role). e) (role_at 0 d h.sink.text)) (role_at 0 d h.entry.text)) o)
host-there d None = refl
host-there d (Some h) = entry-there d h (role_at 0 d h.entry.text) (role_at 0 d h.sink.text)

pub host-calls : (d : Design) → of_host d (λ h e s. guard_call e.guard) ≡ role_guard (entry_role d)
host-calls d = host-there d (host_decl d)

one-role : (o : Option Role) (rs : List Role) → flat_map (λ (r : Role). guard_call r.guard) (elim o [ None ↦ rs | Some r ↦ r ∷ rs ]) ≡ role_guard o ++ flat_map (λ (r : Role). guard_call r.guard) rs
one-role None rs = refl
one-role (Some r) rs = refl

abbrev roles-of : Design → List Name → List Role
roles-of d ns = filter_map (λ (n : Name). role_at (last_level d) d n.text) ns

roles-step : (d : Design) (n : Name) (ns : List Name) → flat_map (λ (r : Role). guard_call r.guard) (roles-of d (n ∷ ns)) ≡ role_guard (last_role d n.text) ++ flat_map (λ (r : Role). guard_call r.guard) (roles-of d ns)
roles-step d n ns = by (role_at (last_level d) d n.text) refl
  where
    by : (o : Option Role) → role_at (last_level d) d n.text ≡ o → flat_map (λ (r : Role). guard_call r.guard) (roles-of d (n ∷ ns)) ≡ role_guard (last_role d n.text) ++ flat_map (λ (r : Role). guard_call r.guard) (roles-of d ns)
    by None e = rw e refl
    by (Some r) e = rw e refl

switches-there : (d : Design) (o : Option SwitchDecl) (x : List ℕ)
    → is_one_of (elim o [ None ↦ [] | Some s ↦ role_guard (last_role d s.out.text) ++ role_guard (last_role d s.into.text) ]) x
    ≡ is_one_of (flat_map (λ (r : Role). guard_call r.guard) (roles-of d (elim o [ None ↦ [] | Some s ↦ s.into ∷ s.out ∷ [] ]))) x
switches-there d None x = refl
switches-there d (Some s) x =
    either-order (role_guard (last_role d s.out.text)) (role_guard (last_role d s.into.text)) x
    ∙ ap (λ l. is_one_of (role_guard (last_role d s.into.text) ++ l) x) (sym (append-nil (role_guard (last_role d s.out.text))))
    ∙ ap (λ l. is_one_of (role_guard (last_role d s.into.text) ++ l) x) (sym (roles-step d s.out []))
    ∙ ap (λ l. is_one_of l x) (sym (roles-step d s.into (s.out ∷ [])))

-- the functions of all guards
pub guards-alike : (d : Design) (x : List ℕ) → is_one_of (switch_guards d ++ role_guard (entry_role d)) x ≡ is_one_of (guard_calls d) x
guards-alike d x = either-order (switch_guards d) (role_guard (entry_role d)) x
    ∙ alike-both (role_guard (entry_role d)) (switch_guards d) (of_host d (λ h e s. guard_call e.guard)) (flat_map (λ (r : Role). guard_call r.guard) (switch_roles d)) x
    (ap (λ l. is_one_of l x) (sym (host-calls d)))
    (switches-there d (switch_decl d) x)

-- ---- forks

abbrev fork-call : StmtSite → List (List ℕ)
fork-call site = elim site.s [ fork at x w e b ↦ called e ∷ [] | _ ↦ [] ]

mutual
  stmt-forks : (s : Scope) (ended : Bool) (a : Stmt) (x : List ℕ) → is_one_of (flat_map fork-call (stmts_at s ended a)) x ≡ is_one_of (forks_of a) x
  stmt-forks s ended (let_ at y w e) x = refl
  stmt-forks s ended (set_field at h f e) x = refl
  stmt-forks s ended (if_ at e a b) x =
      ap (λ l. is_one_of l x) (flat_map-append fork-call (stmts_in s false a) (stmts_in s false b))
      ∙ either-order (flat_map fork-call (stmts_in s false a)) (flat_map fork-call (stmts_in s false b)) x
      ∙ alike-both (flat_map fork-call (stmts_in s false b)) (flat_map fork-call (stmts_in s false a)) (forks_in b) (forks_in a) x (block-forks s false b x) (block-forks s false a x)
  stmt-forks s ended (filter at e) x = refl
  stmt-forks s ended (havoc_var at y w) x = refl
  stmt-forks s ended (havoc_field at h f) x = refl
  stmt-forks s ended (assume at e) x = refl
  stmt-forks s ended (fork at y w e b) x =
      either-order (called e ∷ []) (flat_map fork-call (stmts_in (with_var y w s) false b)) x
      ∙ alike-both (flat_map fork-call (stmts_in (with_var y w s) false b)) (called e ∷ []) (forks_in b) (called e ∷ []) x (block-forks (with_var y w s) false b x) refl
  stmt-forks s ended (send at r es) x = refl

  block-forks : (s : Scope) (ended : Bool) (b : Block) (x : List ℕ) → is_one_of (flat_map fork-call (stmts_in s ended b)) x ≡ is_one_of (forks_in b) x
  block-forks s ended no_stmts x = refl
  block-forks s ended (stmt a rest) x =
      ap (λ l. is_one_of l x) (flat_map-append fork-call (stmts_at s ended a) (stmts_in (after_stmt a s) (ended || stmt_ends a) rest))
      ∙ either-order (flat_map fork-call (stmts_at s ended a)) (flat_map fork-call (stmts_in (after_stmt a s) (ended || stmt_ends a) rest)) x
      ∙ alike-both (flat_map fork-call (stmts_in (after_stmt a s) (ended || stmt_ends a) rest)) (flat_map fork-call (stmts_at s ended a)) (forks_in rest) (forks_of a) x
      (block-forks (after_stmt a s) (ended || stmt_ends a) rest x) (stmt-forks s ended a x)

-- one statement more
forks-snoc : (ss : List Statement) (a : Statement) → forks_in (block_of (map stmt_of (ss ++ a ∷ []))) ≡ forks_of (stmt_of a) ++ forks_in (block_of (map stmt_of ss))
forks-snoc [] a = sym (append-nil (forks_of (stmt_of a)))
forks-snoc (b ∷ ss) a = ap (λ l. l ++ forks_of (stmt_of b)) (forks-snoc ss a) ∙ append_assoc (forks_of (stmt_of a)) (forks_in (block_of (map stmt_of ss))) (forks_of (stmt_of b))

pub forks-more : (ss : List Statement) (i : ℕ) (a : Statement) (fs : List (List ℕ)) → i < length ss → a ≡ get_or ss i a
    → forks_of (stmt_of a) ++ (forks_in (block_of (map stmt_of (take i ss))) ++ fs) ≡ forks_in (block_of (map stmt_of (take (i + 1) ss))) ++ fs
forks-more ss i a fs l h =
    sym (append_assoc (forks_of (stmt_of a)) (forks_in (block_of (map stmt_of (take i ss)))) fs)
    ∙ ap (λ l. l ++ fs) (sym (forks-snoc (take i ss) a))
    ∙ ap (λ ss. forks_in (block_of (map stmt_of ss)) ++ fs) (ap (λ y. take i ss ++ y ∷ []) h ∙ sym (take_more ss i a l))

last-there : (d : Design) (o : Option Role) (x : List ℕ)
    → is_one_of (role_forks o) x
    ≡ is_one_of (flat_map fork-call (elim o [ None ↦ [] | Some r ↦ elim r.body [ None ↦ [] | Some b ↦ stmts_in (record { design = d; vars = r.params; before = functions d; level = last_level d; packet = true }) false b ] ])) x
last-there d None x = refl
last-there d (Some r) x = body-there r.body
  where
    body-there : (o : Option Block) → is_one_of (elim o [ None ↦ [] | Some b ↦ forks_in b ]) x
        ≡ is_one_of (flat_map fork-call (elim o [ None ↦ [] | Some b ↦ stmts_in (record { design = d; vars = r.params; before = functions d; level = last_level d; packet = true }) false b ])) x
    body-there None = refl
    body-there (Some b) = sym (block-forks (record { design = d; vars = r.params; before = functions d; level = last_level d; packet = true }) false b x)

-- the functions of all forks
switch-there : (d : Design) (o : Option SwitchDecl) (x : List ℕ)
    → is_one_of (elim o [ None ↦ [] | Some s ↦ role_forks (last_role d s.into.text) ]) x ≡ is_one_of (flat_map fork-call (elim o [ None ↦ [] | Some s ↦ last_stmts d s.into.text ])) x
switch-there d None x = refl
switch-there d (Some s) x = last-there d (last_role d s.into.text) x

pub forks-alike : (d : Design) (x : List ℕ) → is_one_of (switch_forks d) x ≡ is_one_of (fork_calls d) x
forks-alike d x = switch-there d (switch_decl d) x
